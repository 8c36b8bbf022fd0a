use Rattle.std.proofs.Common.{◌≡◌, count_by, take}
use Rattle.table_watch.specs.Report.{is_changed}
use Rattle.table_watch.proofs.report.changed_count.Given as goal

abbrev pub invariant-looks : goal.invariant-looks
invariant-looks l = l.count ≡ count_by is_changed (take l.look-index l.looks)
