use Rattle.std.proofs.Common.{◌≡◌, ◌++◌, take}
use Rattle.std.specs.List.{flat_map}
use Rattle.table_watch.specs.Report.{line_of}
use Rattle.table_watch.proofs.report.write_report.Given as goal

-- the lines of the looks so far were written
abbrev pub invariant-looks : goal.invariant-looks
invariant-looks l = l.text.list ≡ flat_map line_of (take l.look-index l.looks)
