use Rattle.std.proofs.Common.{◌≡◌, count_by, take}
use Rattle.tbl_top.specs.Drilling.{is_of}
use Rattle.tbl_top.proofs.summary.count_of.Given as goal

abbrev pub invariant-entries : goal.invariant-entries
invariant-entries l = l.count ≡ count_by (is_of l.class) (take l.entry-index l.entries)
