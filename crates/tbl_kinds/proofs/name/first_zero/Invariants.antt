use Rattle.std.proofs.Common.{◌≡◌, ℕ, ◌<◌, get_or, false}
use Rattle.tbl_kinds.specs.Names.{is_zero}
use Rattle.tbl_kinds.proofs.name.first_zero.Given as goal

abbrev pub invariant-loop-i : goal.invariant-loop-i
invariant-loop-i l = (k : ℕ) → k < l.i → is_zero (get_or l.field k 0) ≡ false
