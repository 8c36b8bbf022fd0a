use Rattle.std.proofs.Common.{◌≡◌, ℕ, ◌<◌, get_or, false}
use Rattle.admit_lists.specs.Lists.{is_comma}
use Rattle.admit_lists.proofs.reading.comma_in.Given as goal

abbrev pub invariant-loop-i : goal.invariant-loop-i
invariant-loop-i l = (k : ℕ) → k < l.i → is_comma (get_or l.text k 0) ≡ false
