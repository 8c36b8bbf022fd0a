-- Rows after the memory of an image that a table has no more was taken out of one of them.
use Rattle.std.proofs.Common.{◌≡◌, ◌∙◌, ℕ, List, ap, slice_index_or, slice_set}
use Rattle.std.proofs.lemmas.List.{set-get_or}

-- nothing changes if a place gets what was read there
pub read_back : {X : Type 0} (xs : List X) (n : ℕ) (x : X) → x ≡ slice_index_or xs n x → slice_set xs n x ≡ xs
read_back xs n x is = ap (slice_set xs n) is ∙ set-get_or xs n x
