-- How many of the shared working buffers are free.
use Rattle.std.proofs.Common.{◌≤◌, ◌≡◌, ◌-◌, ℕ, List, [], ◌∷◌, length, count_by, is_none, refl, arith}
use Rattle.tbl_registry.specs.Seen.{padded}

pub free_places : (rows : List ℕ) → length rows ≤ 4 → count_by is_none (padded rows) ≡ 4 - length rows
free_places [] few = refl
free_places (a ∷ []) few = refl
free_places (a ∷ b ∷ []) few = refl
free_places (a ∷ b ∷ c ∷ []) few = refl
free_places (a ∷ b ∷ c ∷ d ∷ []) few = refl
free_places (a ∷ b ∷ c ∷ d ∷ e ∷ rows) few = absurd (omega (arith, few))
