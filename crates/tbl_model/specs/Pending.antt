-- Pending validations: pairs of a row and whether its last image is meant, or that of its open load.
use Rattle.std.specs.Prelude.{ℕ, ◌==◌, List, filter, Bool, not, ◌&&◌, if◌then◌else◌}
use Rattle.std.specs.List.{list_any}

abbrev pub same_image : Bool → Bool → Bool
same_image a b = if a then b else not b

abbrev pub is_pair : ℕ → Bool → ℕ × Bool → Bool
is_pair row active pair = (pair.0 == row) && same_image active pair.1

-- a validation of this image of this row is pending
abbrev pub is_pending : ℕ → Bool → List (ℕ × Bool) → Bool
is_pending row active pairs = list_any (is_pair row active) pairs

abbrev pub without_pair : ℕ → Bool → List (ℕ × Bool) → List (ℕ × Bool)
without_pair row active pairs = filter (λ pair. not (is_pair row active pair)) pairs

-- those of the tables in other rows
abbrev pub of_other_rows : ℕ → List (ℕ × Bool) → List (ℕ × Bool)
of_other_rows row pairs = filter (λ pair. not (pair.0 == row)) pairs
