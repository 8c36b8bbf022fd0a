-- The rows that use the shared buffers.
use Rattle.std.specs.Prelude.{◌≡◌, ◌≤◌, ◌+◌, ℕ, List, ◌++◌, length, Option}
use Rattle.std.specs.List.{filter_map}
use Rattle.tbl_kinds.specs.Buffers.{Buffer}

-- the rows that are at some of the places
abbrev pub rows_in : List (Option ℕ) → List ℕ
rows_in places = filter_map (λ row. row) places

-- these rows were put last, in at most a byte for each place
pub record PutsRows (places : List (Option ℕ)) (old new : Buffer) : Type 0 where
  pub rows : new.list ≡ old.list ++ rows_in places
  pub room : old.spare ≤ new.spare + length places
  pub len : length new.list ≤ length old.list + length places
