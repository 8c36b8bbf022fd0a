-- A packet whose body another call appends.
use Rattle.std.specs.Prelude.{◌≡◌, ℕ, ◌+◌, ◌≤◌, List, ◌++◌, length}
use Rattle.tbl_kinds.specs.Buffers.{Buffer}

-- so many bytes were put that they and each body of this length after them are what `packet` makes of the body
pub record Begins (packet : List ℕ → List ℕ) (body_len count : ℕ) (old new : Buffer) : Type 0 where
  pub bytes : (body : List ℕ) → length body ≡ body_len → new.list ++ body ≡ old.list ++ packet body
  pub room : old.spare ≤ new.spare + count
  pub len : length new.list ≡ length old.list + count
