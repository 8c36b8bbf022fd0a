-- How spellings are put into room that was reserved for them.
use Rattle.std.specs.Prelude.{◌≡◌, ℕ, ◌+◌, ◌≤◌, List, ◌++◌, length}
use Rattle.tbl_kinds.specs.Buffers.{Buffer}

-- this piece, which has so many bytes, was put after what was there, and takes its bytes of the room
pub record Appends (piece : List ℕ) (count : ℕ) (old new : Buffer) : Type 0 where
  pub bytes : new.list ≡ old.list ++ piece
  pub room : old.spare ≤ new.spare + count
  pub len : length new.list ≡ length old.list + count
