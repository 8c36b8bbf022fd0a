-- What contracts see of bytes in memory.
use Rattle.std.specs.Prelude.{ℕ, List}

-- the bytes, and how many more fit into the room reserved after them
pub record Buffer : Type 0 where
  pub list : List ℕ
  pub spare : ℕ
