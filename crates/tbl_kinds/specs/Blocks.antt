-- The blocks of the Critical Data Store, and what is known of their contents.
use Rattle.std.specs.Prelude.{ℕ, List, replicate, Bool, Option, None}
use Rattle.tbl_kinds.specs.declared.block.Block.{Block}

-- a block with what is known of its contents
pub record Stored : Type 0 where
  pub block : Block  -- its kind, place, size and full name
  pub held : Option (List ℕ)  -- its last completed image
  pub trying : List (List ℕ)  -- the images whose copy broke off since then, the oldest first
  pub doubtful : Bool  -- a write of its gate byte broke off; else it is open

-- 128 directory slots
abbrev pub Store : Type 0
Store = List (Option Stored)

abbrev pub empty_store : Store
empty_store = replicate 128 None
