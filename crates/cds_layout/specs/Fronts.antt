-- The first bytes of a bank and the directory that they tell, once they were read.
use Rattle.std.specs.Prelude.{◌≡◌, ℕ, ◌≤◌, List, length, Option}
use Rattle.tbl_kinds.specs.Numbers.{piece}
use Rattle.tbl_kinds.specs.Places.{bank_size}
use Rattle.tbl_kinds.specs.declared.block.Block.{Block}
use Rattle.tbl_outside.specs.declared.bank.Bank.{Ghosts}
use Rattle.cds_layout.specs.Directory.{directory_len, directory_of}
use Rattle.cds_layout.specs.Lines.{CanBeTogether}
use Rattle.cds_layout.specs.declared.listing.Front.{Front}

-- these bytes begin so, and tell this directory
pub record IsFront (front : List ℕ) (directory : List (Option Block)) (bytes : List ℕ) : Type 0 where
  pub read : front ≡ piece 0 directory_len bytes
  pub told : directory ≡ directory_of bytes

-- they were read of a bank that has room for a store
pub record WasRead {B : Type 0} (g : Ghosts B) (bank : B) (front : List ℕ) (directory : List (Option Block)) : Type 0 where
  pub len : length front ≡ directory_len
  pub room : bank_size ≤ g.size bank
  -- whatever the bytes were
  pub together : CanBeTogether directory
  pub is : g.tells → IsFront front directory (g.now bank)

abbrev pub WasReadOf : {B : Type 0} → Ghosts B → B → Front → Type 0
WasReadOf g bank front = WasRead g bank front.bytes.items front.directory
