-- Laws of the layout.
use Rattle.std.specs.Prelude.{◌≡◌, ℕ, ◌+◌, ◌<◌, ◌≤◌, List, [], ◌∷◌, length, Bool, true, false, Option, Some}
use Rattle.tbl_kinds.specs.Numbers.{piece}
use Rattle.tbl_kinds.specs.Records.{FitsField}
use Rattle.tbl_kinds.specs.declared.block.Block.{Block}
use Rattle.tbl_kinds.specs.declared.request.ResetKind.TheVariants.{Processor}
use Rattle.tbl_outside.specs.BankCalls.{BankCall, read, Makes}
use Rattle.cds_layout.specs.Directory.{directory_len, directory_of, is_live, is_first_version}
use Rattle.cds_layout.specs.Entries.{slot_count, tail_len, told_len, entry_tail, is_right, block_in}
use Rattle.cds_layout.specs.Images.{block_head, head_len}
use Rattle.cds_layout.specs.Lines.{CanBeTogether}
use Rattle.cds_layout.specs.Order.{restore_calls, copy_calls, reserve_calls, delete_calls, is_stray, boot_calls}

-- a written entry is read as the block that it was written for
abbrev pub EntriesAreRead : Type 0
EntriesAreRead = (b : Block) → is_right b ≡ true → FitsField 40 b.name → block_in (piece 0 told_len (entry_tail b)) ≡ Some b

-- an entry and a head fill their places
abbrev pub EntriesFill : Type 0
EntriesFill = (b : Block) → FitsField 40 b.name → length (entry_tail b) ≡ tail_len

abbrev pub HeadsFill : Type 0
HeadsFill = (size check : ℕ) → length (block_head size check) ≡ head_len

-- the blocks of a directory can be there together, whatever the bytes are, and the first bytes alone tell it
abbrev pub AllCanBeTogether : Type 0
AllCanBeTogether = (bytes : List ℕ) → CanBeTogether (directory_of bytes)

abbrev pub FrontTells : Type 0
FrontTells = (bytes : List ℕ) → directory_of (piece 0 directory_len bytes) ≡ directory_of bytes

-- how many bank calls one call of the store makes, done or broken off
abbrev pub RestoresAreShort : Type 0
RestoresAreShort = (bytes : List ℕ) (slot : ℕ) (b : Block) → length (restore_calls bytes slot b) ≤ 4

abbrev pub CopiesAreShort : Type 0
CopiesAreShort = (bytes : List ℕ) (slot : ℕ) (b : Block) (written : List ℕ) → length (copy_calls bytes slot b written) ≤ 4

abbrev pub ReservationsAreShort : Type 0
ReservationsAreShort = (old : Option ℕ) (slot : ℕ) (b : Block) → length (reserve_calls old slot b) ≤ 4

abbrev pub DeletesAreShort : Type 0
DeletesAreShort = (slot : ℕ) → length (delete_calls slot) ≤ 4

abbrev pub NoMoreAreMade : Type 0
NoMoreAreMade = (done : Bool) (calls past now : List BankCall) → Makes done calls past now → length now ≤ length past + length calls

-- a boot after a reset of the processor only reads, where each open gate is that of a block
abbrev pub BootsOnlyRead : Type 0
BootsOnlyRead = (bytes : List ℕ) → is_live bytes ≡ true → is_first_version bytes ≡ false
    → ((slot : ℕ) → slot < slot_count → is_stray bytes (directory_of bytes) slot ≡ false) → boot_calls Processor bytes ≡ read 0 directory_len ∷ []
