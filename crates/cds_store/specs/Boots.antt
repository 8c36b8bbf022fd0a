-- What a boot reads and writes.
use Rattle.std.specs.Prelude.{◌≡◌, ◌⊎◌, ℕ, ◌<◌, ◌≤◌, ◌==◌, ◌&&◌, List, length, [], ◌∷◌, replicate, Bool, true, false, not, Option, Some, None, is_some, slice_index, slice_index_or, Result, IfOk, OnOk, OnErr}
use Rattle.std.specs.List.{filter, range_with_len}
use Rattle.std.specs.Option.{option_map}
use Rattle.tbl_kinds.specs.Places.{bank_size}
use Rattle.tbl_outside.specs.declared.bank.Bank.{Ghosts}
use Rattle.tbl_kinds.specs.Numbers.{piece, byte_at}
use Rattle.tbl_kinds.specs.Blocks.{Store as Blocks}
use Rattle.tbl_kinds.specs.StoreSteps.{stored_at}
use Rattle.tbl_kinds.specs.declared.block.Block.{Block}
use Rattle.tbl_kinds.specs.declared.request.ResetKind.{ResetKind}
use Rattle.tbl_kinds.specs.declared.request.ResetKind.TheVariants.{Processor, PowerOn}
use Rattle.cds_layout.specs.Entries.{slot_count, gate_open, gate_at}
use Rattle.cds_layout.specs.Directory.{is_live, is_first_version, directory_len, directory_of}
use Rattle.cds_layout.specs.Lines.{AreRight}
use Rattle.cds_layout.specs.Images.{held_by, held_in, turned_in, store_of}
use Rattle.cds_layout.specs.declared.turns.Place.TheVariants.{First}
use Rattle.cds_store.specs.Sound.{slot_at, EntryIs}
use Rattle.cds_store.specs.StoreBlocks.{StoreParts, StandsFor}
use Rattle.cds_store.specs.declared.slot.Slot.{Slot}
use Rattle.cds_store.specs.declared.fault.BankFault.{BankFault}

-- a bank that has room for a store begins with these bytes
pub record BeginsSo {B : Type 0} (g : Ghosts B) (bank : B) (front : List ℕ) : Type 0 where
  pub len : length front ≡ directory_len
  pub room : bank_size ≤ g.size bank
  pub read : g.tells → front ≡ piece 0 directory_len (g.now bank)

-- a boot found these slots open, and left these slots; if it broke off, they are as before
pub record SettlesSlots (old new : List (Option Slot)) (numbers : List ℕ) (left : List (Option Slot)) (result : Result (List ℕ) BankFault) : Type 0 where
  pub found : IfOk result (λ found. found ≡ numbers)
  pub slots : OnOk result (new ≡ left)
  pub err : OnErr result (new ≡ old)

-- the same blocks are open, with the same images
pub record SameStore (old image : List ℕ) : Type 0 where
  pub directory : directory_of image ≡ directory_of old
  pub held : (n : ℕ) (b : Block) → slice_index_or (directory_of old) n None ≡ Some b → held_in image n b ≡ held_in old n b

-- of the first slots, the gates that have no block of the directory are closed
pub record Tidied (old now : List ℕ) (count : ℕ) : Type 0 where
  pub same : SameStore old now
  pub live : is_live now ≡ true
  pub version : is_first_version now ≡ is_first_version old
  pub shut : (n : ℕ) → n < count → n < slot_count → slice_index_or (directory_of old) n None ≡ None → (gate_at now n == gate_open) ≡ false
  pub rest : (n : ℕ) → count ≤ n → n < slot_count → gate_at now n ≡ gate_at old n

-- no block is open
abbrev pub IsEmptied : List ℕ → Type 0
IsEmptied image = directory_of image ≡ replicate slot_count None

-- the slot of a block that is open
abbrev pub opened_slot : Block → Slot
opened_slot b = record { block = b; doubtful = false }

-- the blocks of the directory can be there in this bank, and there is room to read any place of one
pub record CanCarry {B : Type 0} (g : Ghosts B) (bank : B) (directory : List (Option Block)) (room : List ℕ) : Type 0 where
  pub right : AreRight directory
  pub buffer : length room ≡ 16392
  pub bank_room : bank_size ≤ g.size bank

-- in a store of the first version, the turn bytes of the blocks of the first slots say what their first places hold. Until another version
-- is written there, no turn bytes are looked at
pub record Carried (old now : List ℕ) (count : ℕ) : Type 0 where
  pub same : SameStore old now
  pub live : is_live now ≡ true
  pub first : is_first_version old ≡ true
  pub version : is_first_version now ≡ true
  pub entries : (n : ℕ) → n < slot_count → EntryIs now n (option_map opened_slot (slice_index_or (directory_of old) n None))
  pub turned : (n : ℕ) (b : Block) → n < count → slice_index_or (directory_of old) n None ≡ Some b → held_by now b (turned_in now n) ≡ held_by now b (Some First)

-- the bytes match the directory of the old ones, with two places a block
pub record IsTidy (old now : List ℕ) : Type 0 where
  pub same : SameStore old now
  pub live : is_live now ≡ true
  pub version : is_first_version now ≡ false
  pub entries : (n : ℕ) → n < slot_count → EntryIs now n (option_map opened_slot (slice_index_or (directory_of old) n None))

abbrev pub is_doubtful_slot : Option Slot → Bool
is_doubtful_slot None = false
is_doubtful_slot (Some s) = s.doubtful

abbrev pub is_doubtful_at : List (Option Slot) → ℕ → Bool
is_doubtful_at slots n = is_doubtful_slot (slot_at slots n)

-- the first numbers that pass a test, in their order
unfoldable pub found_to : ℕ → (ℕ → Bool) → List ℕ
found_to count test = filter test (range_with_len 0 count)

-- the slots in doubt whose blocks are open
abbrev pub is_found : List (Option Slot) → List (Option Block) → ℕ → Bool
is_found slots directory n = is_doubtful_at slots n && is_some (slice_index_or directory n None)

abbrev pub found_open : List (Option Slot) → List (Option Block) → List ℕ
found_open slots directory = found_to slot_count (is_found slots directory)

abbrev pub found_in : List (Option Slot) → Blocks → List ℕ
found_in slots shown = found_to slot_count (λ n. is_doubtful_at slots n && is_some (stored_at shown n))

-- the blocks with which a boot begins: those that the store represents, or those that its bank shows
abbrev pub BeginsAt : {B : Type 0} → Type 0 → (B → List ℕ) → StoreParts B → Blocks → Type 0
BeginsAt tells now kept blocks = StandsFor tells now kept blocks ⊎ (tells × (blocks ≡ store_of (now kept.bank)))

-- the first byte of the live mark isn't there
abbrev pub is_dead : List ℕ → Bool
is_dead bytes = not (byte_at 0 bytes == 0x43)

-- after the first byte, the rest of the live mark, and the version
abbrev pub HasMark : List ℕ → Type 0
HasMark bytes = piece 1 3 bytes ≡ 0x44 ∷ 0x53 ∷ 0x32 ∷ []

-- all gates are closed
abbrev pub AllShut : List ℕ → Type 0
AllShut bytes = (n : ℕ) → n < slot_count → (gate_at bytes n == gate_open) ≡ false

-- a live bank with two places a block, whose gates are closed
pub record IsCleared (bytes : List ℕ) : Type 0 where
  pub live : is_live bytes ≡ true
  pub version : is_first_version bytes ≡ false
  pub shut : AllShut bytes

abbrev pub AreZeros : List ℕ → Type 0
AreZeros bytes = (i : ℕ) → slice_index bytes i ≡ 0

-- a bank that is cleared is as it was until it shows no block
abbrev pub Clears : List ℕ → List ℕ → Type 0
Clears old image = (image ≡ old) ⊎ IsEmptied image

-- the slots that a boot finds open
abbrev pub found_by : ResetKind → List (Option Slot) → Blocks → List ℕ
found_by Processor slots shown = found_in slots shown
found_by PowerOn slots shown = []
