-- What holds of all that a store keeps, and how the bytes of its bank match it.
use Rattle.std.specs.Prelude.{◌≡◌, ◌≢◌, ℕ, ◌≤◌, ◌<◌, ◌==◌, List, length, true, false, Option, Some, None, slice_index_or}
use Rattle.std.specs.Option.{ForSome}
use Rattle.tbl_kinds.specs.Places.{bank_size}
use Rattle.tbl_kinds.specs.declared.block.Block.{Block}
use Rattle.tbl_outside.specs.declared.bank.Bank.{Ghosts}
use Rattle.cds_layout.specs.Entries.{slot_count, gate_open, gate_at, told_at, block_in, is_right}
use Rattle.cds_layout.specs.Directory.{directory_len, is_live, is_first_version, agree}
use Rattle.cds_store.specs.StoreBlocks.{StoreParts, kept}
use Rattle.cds_store.specs.declared.slot.Slot.{Slot}

abbrev pub slot_at : List (Option Slot) → ℕ → Option Slot
slot_at slots n = slice_index_or slots n None

-- the blocks of the slots can be there together
pub record AreTogether (slots : List (Option Slot)) : Type 0 where
  pub all_slots : length slots ≡ slot_count
  pub right : (n : ℕ) → ForSome (slot_at slots n) (λ s. is_right s.block ≡ true)
  pub apart : (n m : ℕ) → n ≢ m → ForSome (slot_at slots n) (λ a. ForSome (slot_at slots m) (λ b. agree a.block b.block ≡ true))

-- the entry of a free slot has a closed gate; that of a taken one has its block, and its gate is open or in doubt
abbrev pub EntryIs : List ℕ → ℕ → Option Slot → Type 0
EntryIs bytes n None = (gate_at bytes n == gate_open) ≡ false
EntryIs bytes n (Some s) = (block_in (told_at bytes n) ≡ Some s.block) × (s.doubtful ≡ false → (gate_at bytes n == gate_open) ≡ true)

-- the bytes are those of a live bank with two places a block, whose entries are those of the slots
pub record Matches (bytes : List ℕ) (slots : List (Option Slot)) : Type 0 where
  pub live : is_live bytes ≡ true
  pub version : is_first_version bytes ≡ false
  pub entries : (n : ℕ) → n < slot_count → EntryIs bytes n (slot_at slots n)

-- what holds of a store: once it was booted, its bank matches its slots
pub record IsSound {B : Type 0} (tells : Type 0) (size : B → ℕ) (now : B → List ℕ) (kept : StoreParts B) : Type 0 where
  pub together : AreTogether kept.slots
  pub room : bank_size ≤ size kept.bank
  pub matches : kept.booted ≡ true → tells → Matches (now kept.bank) kept.slots

-- the same of booted slots and a bank
abbrev pub SoundOver : {B : Type 0} → Ghosts B → List (Option Slot) → B → Type 0
SoundOver g slots bank = IsSound g.tells g.size g.now (kept slots bank)

-- a block that can be made in this slot, besides those that are there
pub record IsNew (n : ℕ) (slots : List (Option Slot)) (block : Block) : Type 0 where
  pub within : n < slot_count
  pub free : slot_at slots n ≡ None
  pub right : is_right block ≡ true
  pub agrees : (k : ℕ) (s : Slot) → slot_at slots k ≡ Some s → agree block s.block ≡ true

-- the bank has room for a store, in which this block can be in this slot
pub record CanHold {B : Type 0} (g : Ghosts B) (bank : B) (slot : ℕ) (block : Block) : Type 0 where
  pub within : slot < slot_count
  pub right : is_right block ≡ true
  pub room : bank_size ≤ g.size bank

-- an open block whose image has this size
abbrev pub IsOpenOf : ℕ → Option Slot → Type 0
IsOpenOf size None = ⊥
IsOpenOf size (Some s) = (s.doubtful ≡ false) × (s.block.size ≡ size)

-- what holds of a store, of the bytes into which it reads the first ones of its bank, and of those in which it spells an image as a place
-- has it
pub record IsKept {B : Type 0} (tells : Type 0) (size : B → ℕ) (now : B → List ℕ) (kept : StoreParts B) (front room : List ℕ) : Type 0 where
  pub sound : IsSound tells size now kept
  pub len : length front ≡ directory_len
  pub room_len : length room ≡ 16392

-- what a store takes from memory: these slots, and the bytes of the two
pub record IsRoom (all : List (Option Slot)) (slots : List (Option Slot)) (first place : List ℕ) : Type 0 where
  pub slots_are : slots ≡ all
  pub front : length first ≡ directory_len
  pub place_len : length place ≡ 16392
