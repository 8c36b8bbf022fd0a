-- A block is made in a free slot.
use Rattle.std.proofs.Common.{◌≡◌, ℕ, ◌≤◌, ◌==◌, List, length, slice_set, Bool, true, false, Option, Some, None, Result, Ok, Err, OnOk, IfErr, is_err, sym, ap, subst}
use Rattle.std.proofs.lemmas.Option.{same_Some}
use Rattle.tbl_kinds.specs.Places.{bank_size}
use Rattle.tbl_kinds.specs.Blocks.{Store as Blocks}
use Rattle.tbl_kinds.specs.StoreSteps.{new_block}
use Rattle.tbl_kinds.specs.declared.block.Block.{Block}
use Rattle.tbl_outside.specs.Bank.{Torn}
use Rattle.cds_layout.specs.Entries.{gate_open, gate_at, gate_place, told_at, tail_place, tail_len, block_in}
use Rattle.cds_layout.specs.Images.{turned_in}
use Rattle.cds_store.specs.Calls.{HasFlags, is_gate}
use Rattle.cds_store.specs.Moments.{ShowsIn}
use Rattle.cds_store.specs.Sound.{IsSound, IsNew}
use Rattle.cds_store.specs.StoreBlocks.{StandsFor, kept, with_new}
use Rattle.cds_store.specs.declared.fault.BankFault.{BankFault}
use Rattle.cds_store.specs.declared.slot.Slot.{Slot}
use Rattle.cds_store.proofs.Changes.{stands_show}
use Rattle.cds_store.proofs.Closing.{blocks_in, stands_told, held_told, stands_for, set_alike}
use Rattle.cds_store.proofs.Steps.{prepared, made_torn}
use Rattle.cds_store.proofs.Together.{together_set}

pub when_done : {T E P : Type 0} (r : Result T E) → OnOk r P → is_err r ≡ false → P
when_done (Ok x) done is = done
when_done (Err e) done is = absurd (cc is)

pub open_when_done : {T E P : Type 0} (r : Result T E) (bytes : List ℕ) (n : ℕ) → OnOk r (P → gate_at bytes n ≡ gate_open) → P → is_err r ≡ false → (gate_at bytes n == gate_open) ≡ true
open_when_done r bytes n done p is = ap (λ g. g == gate_open) (when_done r done is p)

pub on_done : {T E : Type 0} (r : Result T E) (P : Bool → Type 0) → P (is_err r) → OnOk r (P false)
on_done (Ok x) P is = is
on_done (Err e) P is = tt

pub on_error : {T E : Type 0} (r : Result T E) (P : Bool → Type 0) → P (is_err r) → IfErr r (λ fault. P true)
on_error (Ok x) P is = tt
on_error (Err e) P is = is

pub on_gate_fault : {T : Type 0} (r : Result T BankFault) (old : Bool) (P : Type 0) (Q : Bool → Type 0) → (P → Q true) → IfErr r (λ fault. P) → IfErr r (HasFlags true old) → IfErr r (λ fault. Q (is_gate fault))
on_gate_fault (Ok x) old P Q then is flags = tt
on_gate_fault (Err fault) old P Q then is flags = subst Q (sym flags.gate_is) (then is)

-- the rest of an entry, by its length
pub torn_tail : {old image : List ℕ} (n : ℕ) (tail : List ℕ) → length tail ≡ tail_len → Torn (tail_place n) (length tail) old image → Torn (tail_place n) tail_len old image
torn_tail {old} {image} n tail len torn = subst (λ count. Torn (tail_place n) count old image) len torn

module _ {B : Type 0} (tells : Type 0) (size : B → ℕ) (now : B → List ℕ) (slots : List (Option Slot)) (bank : B) (sound : IsSound tells size now (kept slots bank)) (n : ℕ) (block : Block) (is_new : IsNew n slots block) where
  -- ---- it is prepared

  pub prepared_shows : tells → (blocks : Blocks) → StandsFor tells now (kept slots bank) blocks → (image : List ℕ) → Torn (tail_place n) tail_len (now bank) image → ShowsIn blocks image
  prepared_shows told blocks stands image prepares =
      stands_show image slots blocks (prepared n slots blocks (now bank) image block (stands_told tells size now slots bank sound blocks stands told) is_new prepares)

  module _ (new : B) (room : bank_size ≤ size new) (prepares : tells → Torn (tail_place n) tail_len (now bank) (now new)) where
    pub prepared_sound : IsSound tells size now (kept slots new)
    prepared_sound = record {
      together = sound.together;
      room = room;
      matches = λ booted told. (prepared n slots (blocks_in (now bank) slots) (now bank) (now new) block (held_told tells size now slots bank sound told) is_new (prepares told)).matches;
    }

    pub prepared_for : (blocks : Blocks) → StandsFor tells now (kept slots bank) blocks → StandsFor tells now (kept slots new) blocks
    prepared_for blocks stands =
        stands_for tells now slots new blocks stands.slots
        (λ told. prepared n slots blocks (now bank) (now new) block (stands_told tells size now slots bank sound blocks stands told) is_new (prepares told))

  -- ---- its gate is opened

  module _ (entry : tells → block_in (told_at (now bank) n) ≡ Some block) (none : tells → turned_in (now bank) n ≡ None) where
    pub made_shows : tells → (blocks : Blocks) → StandsFor tells now (kept slots bank) blocks → (image : List ℕ) → Torn (gate_place n) 1 (now bank) image → ShowsIn (with_new true n block blocks) image
    made_shows told blocks stands image torn =
        stands_show image (slice_set slots n (Some (record { block = block; doubtful = true }))) (with_new true n block blocks)
        (made_torn n slots blocks (now bank) image block (stands_told tells size now slots bank sound blocks stands told) is_new true torn (entry told) (none told) (λ sure. absurd (cc sure)))

    module _ (new : B) (doubtful : Bool) (room : bank_size ≤ size new) (torn : tells → Torn (gate_place n) 1 (now bank) (now new)) (sure : tells → doubtful ≡ false → (gate_at (now new) n == gate_open) ≡ true) where
      made : Slot
      made = record { block = block; doubtful = doubtful }

      pub made_for : (blocks : Blocks) → StandsFor tells now (kept slots bank) blocks → StandsFor tells now (kept (slice_set slots n (Some (record { block = block; doubtful = doubtful }))) new) (with_new doubtful n block blocks)
      made_for blocks stands =
          stands_for tells now (slice_set slots n (Some (record { block = block; doubtful = doubtful }))) new (with_new doubtful n block blocks)
          (set_alike slots blocks n (Some (new_block doubtful block.kind block.name block.size block.offset)) stands.slots)
          (λ told. made_torn n slots blocks (now bank) (now new) block (stands_told tells size now slots bank sound blocks stands told) is_new doubtful (torn told) (entry told) (none told) (sure told))

      pub made_sound : IsSound tells size now (kept (slice_set slots n (Some (record { block = block; doubtful = doubtful }))) new)
      made_sound = record {
        together = together_set slots n (Some (record { block = block; doubtful = doubtful })) sound.together is_new.within
            (λ s is. rw (← same_Some (record { block = block; doubtful = doubtful }) s is) is_new.right)
            (λ k s t other there is. rw (← same_Some (record { block = block; doubtful = doubtful }) t is) (is_new.agrees k s there));
        room = room;
        matches = λ booted told.
            (made_torn n slots (blocks_in (now bank) slots) (now bank) (now new) block (held_told tells size now slots bank sound told) is_new doubtful (torn told) (entry told) (none told) (sure told)).matches;
      }
