-- What the open blocks of a bank hold comes back.
use Rattle.std.proofs.Common.{Err, ◌≡◌, inl, inr, ℕ, ◌+◌, option_and_then, List, [], ◌∷◌, map, slice_index_or, Bool, true, false, not, Option, Some, None, refl, sym, ◌∙◌, ap, subst}
use Rattle.std.specs.Option.{option_map, option_map_or, ForSome}
use Rattle.std.proofs.lemmas.Bool.{cases_eq, and_parts, and_from}
use Rattle.std.proofs.lemmas.Option.{same_Some}
use Rattle.std.proofs.lemmas.List.Quantifiers.{position-Some}
use Rattle.tbl_kinds.proofs.PositionLaws.{position-None}
use Rattle.tbl_kinds.specs.Blocks.{Stored, Store as Blocks}
use Rattle.tbl_kinds.specs.Places.{are_apart}
use Rattle.tbl_kinds.specs.StoreSteps.{same_block, is_of, is_open_of, open_of, stored_at, MayGive, MayShow, Shows, settled_from, booted, shown}
use Rattle.tbl_kinds.specs.declared.block.Block.{Block}
use Rattle.tbl_kinds.specs.declared.block.BlockKind.{BlockKind}
use Rattle.tbl_kinds.specs.declared.request.ResetKind.TheVariants.{Processor}
use Rattle.tbl_outside.specs.BankCalls.{BankCall, Asks}
use Rattle.cds_layout.specs.Directory.{directory_of}
use Rattle.cds_layout.specs.Images.{stored_in, stored_from, store_of}
use Rattle.cds_layout.proofs.DirectoryLaws.{directory-agree_both}
use Rattle.cds_store.specs.Moments.{ShowsIn, BootLeaves}
use Rattle.tbl_outside.specs.Counts.{Still, Rose}
use Rattle.cds_store.specs.Calls.{CallCounted}
use Rattle.cds_store.specs.declared.fault.BankFault.{BankFault}
use Rattle.cds_store.specs.declared.fault.BankFault.TheVariants.{Fault as BankFails, Stopped as Cut}
use Rattle.cds_store.specs.declared.recovery.RecoverFault.{RecoverFault}
use Rattle.cds_store.specs.declared.recovery.RecoverFault.TheVariants.{Fault, Stopped, Memory}
use Rattle.cds_store.specs.Recovery.{cause_of, RecoverCounted, Recovers, open_reads}
use Rattle.cds_store.specs.Slots.{is_open_slot, open_slot, block_of}
use Rattle.cds_store.specs.Sound.{slot_at}
use Rattle.cds_store.specs.declared.slot.Slot.{Slot}
use Rattle.cds_store.proofs.NewIsNew.{both_of, same_not}
use Rattle.cds_layout.specs.Order.{restore_calls}
use Rattle.cds_layout.proofs.Stored.{stored_there}
use Rattle.cds_layout.proofs.Restored.{unheld}
use Rattle.cds_layout.specs.Restores.{TellsTorn, words}
use Rattle.cds_layout.specs.declared.blocks.RestoreFault.{RestoreFault}
use Rattle.cds_store.specs.StoreBlocks.{AreHeld, held_at, slot_of}
use Rattle.cds_store.proofs.Showing.{slot_is}

-- ---- a block that is found is in its slot

none_there : (kind : BlockKind) (name : List ℕ) (o : Option Slot) → is_open_slot kind name o ≡ true → None ≡ option_map block_of o → ⊥
none_there kind name None opens none = cc opens
none_there kind name (Some s) opens none = cc none

pub found_there : (kind : BlockKind) (name : List ℕ) (slots : List (Option Slot)) (n : ℕ) → Some n ≡ open_slot kind name slots → None ≡ option_map block_of (slot_at slots n) → ⊥
found_there kind name slots n found none = none_there kind name (slot_at slots n) (position-Some (is_open_slot kind name) slots n None (sym found)).1 none

-- ---- the blocks that a bank shows are all open, so a boot settles none

settled_all : (bytes : List ℕ) (found : List ℕ) (k : ℕ) (blocks : List (Option Block))
    → settled_from found k (stored_from bytes k blocks) ≡ stored_from bytes k blocks
settled_all bytes found k [] = refl
settled_all bytes found k (None ∷ blocks) = ap (λ (l : Blocks). None ∷ l) (settled_all bytes found (k + 1) blocks)
settled_all bytes found k (Some b ∷ blocks) = ap (λ (l : Blocks). Some (stored_in bytes k b) ∷ l) (settled_all bytes found (k + 1) blocks)

pub booted_alike : (bytes : List ℕ) (found : List ℕ) → booted Processor found (store_of bytes) ≡ store_of bytes
unfolding store_of
booted_alike bytes found = settled_all bytes found 0 (directory_of bytes)

pub of_processor : (blocks : Blocks) (image : List ℕ) → BootLeaves Processor blocks image → ShowsIn blocks image
of_processor blocks image (inl shows) = shows
of_processor blocks image (inr other) = absurd (cc other.0)

-- ---- a bank shows one block of a kind and a name

of_stored : (bytes : List ℕ) (n : ℕ) (kind : BlockKind) (name : List ℕ) (o : Option Block) → is_open_of kind name (option_map (stored_in bytes n) o) ≡ true
    → (b : Block) × (o ≡ Some b) × (is_of kind name b ≡ true)
of_stored bytes n kind name None opens = absurd (cc opens)
of_stored bytes n kind name (Some b) opens = (b, refl, (and_parts (is_of kind name b) true opens).0)

in_directory : (bytes : List ℕ) (kind : BlockKind) (name : List ℕ) (n : ℕ) → is_open_of kind name (stored_at (store_of bytes) n) ≡ true
    → (b : Block) × (slice_index_or (directory_of bytes) n None ≡ Some b) × (is_of kind name b ≡ true)
in_directory bytes kind name n opens =
    of_stored bytes n kind name (slice_index_or (directory_of bytes) n None) (subst (λ o. is_open_of kind name o ≡ true) (stored_there bytes n) opens)

one_of_a_name : (bytes : List ℕ) (kind : BlockKind) (name : List ℕ) (n m : ℕ) → is_open_of kind name (stored_at (store_of bytes) n) ≡ true → is_open_of kind name (stored_at (store_of bytes) m) ≡ true → n ≡ m
one_of_a_name bytes kind name n m opens opens' =
    let a = in_directory bytes kind name n opens in
    let b = in_directory bytes kind name m opens' in
    elim (cases_eq n m) [
      | inl same ↦ same
      | inr other ↦
          absurd (same_not (same_block a.0 b.0)
          (and_parts (are_apart a.0.offset a.0.size b.0.offset b.0.size) (not (same_block a.0 b.0)) (directory-agree_both bytes n m a.0 b.0 other a.1 b.1)).1
          (both_of kind name a.0 b.0 a.2 b.2))
    ]

shown_at : (bytes : List ℕ) (kind : BlockKind) (name : List ℕ) (n : ℕ) (o : Option ℕ) → open_of kind name (store_of bytes) ≡ o → is_open_of kind name (stored_at (store_of bytes) n) ≡ true → open_of kind name (store_of bytes) ≡ Some n
shown_at bytes kind name n None none opens = absurd (cc (sym opens ∙ position-None (is_open_of kind name) (store_of bytes) n None none refl))
shown_at bytes kind name n (Some m) found opens =
    found ∙ ap (λ k. Some k) (one_of_a_name bytes kind name m n (position-Some (is_open_of kind name) (store_of bytes) m None found).1 opens)

-- ---- what it holds

gives_alike : (b left : Stored) (image : Option (List ℕ)) → left ≡ shown b left.held → MayGive b left.held → MayGive left image → MayGive b image
gives_alike b left image is gives restored =
    let held : image ≡ left.held = subst (λ (s : Stored). MayGive s image) is restored in
    subst (MayGive b) (sym held) gives

open_shown : (kind : BlockKind) (name : List ℕ) (b : Stored) (o : Option Stored) (image : Option (List ℕ)) → is_open_of kind name (Some b) ≡ true → MayShow (Some b) o
    → (is_open_of kind name o ≡ true) × (((left : Stored) → o ≡ Some left → MayGive left image) → MayGive b image)
open_shown kind name b None image opens shows =
    absurd (cc (sym shows ∙ not_true b.doubtful (and_parts (is_of kind name b.block) (not b.doubtful) opens).1))
  where
    not_true : (doubtful : Bool) → not doubtful ≡ true → doubtful ≡ false
    not_true true is = absurd (cc is)
    not_true false is = refl
open_shown kind name b (Some left) image opens shows = (
  subst (λ (s : Stored). is_open_of kind name (Some s) ≡ true) (sym shows.0) (and_from (is_of kind name b.block) true (and_parts (is_of kind name b.block) (not b.doubtful) opens).0 refl),
  λ gives. gives_alike b left image shows.0 shows.1 (gives left refl),
)

pub shown_recovers : (bytes : List ℕ) (blocks : Blocks) (kind : BlockKind) (name : List ℕ) (image : Option (List ℕ)) → Shows blocks (store_of bytes) → Recovers kind name (store_of bytes) image → Recovers kind name blocks image
shown_recovers bytes blocks kind name image shows recovers slot found b there =
    let opens : is_open_of kind name (Some b) ≡ true = subst (λ o. is_open_of kind name o ≡ true) there (position-Some (is_open_of kind name) blocks slot None found).1 in
    let left = open_shown kind name b (stored_at (store_of bytes) slot) image opens (subst (λ o. MayShow o (stored_at (store_of bytes) slot)) there (shows.each slot)) in
    left.1 (recovers slot (shown_at bytes kind name slot (open_of kind name (store_of bytes)) refl left.0))

-- a block that was read and holds none gives none
pub gives_none : (bytes : List ℕ) (slots : List (Option Slot)) (blocks : Blocks) (slot : ℕ) (fault : RestoreFault) (told : ℕ) → words fault ≡ Some told → slots ≡ map (option_map slot_of) blocks
    → AreHeld bytes blocks → ForSome (slot_at slots slot) (λ s. TellsTorn bytes slot s.block fault) → ForSome (stored_at blocks slot) (λ b. MayGive b None)
gives_none bytes slots blocks slot fault told is same held torn b there =
    subst (MayGive b) (unheld bytes slot b.block fault told is (torn (slot_of b) (slot_is bytes slots blocks same slot ∙ ap (option_map slot_of) there))).no_image (held slot b there)

-- one that was read and holds this gives this
pub gives_held : (bytes : List ℕ) (blocks : Blocks) (slot : ℕ) (given : List ℕ) → Shows blocks (store_of bytes) → held_at slot (store_of bytes) ≡ Some given → ForSome (stored_at blocks slot) (λ b. MayGive b (Some given))
gives_held bytes blocks slot given shows held b there = by (stored_at (store_of bytes) slot) (subst (λ o. MayShow o (stored_at (store_of bytes) slot)) there (shows.each slot)) held where
  by : (o : Option Stored) → MayShow (Some b) o → option_and_then (λ (s : Stored). s.held) o ≡ Some given → MayGive b (Some given)
  by None shown is = absurd (cc is)
  by (Some left) shown is = subst (MayGive b) is shown.1

pub recovers_found : (kind : BlockKind) (name : List ℕ) (blocks : Blocks) (own : ℕ) (given : Option (List ℕ)) → open_of kind name blocks ≡ Some own → ForSome (stored_at blocks own) (λ b. MayGive b given) → Recovers kind name blocks given
recovers_found kind name blocks own given is gives slot found = subst (λ n. ForSome (stored_at blocks n) (λ b. MayGive b given)) (same_Some own slot (sym is ∙ found)) gives

-- ---- what is read of it

module _ {B : Type 0} (tells_calls : B → Type 0) (calls_of : B → List BankCall) (kind : BlockKind) (name : List ℕ) (blocks : Blocks) (bytes : List ℕ) where
  -- nothing if none is open
  pub reads_none : (bank : B) → open_of kind name blocks ≡ None → Asks tells_calls calls_of bank bank true (open_reads kind name blocks bytes)
  reads_none bank none =
      subst (Asks tells_calls calls_of bank bank true) (sym (ap (λ (o : Option ℕ). option_map_or (λ (slot : ℕ). option_map_or (λ (b : Stored). restore_calls bytes slot b.block) (stored_at blocks slot) []) o []) none)) (λ told. (told, refl))

  -- and else what a restore reads
  pub reads_open : (old new : B) (done was : Bool) (slots : List (Option Slot)) (slot : ℕ) → slots ≡ map (option_map slot_of) blocks → open_of kind name blocks ≡ Some slot → was ≡ done
      → ForSome (slot_at slots slot) (λ s. Asks tells_calls calls_of old new was (restore_calls bytes slot s.block)) → Asks tells_calls calls_of old new done (open_reads kind name blocks bytes)
  reads_open old new done was slots slot same found is asks = by (stored_at blocks slot) refl (position-Some (is_open_of kind name) blocks slot None found).1 where
    by : (o : Option Stored) → stored_at blocks slot ≡ o → is_open_of kind name o ≡ true → Asks tells_calls calls_of old new done (open_reads kind name blocks bytes)
    by None there opens = absurd (cc opens)
    by (Some b) there opens =
        let read : open_reads kind name blocks bytes ≡ restore_calls bytes slot b.block =
        ap (λ (o : Option ℕ). option_map_or (λ (n : ℕ). option_map_or (λ (b : Stored). restore_calls bytes n b.block) (stored_at blocks n) []) o []) found
        ∙ ap (λ (o : Option Stored). option_map_or (λ (b : Stored). restore_calls bytes slot b.block) o []) there in
        let made : Asks tells_calls calls_of old new was (restore_calls bytes slot b.block) = asks (slot_of b) (slot_is bytes slots blocks same slot ∙ ap (option_map slot_of) there) in
        subst (λ (d : Bool). Asks tells_calls calls_of old new d (open_reads kind name blocks bytes)) is (subst (Asks tells_calls calls_of old new was) (sym read) made)

-- ---- what was counted

-- a call that is done before it counts nothing
pub counted_on : {B : Type 0} (faults stops : B → ℕ) (old mid new : B) (cause : RecoverFault) → Still faults stops old mid → RecoverCounted faults stops mid new cause → RecoverCounted faults stops old new cause
counted_on faults stops old mid new Fault still counted = (subst (λ n. Rose n (faults new)) still.0 counted.0, counted.1 ∙ still.1)
counted_on faults stops old mid new Stopped still counted = (subst (λ n. Rose n (stops new)) still.1 counted.0, counted.1 ∙ still.0)
counted_on faults stops old mid new Memory still counted = (counted.0 ∙ still.0, counted.1 ∙ still.1)

-- nor does one whose boot broke off count more than its fault
pub counted_cause : {B : Type 0} (faults stops : B → ℕ) (old new : B) (fault : BankFault) → CallCounted {A = List ℕ} faults stops old new (Err fault) → RecoverCounted faults stops old new (cause_of fault)
counted_cause faults stops old new (BankFails gate in_way) counted = counted
counted_cause faults stops old new (Cut gate in_way) counted = counted
