-- What a boot as a whole leaves.
use Rattle.std.proofs.Common.{◌≡◌, inl, inr, ℕ, zero, suc, ◌≤◌, ◌==◌, List, ◌∷◌, length, map, replicate, Bool, true, false, Option, Some, None, Result, Ok, Err, OnOk, IfOk, refl, sym, ◌∙◌, ap, subst}
use Rattle.std.specs.List.{list_any}
use Rattle.std.specs.Option.{option_map}
use Rattle.std.proofs.lemmas.List.{length-replicate}
use Rattle.tbl_kinds.specs.Blocks.{Stored, Store as Blocks, empty_store}
use Rattle.tbl_kinds.specs.StoreSteps.{stored_at, settled_from, booted}
use Rattle.tbl_kinds.specs.Places.{bank_size}
use Rattle.tbl_kinds.specs.declared.block.Block.{Block}
use Rattle.tbl_kinds.specs.declared.request.ResetKind.{ResetKind}
use Rattle.tbl_kinds.specs.declared.request.ResetKind.TheVariants.{Processor, PowerOn}
use Rattle.cds_layout.specs.Entries.{slot_count}
use Rattle.cds_layout.specs.Directory.{directory_len, directory_of}
use Rattle.cds_layout.specs.Images.{store_of}
use Rattle.cds_layout.specs.Lines.{CanBeTogether}
use Rattle.cds_store.specs.Boots.{SameStore, IsTidy, IsCleared, Clears, BeginsAt, opened_slot, found_open}
use Rattle.tbl_outside.specs.BankCalls.{BankCall}
use Rattle.tbl_outside.specs.declared.bank.Bank.{Ghosts}
use Rattle.cds_store.specs.Promises.{Boots}
use Rattle.cds_store.specs.declared.fault.BankFault.{BankFault}
use Rattle.cds_store.specs.Moments.{ShowsIn, BootLeaves}
use Rattle.cds_store.specs.Sound.{slot_at, AreTogether, EntryIs, Matches, IsSound, IsKept}
use Rattle.cds_store.specs.StoreBlocks.{StoreParts, StandsFor, kept, slot_of, AreHeld}
use Rattle.cds_store.specs.declared.slot.Slot.{Slot}
use Rattle.cds_store.proofs.Changes.{MatchesBlocks}
use Rattle.cds_store.proofs.Closing.{stands_for}
use Rattle.cds_store.proofs.Strays.{shows_alike, emptied_shows}
use Rattle.cds_store.proofs.Settled.{opened_together, tidy_matches, settled_stands, DoubtKnown, doubt_known, shown_known, finds_open, shows_itself}

-- ---- after a power-on

none_at : (k n : ℕ) → slot_at (replicate k None) n ≡ None
none_at zero n = refl
none_at (suc k) zero = refl
none_at (suc k) (suc n) = none_at k n

map-none : (k : ℕ) → replicate k None ≡ map (option_map slot_of) (replicate k None)
map-none zero = refl
map-none (suc k) = ap (λ (l : List (Option Slot)). None ∷ l) (map-none k)

none_stored : (k n : ℕ) (b : Stored) → stored_at (replicate k None) n ≡ Some b → ⊥
none_stored zero n b there = cc there
none_stored (suc k) zero b there = cc there
none_stored (suc k) (suc n) b there = none_stored k n b there

none_together : (k : ℕ) → k ≡ slot_count → AreTogether (replicate k None)
none_together k is = record {
  all_slots = length-replicate k None ∙ is;
  right = λ n s there. absurd (cc (sym (none_at k n) ∙ there));
  apart = λ n m differ a there b there_b. absurd (cc (sym (none_at k n) ∙ there));
}

pub no_slots_together : AreTogether (replicate slot_count None)
no_slots_together = none_together slot_count refl

pub cleared_stands : (now : List ℕ) → IsCleared now → MatchesBlocks now (replicate slot_count None) empty_store
cleared_stands now cleared = record {
  same = map-none slot_count;
  together = no_slots_together;
  matches = record {
    live = cleared.live;
    version = cleared.version;
    entries = λ n lt. subst (EntryIs now n) (sym (none_at slot_count n)) (cleared.shut n lt);
  };
  held = λ n b there. absurd (none_stored slot_count n b there);
}

-- ---- a boot as a whole

module _ {B : Type 0} (tells : Type 0) (size : B → ℕ) (now : B → List ℕ) (slots : List (Option Slot)) (bank : B) where
  begins_shows : tells → (blocks : Blocks) → BeginsAt tells now (kept slots bank) blocks → ShowsIn blocks (now bank)
  begins_shows told blocks (inl stands) = stands.shows told
  begins_shows told blocks (inr own) = subst (λ (l : Blocks). ShowsIn l (now bank)) (sym own.1) (shows_itself (now bank))

  begins_known : (blocks : Blocks) → BeginsAt tells now (kept slots bank) blocks → DoubtKnown slots blocks
  begins_known blocks (inl stands) = doubt_known slots blocks stands.slots
  begins_known blocks (inr own) = subst (DoubtKnown slots) (sym own.1) (shown_known slots (now bank))

  pub processor_leaves : tells → (blocks : Blocks) → BeginsAt tells now (kept slots bank) blocks → (image : List ℕ) → SameStore (now bank) image → BootLeaves Processor blocks image
  processor_leaves told blocks begins image same = inl (shows_alike (now bank) image blocks same (begins_shows told blocks begins))

  pub power_on_leaves : tells → (blocks : Blocks) → BeginsAt tells now (kept slots bank) blocks → (image : List ℕ) → Clears (now bank) image → BootLeaves PowerOn blocks image
  power_on_leaves told blocks begins image (inl same) = inl (subst (ShowsIn blocks) (sym same) (begins_shows told blocks begins))
  power_on_leaves told blocks begins image (inr emptied) = inr (refl, emptied_shows image emptied)

  module _ (new_slots : List (Option Slot)) (new : B) (directory : List (Option Block)) (is : tells → directory ≡ directory_of (now bank)) (new_is : new_slots ≡ map (option_map opened_slot) directory) (tidy : tells → IsTidy (now bank) (now new)) where
    pub processor_sound : CanBeTogether directory → bank_size ≤ size new → IsSound tells size now (kept new_slots new)
    processor_sound apart room = record {
      together = subst AreTogether (sym new_is) (opened_together directory apart);
      room = room;
      matches = λ booted_is told. subst (Matches (now new)) (sym (new_is ∙ ap (map (option_map opened_slot)) (is told))) (tidy_matches (now bank) (now new) (tidy told));
    }

    pub processor_stands : (found : List ℕ) → found ≡ found_open slots directory → tells → (blocks : Blocks) → BeginsAt tells now (kept slots bank) blocks → StandsFor tells now (kept new_slots new) (booted Processor found blocks)
    processor_stands found found_is told blocks begins =
        let told_is : found ≡ found_open slots (directory_of (now bank)) = found_is ∙ ap (found_open slots) (is told) in
        let stands : MatchesBlocks (now new) (map (option_map opened_slot) (directory_of (now bank))) (settled_from found 0 blocks) =
        settled_stands (now bank) (now new) found blocks (tidy told) (begins_shows told blocks begins)
        (λ n lt b there doubt. ap (list_any (λ m. m == n)) told_is ∙ finds_open slots (directory_of (now bank)) blocks (begins_known blocks begins) n lt b there doubt) in
        subst (λ (l : List (Option Slot)). StandsFor tells now (kept l new) (settled_from found 0 blocks)) (sym (new_is ∙ ap (map (option_map opened_slot)) (is told)))
        (stands_for tells now (map (option_map opened_slot) (directory_of (now bank))) new (settled_from found 0 blocks) stands.same (λ told_again. stands))

  module _ (new_slots : List (Option Slot)) (new : B) (count : ℕ) (all : count ≡ slot_count) (new_is : new_slots ≡ replicate count None) (cleared_is : tells → IsCleared (now new)) where
    none_new : new_slots ≡ replicate slot_count None
    none_new = new_is ∙ ap (λ k. replicate k None) all

    pub power_on_sound : bank_size ≤ size new → IsSound tells size now (kept new_slots new)
    power_on_sound room = record {
      together = subst AreTogether (sym none_new) no_slots_together;
      room = room;
      matches = λ booted_is told. subst (Matches (now new)) (sym none_new) (cleared_stands (now new) (cleared_is told)).matches;
    }

    pub power_on_stands : (found : List ℕ) → tells → (blocks : Blocks) → StandsFor tells now (kept new_slots new) (booted PowerOn found blocks)
    power_on_stands found told blocks =
        let stands = cleared_stands (now new) (cleared_is told) in
        subst (λ (l : List (Option Slot)). StandsFor tells now (kept l new) empty_store) (sym none_new)
        (stands_for tells now (replicate slot_count None) new empty_store stands.same (λ told_again. stands))

-- the bank was only read
pub begins_again : {B : Type 0} (tells : Type 0) (now : B → List ℕ) (slots : List (Option Slot)) (bank mid : B) (blocks : Blocks) → (tells → now mid ≡ now bank) → BeginsAt tells now (kept slots bank) blocks → BeginsAt tells now (kept slots mid) blocks
begins_again tells now slots bank mid blocks same (inl stands) = inl (record {
  slots = stands.slots;
  shows = λ told. subst (ShowsIn blocks) (sym (same told)) (stands.shows told);
  holds = λ told. subst (λ (l : List ℕ). AreHeld l blocks) (sym (same told)) (stands.holds told);
})
begins_again tells now slots bank mid blocks same (inr own) = inr (own.0, own.1 ∙ ap store_of (sym (same own.0)))

pub read_leaves : {B : Type 0} (tells : Type 0) (now : B → List ℕ) (slots : List (Option Slot)) (bank : B) (kind : ResetKind) (blocks : Blocks) → tells → BeginsAt tells now (kept slots bank) blocks → (image : List ℕ) → image ≡ now bank → BootLeaves kind blocks image
read_leaves tells now slots bank kind blocks told (inl stands) image same = inl (subst (ShowsIn blocks) (sym same) (stands.shows told))
read_leaves tells now slots bank kind blocks told (inr own) image same = inl (subst (ShowsIn blocks) (sym same) (subst (λ (l : Blocks). ShowsIn l (now bank)) (sym own.1) (shows_itself (now bank))))

-- ---- several clauses of one result

pub on_ok_two : {T E P Q R : Type 0} (r : Result T E) → (P → Q → R) → OnOk r P → OnOk r Q → OnOk r R
on_ok_two (Ok x) both p q = both p q
on_ok_two (Err e) both p q = tt

pub if_ok_two : {T E Q S : Type 0} (P R : T → Type 0) (r : Result T E) → ((x : T) → P x → Q → S → R x) → IfOk r P → OnOk r Q → OnOk r S → IfOk r R
if_ok_two P R (Ok x) both p q s = both x p q s
if_ok_two P R (Err e) both p q s = tt

-- whether the store was booted before doesn't matter
pub begins_kept : {B : Type 0} (tells : Type 0) (now : B → List ℕ) (k : StoreParts B) (blocks : Blocks) → BeginsAt tells now k blocks → BeginsAt tells now (kept k.slots k.bank) blocks
begins_kept tells now k blocks (inl stands) = inl (record { slots = stands.slots; shows = stands.shows; holds = stands.holds })
begins_kept tells now k blocks (inr own) = inr own

-- a store that was just made
pub made_kept : {B : Type 0} (tells : Type 0) (size : B → ℕ) (now : B → List ℕ) (slots : List (Option Slot)) (bank : B) (front place : List ℕ) → slots ≡ replicate slot_count None → bank_size ≤ size bank → length front ≡ directory_len → length place ≡ 16392
    → IsKept tells size now (record { slots = slots; bank = bank; booted = false }) front place
made_kept tells size now slots bank front place free room len place_len = record {
  sound = record {
    together = subst AreTogether (sym free) no_slots_together;
    room = room;
    matches = λ booted_is told. absurd (cc booted_is);
  };
  len = len;
  room_len = place_len;
}

-- ---- what is promised of booted slots and a bank is promised of the store that has these

pub of_store : {B : Type 0} (Promises : StoreParts B → StoreParts B → Type 0) (slots new_slots : List (Option Slot)) (bank new_bank : B) (booted : Bool) (old : StoreParts B)
    → record { slots = slots; bank = bank; booted = booted } ≡ old → old.booted ≡ true → Promises (kept slots bank) (kept new_slots new_bank)
    → Promises old (record { slots = new_slots; bank = new_bank; booted = booted })
of_store {B} Promises slots new_slots bank new_bank booted old view is_booted promised =
    subst (λ (o : StoreParts B). Promises o (record { slots = new_slots; bank = new_bank; booted = booted })) view
    (subst (λ (b : Bool). Promises (record { slots = slots; bank = bank; booted = b }) (record { slots = new_slots; bank = new_bank; booted = b }))
    (sym (ap (λ (o : StoreParts B). o.booted) view ∙ is_booted)) promised)

-- a boot, whether the store was booted before it or not. If it broke off, the slots may be others
module _ {B : Type 0} (g : Ghosts B) (kind : ResetKind) (calls : List BankCall) (old : StoreParts B) (mid slots : List (Option Slot)) (bank : B) (is_now : Bool) where
  stands : (result : Result (List ℕ) BankFault) → OnOk result (slots ≡ mid) → Boots g (kept old.slots old.bank) (kept mid bank) kind calls result
      → IfOk result (λ found. g.tells → (blocks : Blocks) → BeginsAt g.tells g.now old blocks → StandsFor g.tells g.now (record { slots = slots; bank = bank; booted = is_now }) (booted kind found blocks))
  stands (Ok found) same boots = λ told blocks begins. let is = boots.ok told blocks (begins_kept g.tells g.now old blocks begins) in record { slots = same ∙ is.slots; shows = is.shows; holds = is.holds }
  stands (Err fault) same boots = tt

  pub boots_store : (result : Result (List ℕ) BankFault) → OnOk result (slots ≡ mid) → Boots g (kept old.slots old.bank) (kept mid bank) kind calls result
      → Boots g old (record { slots = slots; bank = bank; booted = is_now }) kind calls result
  boots_store result same boots = record {
    ok = stands result same boots;
    found = boots.found;
    left = λ told blocks begins. boots.left told blocks (begins_kept g.tells g.now old blocks begins);
    moments = λ told blocks begins. boots.moments told blocks (begins_kept g.tells g.now old blocks begins);
    steady = boots.steady;
    counted = boots.counted;
    bank_calls = boots.bank_calls;
    not_old = boots.not_old;
  }
