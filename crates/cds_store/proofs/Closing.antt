-- The gate of a taken slot is written.
use Rattle.std.proofs.Common.{◌≡◌, ◌⊎◌, inl, inr, ℕ, zero, suc, ◌+◌, ◌<◌, ◌≤◌, ◌==◌, List, [], ◌∷◌, map, slice_set, true, false, Option, Some, None, IsSome, refl, sym, ◌∙◌, ap, subst, arith}
use Rattle.std.specs.Option.{option_map}
use Rattle.std.proofs.lemmas.List.{map-set}
use Rattle.std.proofs.lemmas.Option.{same_Some}
use Rattle.tbl_kinds.specs.Places.{bank_size}
use Rattle.tbl_kinds.specs.Blocks.{Stored, Store as Blocks}
use Rattle.tbl_kinds.specs.StoreCalls.{delete}
use Rattle.tbl_kinds.specs.StoreSteps.{stored_at, freed, in_doubt, deleted, delete_broken}
use Rattle.tbl_outside.specs.Bank.{Torn}
use Rattle.cds_layout.specs.Entries.{gate_open, gate_at, gate_place, slot_count}
use Rattle.cds_layout.specs.Images.{held_in}
use Rattle.cds_store.specs.Moments.{ShowsIn, LeavesIn}
use Rattle.cds_store.specs.Sound.{slot_at, AreTogether, Matches, IsSound}
use Rattle.cds_store.specs.StoreBlocks.{StandsFor, kept, slot_of, doubted, closing}
use Rattle.cds_store.specs.declared.slot.Slot.{Slot}
use Rattle.cds_store.proofs.Changes.{MatchesBlocks, stands_show}
use Rattle.cds_store.proofs.Showing.{slot_is}
use Rattle.cds_store.proofs.Steps.{gate_torn, gate_closed, within_slots}
use Rattle.cds_store.proofs.Together.{together_without, together_same}

-- ---- the blocks as the bytes have them

abbrev pub as_held : List ℕ → ℕ → Slot → Stored
as_held bytes n s = record { block = s.block; held = held_in bytes n s.block; trying = []; doubtful = s.doubtful }

blocks_from : List ℕ → ℕ → List (Option Slot) → Blocks
blocks_from bytes n [] = []
blocks_from bytes n (slot ∷ slots) = option_map (as_held bytes n) slot ∷ blocks_from bytes (n + 1) slots

pub blocks_in : List ℕ → List (Option Slot) → Blocks
blocks_in bytes slots = blocks_from bytes 0 slots

slots_from : (bytes : List ℕ) (n : ℕ) (slots : List (Option Slot)) → slots ≡ map (option_map slot_of) (blocks_from bytes n slots)
unfolding blocks_from
slots_from bytes n [] = refl
slots_from bytes n (None ∷ slots) = ap (λ (l : List (Option Slot)). None ∷ l) (slots_from bytes (n + 1) slots)
slots_from bytes n (Some s ∷ slots) = ap (λ (l : List (Option Slot)). Some s ∷ l) (slots_from bytes (n + 1) slots)

at_from : (bytes : List ℕ) (n : ℕ) (slots : List (Option Slot)) (k : ℕ) → stored_at (blocks_from bytes n slots) k ≡ option_map (as_held bytes (n + k)) (slot_at slots k)
unfolding blocks_from
at_from bytes n [] zero = refl
at_from bytes n [] (suc k) = refl
at_from bytes n (o ∷ slots) zero = let same : n ≡ n + 0 = omega arith in ap (λ i. option_map (as_held bytes i) o) same
at_from bytes n (o ∷ slots) (suc k) =
    let same : n + 1 + k ≡ n + suc k = omega arith in
    at_from bytes (n + 1) slots k ∙ ap (λ i. option_map (as_held bytes i) (slot_at slots k)) same

slots_again : (bytes : List ℕ) (slots : List (Option Slot)) → slots ≡ map (option_map slot_of) (blocks_in bytes slots)
unfolding blocks_in
slots_again bytes slots = slots_from bytes 0 slots

held_there : (bytes : List ℕ) (slots : List (Option Slot)) (k : ℕ) → stored_at (blocks_in bytes slots) k ≡ option_map (as_held bytes k) (slot_at slots k)
unfolding blocks_in
held_there bytes slots k = let same : 0 + k ≡ k = omega arith in at_from bytes 0 slots k ∙ ap (λ i. option_map (as_held bytes i) (slot_at slots k)) same

held_as : (bytes : List ℕ) (n : ℕ) (o : Option Slot) (b : Stored) → option_map (as_held bytes n) o ≡ Some b → (b.held ≡ held_in bytes n b.block) × (b.trying ≡ [])
held_as bytes n None b is = absurd (cc is)
held_as bytes n (Some s) b is = rw (← same_Some (as_held bytes n s) b is) (refl, refl)

pub stands_as_held : (bytes : List ℕ) (slots : List (Option Slot)) → AreTogether slots → Matches bytes slots → MatchesBlocks bytes slots (blocks_in bytes slots)
stands_as_held bytes slots together matches = record {
  same = slots_again bytes slots;
  together = together;
  matches = matches;
  held = λ n b there.
      let is = held_as bytes n (slot_at slots n) b (sym (held_there bytes slots n) ∙ there) in
      rw is.1 (sym is.0);
}

-- ---- a store and its blocks

module _ {B : Type 0} (tells : Type 0) (size : B → ℕ) (now : B → List ℕ) (slots : List (Option Slot)) (bank : B) (sound : IsSound tells size now (kept slots bank)) where
  pub stands_told : (blocks : Blocks) → StandsFor tells now (kept slots bank) blocks → tells → MatchesBlocks (now bank) slots blocks
  stands_told blocks stands told = record {
    same = stands.slots;
    together = sound.together;
    matches = sound.matches refl told;
    held = stands.holds told;
  }

  pub held_told : tells → MatchesBlocks (now bank) slots (blocks_in (now bank) slots)
  held_told told = stands_as_held (now bank) slots sound.together (sound.matches refl told)

pub stands_for : {B : Type 0} (tells : Type 0) (now : B → List ℕ) (slots : List (Option Slot)) (bank : B) (blocks : Blocks) → slots ≡ map (option_map slot_of) blocks → (tells → MatchesBlocks (now bank) slots blocks) → StandsFor tells now (kept slots bank) blocks
stands_for tells now slots bank blocks same stands = record {
  slots = same;
  shows = λ told. stands_show (now bank) slots blocks (stands told);
  holds = λ told. (stands told).held;
}

pub set_alike : (slots : List (Option Slot)) (blocks : Blocks) (n : ℕ) (o : Option Stored) → slots ≡ map (option_map slot_of) blocks → slice_set slots n (option_map slot_of o) ≡ map (option_map slot_of) (slice_set blocks n o)
set_alike slots blocks n o same = ap (λ (l : List (Option Slot)). slice_set l n (option_map slot_of o)) same ∙ sym (map-set (option_map slot_of) blocks n o)

pub some_there : {X : Type 0} (o : Option X) → IsSome o → (x : X) × (o ≡ Some x)
some_there None there = absurd (cc there)
some_there (Some x) there = (x, refl)

-- the block of a slot that is taken
pub record At (blocks : Blocks) (n : ℕ) (s : Slot) : Type 0 where
  pub stored : Stored
  pub there : stored_at blocks n ≡ Some stored
  pub is : slot_of stored ≡ s

at_of : (blocks : Blocks) (n : ℕ) (s : Slot) (o : Option Stored) → stored_at blocks n ≡ o → option_map slot_of o ≡ Some s → At blocks n s
at_of blocks n s None there is = absurd (cc is)
at_of blocks n s (Some b) there is = record { stored = b; there = there; is = same_Some (slot_of b) s is }

pub stored_for : (slots : List (Option Slot)) (blocks : Blocks) (n : ℕ) (s : Slot) → slots ≡ map (option_map slot_of) blocks → slot_at slots n ≡ Some s → At blocks n s
stored_for slots blocks n s same taken = at_of blocks n s (stored_at blocks n) refl (sym (slot_is [] slots blocks same n) ∙ taken)

-- ---- the gate is written

module _ {B : Type 0} (tells : Type 0) (size : B → ℕ) (now : B → List ℕ) (slots : List (Option Slot)) (bank : B) (sound : IsSound tells size now (kept slots bank)) (n : ℕ) (s : Slot) (taken : slot_at slots n ≡ Some s) where
  gate_within : n < slot_count
  gate_within = within_slots slots n s sound.together taken

  -- a reset inside the write
  pub delete_leaves : tells → (blocks : Blocks) → StandsFor tells now (kept slots bank) blocks → (image : List ℕ) → Torn (gate_place n) 1 (now bank) image → LeavesIn (delete n) blocks image
  delete_leaves told blocks stands image torn =
      let at_n = stored_for slots blocks n s stands.slots taken in
      inr (inr (
        true,
        false,
        (refl, refl),
        stands_show image (slice_set slots n (Some (slot_of (in_doubt at_n.stored)))) (delete_broken n blocks)
            (gate_torn n slots blocks (now bank) image at_n.stored (stands_told tells size now slots bank sound blocks stands told) at_n.there torn),
      ))

  module _ (new : B) (room : bank_size ≤ size new) (torn : tells → Torn (gate_place n) 1 (now bank) (now new)) where
    pub doubted_for : (blocks : Blocks) → StandsFor tells now (kept slots bank) blocks → StandsFor tells now (kept (slice_set slots n (Some (doubted s))) new) (delete_broken n blocks)
    doubted_for blocks stands =
        let at_n = stored_for slots blocks n s stands.slots taken in
        let b = at_n.stored in
        subst (λ (t : Slot). StandsFor tells now (kept (slice_set slots n (Some (doubted t))) new) (delete_broken n blocks)) at_n.is
        (stands_for tells now (slice_set slots n (Some (slot_of (in_doubt b)))) new (delete_broken n blocks)
        (subst (λ o. slice_set slots n (Some (slot_of (in_doubt b))) ≡ map (option_map slot_of) (slice_set blocks n (option_map in_doubt o))) (sym at_n.there) (set_alike slots blocks n (Some (in_doubt b)) stands.slots))
        (λ told. gate_torn n slots blocks (now bank) (now new) b (stands_told tells size now slots bank sound blocks stands told) at_n.there (torn told)))

    pub doubted_sound : IsSound tells size now (kept (slice_set slots n (Some (doubted s))) new)
    doubted_sound = record {
      together = together_same slots n s (doubted s) sound.together taken refl;
      room = room;
      matches = λ booted told.
          let blocks = blocks_in (now bank) slots in
          let stands = held_told tells size now slots bank sound told in
          let at_n = stored_for slots blocks n s stands.same taken in
          subst (λ (t : Slot). Matches (now new) (slice_set slots n (Some (doubted t)))) at_n.is
          (gate_torn n slots blocks (now bank) (now new) at_n.stored stands at_n.there (torn told)).matches;
    }

    module _ (shut : tells → (gate_at (now new) n == gate_open) ≡ false) where
      pub closed_for : (blocks : Blocks) → StandsFor tells now (kept slots bank) blocks → StandsFor tells now (kept (slice_set slots n None) new) (deleted n blocks)
      closed_for blocks stands =
          let at_n = stored_for slots blocks n s stands.slots taken in
          stands_for tells now (slice_set slots n None) new (deleted n blocks) (set_alike slots blocks n None stands.slots)
          (λ told. gate_closed n slots blocks (now bank) (now new) at_n.stored (stands_told tells size now slots bank sound blocks stands told) at_n.there (torn told) (shut told))

      pub closed_sound : IsSound tells size now (kept (slice_set slots n None) new)
      closed_sound = record {
        together = together_without slots n sound.together gate_within;
        room = room;
        matches = λ booted told.
            let blocks = blocks_in (now bank) slots in
            let stands = held_told tells size now slots bank sound told in
            let at_n = stored_for slots blocks n s stands.same taken in
            (gate_closed n slots blocks (now bank) (now new) at_n.stored stands at_n.there (torn told) (shut told)).matches;
      }

-- a delete of a doubtful block is what closes it before another is made
pub old_leaves : (old : Option ℕ) (slot : ℕ) (blocks : Blocks) (image : List ℕ) → old ≡ Some slot → LeavesIn (delete slot) blocks image
    → ShowsIn blocks image ⊎ ShowsIn (freed old blocks) image ⊎ ShowsIn (closing old blocks) image
old_leaves None slot blocks image is leaves = absurd (cc is)
old_leaves (Some old) slot blocks image is (inl before) = inl before
old_leaves (Some old) slot blocks image is (inr (inl done)) = inr (inl (subst (λ n. ShowsIn (deleted n blocks) image) (sym (same_Some old slot is)) done))
old_leaves (Some old) slot blocks image is (inr (inr (gate, flag, can, broke))) = inr (inr (subst (λ n. ShowsIn (delete_broken n blocks) image) (sym (same_Some old slot is)) broke))
