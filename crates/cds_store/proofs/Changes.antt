-- One slot changes, and the bytes of all others stay.
use Rattle.std.proofs.Common.{◌≡◌, ◌≢◌, inl, inr, ℕ, ◌<◌, ◌==◌, List, length, map, slice_set, Option, Some, None, refl, sym, ◌∙◌, ap, subst, arith}
use Rattle.std.specs.Option.{option_map, ForSome}
use Rattle.std.proofs.lemmas.Bool.{cases_eq}
use Rattle.std.proofs.lemmas.List.{map-set, get_or-set_same, get_or-set_other}
use Rattle.tbl_kinds.specs.Blocks.{Stored, Store as Blocks}
use Rattle.tbl_kinds.specs.StoreSteps.{stored_at, MayGive, Shows}
use Rattle.cds_layout.specs.Entries.{slot_count, gate_open, gate_at, told_at, block_in}
use Rattle.cds_layout.specs.Directory.{is_live, is_first_version}
use Rattle.cds_layout.specs.Images.{held_in, store_of}
use Rattle.cds_store.specs.Sound.{slot_at, AreTogether, EntryIs, Matches}
use Rattle.cds_store.specs.StoreBlocks.{slot_of, AreHeld}
use Rattle.cds_store.specs.declared.slot.Slot.{Slot}
use Rattle.cds_store.proofs.Showing.{slot_is, length-blocks, shows_of}

-- the entries and the blocks of all other slots stay
pub record Elsewhere (n : ℕ) (slots : List (Option Slot)) (old image : List ℕ) : Type 0 where
  pub live : is_live image ≡ is_live old
  pub version : is_first_version image ≡ is_first_version old
  pub gates : (k : ℕ) → k ≢ n → k < slot_count → gate_at image k ≡ gate_at old k
  pub told : (k : ℕ) → k ≢ n → k < slot_count → told_at image k ≡ told_at old k
  pub held : (k : ℕ) (s : Slot) → k ≢ n → slot_at slots k ≡ Some s → held_in image k s.block ≡ held_in old k s.block

pub elsewhere_same : (n : ℕ) (slots : List (Option Slot)) (bytes : List ℕ) → Elsewhere n slots bytes bytes
elsewhere_same n slots bytes = record { live = refl; version = refl; gates = λ k other lt. refl; told = λ k other lt. refl; held = λ k s other there. refl }

pub elsewhere_on : (n : ℕ) (slots : List (Option Slot)) (old mid image : List ℕ) → Elsewhere n slots old mid → Elsewhere n slots mid image → Elsewhere n slots old image
elsewhere_on n slots old mid image first second = record {
  live = second.live ∙ first.live;
  version = second.version ∙ first.version;
  gates = λ k other lt. second.gates k other lt ∙ first.gates k other lt;
  told = λ k other lt. second.told k other lt ∙ first.told k other lt;
  held = λ k s other there. second.held k s other there ∙ first.held k s other there;
}

pub entry_stays : (old image : List ℕ) (k : ℕ) (o : Option Slot) → gate_at image k ≡ gate_at old k → told_at image k ≡ told_at old k → EntryIs old k o → EntryIs image k o
entry_stays old image k None gate tail entry = ap (λ g. g == gate_open) gate ∙ entry
entry_stays old image k (Some s) gate tail entry = (ap block_in tail ∙ entry.0, λ sure. ap (λ g. g == gate_open) gate ∙ entry.1 sure)

-- bytes that match these slots and hold these blocks
pub record MatchesBlocks (bytes : List ℕ) (slots : List (Option Slot)) (blocks : Blocks) : Type 0 where
  pub same : slots ≡ map (option_map slot_of) blocks
  pub together : AreTogether slots
  pub matches : Matches bytes slots
  pub held : AreHeld bytes blocks

pub stands_show : (bytes : List ℕ) (slots : List (Option Slot)) (blocks : Blocks) → MatchesBlocks bytes slots blocks → Shows blocks (store_of bytes)
stands_show bytes slots blocks stands = shows_of bytes slots blocks stands.same stands.together stands.matches stands.held

pub stands_long : (bytes : List ℕ) (slots : List (Option Slot)) (blocks : Blocks) → MatchesBlocks bytes slots blocks → length blocks ≡ slot_count
stands_long bytes slots blocks stands = length-blocks bytes slots blocks stands.same ∙ stands.together.all_slots

pub stands_slot : (bytes : List ℕ) (slots : List (Option Slot)) (blocks : Blocks) → MatchesBlocks bytes slots blocks → (k : ℕ) (b : Stored) → stored_at blocks k ≡ Some b → slot_at slots k ≡ Some (slot_of b)
stands_slot bytes slots blocks stands k b there = slot_is bytes slots blocks stands.same k ∙ ap (option_map slot_of) there

module _ (n : ℕ) (slots : List (Option Slot)) (blocks : Blocks) (old image : List ℕ) (elsewhere : Elsewhere n slots old image) (within : n < slot_count) (stands : MatchesBlocks old slots blocks) where
  pub matches_after : (o : Option Slot) → EntryIs image n o → Matches image (slice_set slots n o)
  matches_after o entry = record {
    live = elsewhere.live ∙ stands.matches.live;
    version = elsewhere.version ∙ stands.matches.version;
    entries = λ k lt.
        elim (cases_eq k n) [
          | inl here ↦ subst (λ i. EntryIs image i (slot_at (slice_set slots n o) i)) (sym here) (subst (EntryIs image n) (sym (get_or-set_same slots n o None (omega (arith, stands.together.all_slots, within)))) entry)
          | inr other ↦ subst (EntryIs image k) (sym (get_or-set_other slots n k o None other)) (entry_stays old image k (slot_at slots k) (elsewhere.gates k other lt) (elsewhere.told k other lt) (stands.matches.entries k lt))
        ];
  }

  held_after : (o : Option Stored) → ForSome o (λ b. MayGive b (held_in image n b.block)) → AreHeld image (slice_set blocks n o)
  held_after o gives k b there =
      elim (cases_eq k n) [
        | inl here ↦
            subst (λ i. MayGive b (held_in image i b.block)) (sym here)
            (gives b (sym (get_or-set_same blocks n o None (omega (arith, stands_long old slots blocks stands, within))) ∙ subst (λ i. stored_at (slice_set blocks n o) i ≡ Some b) here there))
        | inr other ↦
            let is : stored_at blocks k ≡ Some b = sym (get_or-set_other blocks n k o None other) ∙ there in
            subst (MayGive b) (sym (elsewhere.held k (slot_of b) other (stands_slot old slots blocks stands k b is))) (stands.held k b is)
      ]

  pub stands_after : (o : Option Stored) → AreTogether (slice_set slots n (option_map slot_of o)) → EntryIs image n (option_map slot_of o) → ForSome o (λ b. MayGive b (held_in image n b.block))
      → MatchesBlocks image (slice_set slots n (option_map slot_of o)) (slice_set blocks n o)
  stands_after o together entry gives = record {
    same = ap (λ (l : List (Option Slot)). slice_set l n (option_map slot_of o)) stands.same ∙ sym (map-set (option_map slot_of) blocks n o);
    together = together;
    matches = matches_after (option_map slot_of o) entry;
    held = held_after o gives;
  }
