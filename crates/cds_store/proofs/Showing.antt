-- Which blocks bytes that match the slots show.
use Rattle.std.proofs.Common.{◌≡◌, inl, inr, ℕ, ◌≤◌, List, length, map, slice_index_or, Bool, true, false, Option, Some, None, refl, sym, ◌∙◌, ap, subst, arith}
use Rattle.std.specs.Option.{option_map, ForSome}
use Rattle.std.proofs.lemmas.Bool.{cases_Bool, cases_lt}
use Rattle.std.proofs.lemmas.List.{length-map, get_or_past}
use Rattle.std.proofs.Math.ListN.{get_or-map}
use Rattle.tbl_kinds.specs.Blocks.{Stored, Store as Blocks}
use Rattle.tbl_kinds.specs.StoreSteps.{stored_at, MayGive, MayShow, Shows}
use Rattle.cds_layout.specs.Entries.{slot_count}
use Rattle.cds_layout.specs.Images.{held_in, stored_in, store_of}
use Rattle.cds_store.specs.Sound.{slot_at, AreTogether, EntryIs, Matches}
use Rattle.cds_store.specs.StoreBlocks.{slot_of, AreHeld}
use Rattle.cds_store.specs.declared.slot.Slot.{Slot}
use Rattle.cds_layout.proofs.Stored.{length-store}
use Rattle.cds_store.proofs.Reading.{opened, is_open, store_at}

gate_in_doubt : (bytes : List ℕ) (n : ℕ) (b : Stored) → EntryIs bytes n (Some (slot_of b)) → is_open bytes n ≡ false → b.doubtful ≡ true
gate_in_doubt bytes n b entry shut =
    elim (cases_Bool b.doubtful) [
      | inl doubt ↦ doubt
      | inr sure ↦ absurd (cc (entry.1 sure, shut))
    ]

may_show : (bytes : List ℕ) (n : ℕ) (gate : Bool) (o : Option Stored) → is_open bytes n ≡ gate → EntryIs bytes n (option_map slot_of o)
    → ForSome o (λ b. MayGive b (held_in bytes n b.block))
    → MayShow o (option_map (stored_in bytes n) (opened gate (option_map slot_of o)))
may_show bytes n gate None is entry gives = refl
may_show bytes n true (Some b) is entry gives = (refl, gives b refl)
may_show bytes n false (Some b) is entry gives = gate_in_doubt bytes n b entry is

module _ (bytes : List ℕ) (slots : List (Option Slot)) (blocks : Blocks) (same : slots ≡ map (option_map slot_of) blocks) where
  pub slot_is : (n : ℕ) → slot_at slots n ≡ option_map slot_of (stored_at blocks n)
  slot_is n = ap (λ (l : List (Option Slot)). slice_index_or l n None) same ∙ get_or-map (option_map slot_of) blocks n None

  pub length-blocks : length blocks ≡ length slots
  length-blocks = sym (ap length same ∙ length-map blocks (option_map slot_of))

  module _ (together : AreTogether slots) (matches : Matches bytes slots) where
    as_long : length (store_of bytes) ≡ length blocks
    as_long = length-store bytes ∙ sym together.all_slots ∙ sym length-blocks

    at_slot : (n : ℕ) → stored_at (store_of bytes) n ≡ option_map (stored_in bytes n) (opened (is_open bytes n) (option_map slot_of (stored_at blocks n)))
    at_slot n = store_at bytes slots together matches n ∙ ap (λ o. option_map (stored_in bytes n) (opened (is_open bytes n) o)) (slot_is n)

    past_the_slots : (n : ℕ) → slot_count ≤ n → stored_at blocks n ≡ None
    past_the_slots n past = get_or_past blocks n None (omega (arith, length-blocks, together.all_slots, past))

    show_at : (n : ℕ) → AreHeld bytes blocks → MayShow (stored_at blocks n) (option_map (stored_in bytes n) (opened (is_open bytes n) (option_map slot_of (stored_at blocks n))))
    show_at n held =
        elim (cases_lt n slot_count) [
          | inl within ↦ may_show bytes n (is_open bytes n) (stored_at blocks n) refl (subst (EntryIs bytes n) (slot_is n) (matches.entries n within)) (held n)
          | inr past ↦ rw (past_the_slots n past) refl
        ]

    pub shows_of : AreHeld bytes blocks → Shows blocks (store_of bytes)
    shows_of held = record {
      as_long = as_long;
      each = λ n. subst (MayShow (stored_at blocks n)) (sym (at_slot n)) (show_at n held);
    }
