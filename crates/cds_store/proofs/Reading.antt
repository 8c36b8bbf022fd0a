-- What the directory has of bytes that match the slots.
use Rattle.std.proofs.Common.{◌≡◌, inl, inr, ℕ, zero, suc, ◌<◌, ◌≤◌, ◌==◌, List, [], ◌∷◌, length, slice_index_or, Bool, true, false, cond, Option, Some, None, refl, sym, ◌∙◌, ap, arith, length-append}
use Rattle.std.specs.List.{list_all}
use Rattle.std.specs.Option.{option_map}
use Rattle.std.proofs.lemmas.Bool.{cases_lt, cases_Bool}
use Rattle.std.proofs.lemmas.List.{get_or_past, get_or_push, get_or_append_left}
use Rattle.tbl_kinds.specs.StoreSteps.{stored_at}
use Rattle.tbl_kinds.specs.declared.block.Block.{Block}
use Rattle.cds_layout.specs.Entries.{slot_count, gate_open, gate_at, told_at, block_in}
use Rattle.cds_layout.specs.Directory.{agree, agrees_at, stated, counted, directory_to, directory_of}
use Rattle.cds_layout.specs.Images.{stored_in, store_of}
use Rattle.cds_layout.proofs.Stored.{stored_there}
use Rattle.cds_store.specs.Sound.{slot_at, AreTogether, EntryIs, Matches}
use Rattle.cds_store.specs.declared.slot.Slot.{Slot}

-- the block of a slot, if its gate is open
abbrev pub opened : Bool → Option Slot → Option Block
opened gate None = None
opened gate (Some s) = cond gate (Some s.block) None

abbrev pub is_open : List ℕ → ℕ → Bool
is_open bytes n = gate_at bytes n == gate_open

closed_states_none : (bytes : List ℕ) (n : ℕ) → is_open bytes n ≡ false → stated bytes n ≡ None
closed_states_none bytes n shut = rw shut refl

open_states : (bytes : List ℕ) (n : ℕ) (b : Block) → is_open bytes n ≡ true → block_in (told_at bytes n) ≡ Some b → stated bytes n ≡ Some b
open_states bytes n b open_is told = rw open_is told

pub stated_is : (bytes : List ℕ) (n : ℕ) (o : Option Slot) → EntryIs bytes n o → stated bytes n ≡ opened (is_open bytes n) o
stated_is bytes n None shut = closed_states_none bytes n shut
stated_is bytes n (Some s) told =
    elim (cases_Bool (is_open bytes n)) [
      | inl open_is ↦ open_states bytes n s.block open_is told.0 ∙ sym (rw open_is refl)
      | inr shut ↦ closed_states_none bytes n shut ∙ sym (rw shut refl)
    ]

pub all_by_place : {X : Type 0} (p : Option X → Bool) (xs : List (Option X)) → ((i : ℕ) → p (slice_index_or xs i None) ≡ true) → list_all p xs ≡ true
all_by_place p [] all = refl
all_by_place p (x ∷ xs) all = rw (all zero) (all_by_place p xs (λ i. all (suc i)))

agrees_opened : (gate : Bool) (b : Block) (o : Option Slot) → ((s : Slot) → o ≡ Some s → agree b s.block ≡ true) → agrees_at b (opened gate o) ≡ true
agrees_opened gate b None all = refl
agrees_opened true b (Some s) all = all s refl
agrees_opened false b (Some s) all = refl

-- what the first slots hold
pub record ReadsTo (bytes : List ℕ) (slots : List (Option Slot)) (k : ℕ) : Type 0 where
  pub as_long : length (directory_to bytes k) ≡ k
  pub each : (i : ℕ) → i < k → slice_index_or (directory_to bytes k) i None ≡ opened (is_open bytes i) (slot_at slots i)

module _ (bytes : List ℕ) (slots : List (Option Slot)) (together : AreTogether slots) (matches : Matches bytes slots) where
  each_agrees : (k : ℕ) (s : Slot) → slot_at slots k ≡ Some s → ReadsTo bytes slots k → (i : ℕ) → agrees_at s.block (slice_index_or (directory_to bytes k) i None) ≡ true
  each_agrees k s there reads i =
      elim (cases_lt i k) [
        | inl before ↦ rw (reads.each i before) (agrees_opened (is_open bytes i) s.block (slot_at slots i) (λ other at_i. together.apart k i (omega (arith, before)) s there other at_i))
        | inr past ↦ rw (get_or_past (directory_to bytes k) i None (omega (arith, reads.as_long, past))) refl
      ]

  counted_is : (k : ℕ) (gate : Bool) (o : Option Slot) → slot_at slots k ≡ o → ReadsTo bytes slots k → counted (directory_to bytes k) (opened gate o) ≡ opened gate o
  counted_is k gate None there reads = refl
  counted_is k true (Some s) there reads = rw (all_by_place (agrees_at s.block) (directory_to bytes k) (each_agrees k s there reads)) refl
  counted_is k false (Some s) there reads = refl

  newest : (k : ℕ) → k < slot_count → ReadsTo bytes slots k → counted (directory_to bytes k) (stated bytes k) ≡ opened (is_open bytes k) (slot_at slots k)
  newest k lt reads = rw (stated_is bytes k (slot_at slots k) (matches.entries k lt)) (counted_is k (is_open bytes k) (slot_at slots k) refl reads)

  reads_more : (k : ℕ) → k < slot_count → ReadsTo bytes slots k → ReadsTo bytes slots (suc k)
  reads_more k lt reads =
      let all = directory_to bytes k in
      let next = counted all (stated bytes k) in
      record {
        as_long = length-append all (next ∷ []) ∙ omega (arith, reads.as_long);
        each = λ i before.
            elim (cases_lt i k) [
              | inl earlier ↦ get_or_append_left all (next ∷ []) None i (omega (arith, reads.as_long, earlier)) ∙ reads.each i earlier
              | inr last ↦
                  let here : k ≡ i = omega (arith, before, last) in
                  get_or_push all next None i (reads.as_long ∙ here) ∙ newest k lt reads ∙ ap (λ n. opened (is_open bytes n) (slot_at slots n)) here
            ];
      }

  reads_to : (k : ℕ) → k ≤ slot_count → ReadsTo bytes slots k
  reads_to zero le = record { as_long = refl; each = λ i lt. absurd (omega (arith, lt)) }
  reads_to (suc k) le = reads_more k (omega (arith, le)) (reads_to k (omega (arith, le)))

  directory_is : directory_of bytes ≡ directory_to bytes slot_count
  unfolding directory_of
  directory_is = rw matches.live refl

  pub length-directory : length (directory_of bytes) ≡ slot_count
  length-directory = ap length directory_is ∙ (reads_to slot_count (omega arith)).as_long

  pub directory_at : (n : ℕ) → slice_index_or (directory_of bytes) n None ≡ opened (is_open bytes n) (slot_at slots n)
  directory_at n =
      elim (cases_lt n slot_count) [
        | inl before ↦ ap (λ (l : List (Option Block)). slice_index_or l n None) directory_is ∙ (reads_to slot_count (omega arith)).each n before
        | inr past ↦
            get_or_past (directory_of bytes) n None (omega (arith, length-directory, past))
            ∙ sym (ap (opened (is_open bytes n)) (get_or_past slots n None (omega (arith, together.all_slots, past))))
      ]

  pub store_at : (n : ℕ) → stored_at (store_of bytes) n ≡ option_map (stored_in bytes n) (opened (is_open bytes n) (slot_at slots n))
  store_at n = stored_there bytes n ∙ ap (option_map (stored_in bytes n)) (directory_at n)
