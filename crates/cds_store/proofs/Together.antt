-- Blocks that can be there together.
use Rattle.std.proofs.Common.{◌≡◌, ◌≢◌, ◌⊎◌, inl, inr, ⊎_elim, ℕ, ◌<◌, ◌≤◌, List, length, slice_index_or, slice_set, true, not, nat_le, Option, Some, None, sym, ◌∙◌, subst, arith}
use Rattle.std.specs.Option.{ForSome}
use Rattle.std.proofs.lemmas.Bool.{cases_eq, cases_lt, and_parts, or_cases, leb-true}
use Rattle.std.proofs.lemmas.List.{length-set, get_or-set_same, get_or-set_other, get_or_past}
use Rattle.std.proofs.lemmas.Option.{same_Some}
use Rattle.tbl_kinds.specs.Places.{end_of, are_apart}
use Rattle.tbl_kinds.specs.StoreSteps.{same_block}
use Rattle.tbl_kinds.specs.declared.block.Block.{Block}
use Rattle.cds_layout.specs.Entries.{slot_count, is_right}
use Rattle.cds_layout.specs.Directory.{agree}
use Rattle.cds_layout.proofs.DirectoryLaws.{agree-sym}
use Rattle.cds_store.specs.Sound.{slot_at, AreTogether}
use Rattle.cds_store.specs.declared.slot.Slot.{Slot}

-- ---- blocks that agree

-- one of them ends before the other begins
pub ends_before : (a b : Block) → agree a b ≡ true → (end_of a.offset a.size ≤ b.offset) ⊎ (end_of b.offset b.size ≤ a.offset)
ends_before a b agrees =
    let apart = (and_parts (are_apart a.offset a.size b.offset b.size) (not (same_block a b)) agrees).0 in
    ⊎_elim (λ before. inl (leb-true (end_of a.offset a.size) b.offset before)) (λ behind. inr (leb-true (end_of b.offset b.size) a.offset behind))
    (or_cases (nat_le (end_of a.offset a.size) b.offset) (nat_le (end_of b.offset b.size) a.offset) apart)

-- ---- one slot changes

pub there_within : {X : Type 0} (slots : List (Option X)) (n : ℕ) (s : X) → slice_index_or slots n None ≡ Some s → n < length slots
there_within slots n s there =
    elim (cases_lt n (length slots)) [
      | inl within ↦ within
      | inr past ↦ absurd (cc (get_or_past slots n None past, there))
    ]

module _ (slots : List (Option Slot)) (n : ℕ) (o : Option Slot) (together : AreTogether slots) (within : n < slot_count) (right : ForSome o (λ s. is_right s.block ≡ true)) (agrees : (k : ℕ) (s t : Slot) → k ≢ n → slot_at slots k ≡ Some s → o ≡ Some t → agree t.block s.block ≡ true) where
  here : slot_at (slice_set slots n o) n ≡ o
  here = get_or-set_same slots n o None (omega (arith, together.all_slots, within))

  at_other : (k : ℕ) → k ≢ n → slot_at (slice_set slots n o) k ≡ slot_at slots k
  at_other k other = get_or-set_other slots n k o None other

  right_at : (k : ℕ) → ForSome (slot_at (slice_set slots n o) k) (λ s. is_right s.block ≡ true)
  right_at k s there =
      elim (cases_eq k n) [
        | inl is ↦ right s (sym here ∙ subst (λ i. slot_at (slice_set slots n o) i ≡ Some s) is there)
        | inr other ↦ together.right k s (sym (at_other k other) ∙ there)
      ]

  apart_at : (k m : ℕ) → k ≢ m → ForSome (slot_at (slice_set slots n o) k) (λ a. ForSome (slot_at (slice_set slots n o) m) (λ b. agree a.block b.block ≡ true))
  apart_at k m differ a at_k b at_m =
      elim (cases_eq k n) [
        | inl is ↦ agrees m b a (λ m_is. differ (is ∙ sym m_is)) (sym (at_other m (λ m_is. differ (is ∙ sym m_is))) ∙ at_m) (sym here ∙ subst (λ i. slot_at (slice_set slots n o) i ≡ Some a) is at_k)
        | inr other ↦
            elim (cases_eq m n) [
              | inl is ↦ agree-sym a.block b.block ∙ agrees k a b other (sym (at_other k other) ∙ at_k) (sym here ∙ subst (λ i. slot_at (slice_set slots n o) i ≡ Some b) is at_m)
              | inr other' ↦ together.apart k m differ a (sym (at_other k other) ∙ at_k) b (sym (at_other m other') ∙ at_m)
            ]
      ]

  pub together_set : AreTogether (slice_set slots n o)
  together_set = record {
    all_slots = length-set slots n o ∙ together.all_slots;
    right = right_at;
    apart = apart_at;
  }

-- a slot becomes free
pub together_without : (slots : List (Option Slot)) (n : ℕ) → AreTogether slots → n < slot_count → AreTogether (slice_set slots n None)
together_without slots n together within = together_set slots n None together within (λ s is. absurd (cc is)) (λ k s t other there is. absurd (cc is))

-- a slot keeps its block
pub together_same : (slots : List (Option Slot)) (n : ℕ) (s t : Slot) → AreTogether slots → slot_at slots n ≡ Some s → t.block ≡ s.block → AreTogether (slice_set slots n (Some t))
together_same slots n s t together there same =
    together_set slots n (Some t) together (omega (arith, together.all_slots, there_within slots n s there))
    (λ u is. rw (← same_Some t u is, same) (together.right n s there))
    (λ k v u other at_k is. rw (← same_Some t u is, same) (together.apart n k (λ e. other (sym e)) s there v at_k))
