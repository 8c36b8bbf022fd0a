-- No two slots have blocks of one kind and name, and each block has a size that blocks may have.
use Rattle.std.proofs.Common.{◌≡◌, ◌≤◌, Bor, inl, inr, ℕ, zero, suc, List, [], ◌∷◌, slice_set, slice_index_or, not, true, Bool, position, Option, Some, None, refl, sym, ◌∙◌}
use Rattle.std.specs.Prelude.{IfSome}
use Rattle.std.specs.Option.{option_map, option_copied}
use Rattle.std.proofs.lemmas.Bool.{cases_eq, and_parts}
use Rattle.std.proofs.lemmas.List.{get_or-set_other}
use Rattle.std.proofs.lemmas.List.Quantifiers.{position-Some}
use Rattle.std.proofs.lemmas.Option.{same_Some}
use Rattle.tbl_kinds.specs.Limits.{table_limit}
use Rattle.tbl_kinds.specs.Places.{are_apart}
use Rattle.tbl_kinds.specs.StoreSteps.{same_block, is_of}
use Rattle.tbl_kinds.specs.declared.block.Block.{Block}
use Rattle.tbl_kinds.specs.declared.block.BlockKind.{BlockKind}
use Rattle.cds_layout.proofs.EntryLaws.{right-parts}
use Rattle.cds_store.specs.Slots.{is_open_slot, is_doubtful_slot, open_slot, doubtful_slot, block_of}
use Rattle.cds_store.specs.Sound.{slot_at, AreTogether}
use Rattle.cds_store.specs.declared.slot.Slot.{Slot}
use Rattle.cds_store.proofs.NewIsNew.{both_of, same_not}

-- a taken slot of this kind and name, open or in doubt
abbrev IsTakenBy : BlockKind → List ℕ → Option Slot → Type 0
IsTakenBy kind name o = (s : Slot) × (o ≡ Some s) × (is_of kind name s.block ≡ true)

open_taken : (kind : BlockKind) (name : List ℕ) (o : Option Slot) → is_open_slot kind name o ≡ true → IsTakenBy kind name o
open_taken kind name None opens = absurd (cc opens)
open_taken kind name (Some s) opens = (s, refl, (and_parts (is_of kind name s.block) (not s.doubtful) opens).0)

doubtful_taken : (kind : BlockKind) (name : List ℕ) (o : Option Slot) → is_doubtful_slot kind name o ≡ true → IsTakenBy kind name o
doubtful_taken kind name None doubts = absurd (cc doubts)
doubtful_taken kind name (Some s) doubts = (s, refl, (and_parts (is_of kind name s.block) s.doubtful doubts).0)

gone : (slots : List (Option Slot)) (n : ℕ) → slice_index_or (slice_set slots n None) n None ≡ None
gone [] zero = refl
gone [] (suc n) = refl
gone (x ∷ xs) zero = refl
gone (x ∷ xs) (suc n) = gone xs n

module _ (slots : List (Option Slot)) (kind : BlockKind) (name : List ℕ) (n : ℕ) (together : AreTogether slots) (found : open_slot kind name slots ≡ Some n) where
  -- once the open one is freed, no slot is taken by this kind and name
  none_left : (m : ℕ) → IsTakenBy kind name (slot_at (slice_set slots n None) m) → ⊥
  none_left m t =
      elim (cases_eq m n) [
        | inl same ↦ cc (t.1, same, gone slots n)
        | inr other ↦
            let a = open_taken kind name (slot_at slots n) (position-Some (is_open_slot kind name) slots n None found).1 in
            same_not (same_block a.0.block t.0.block)
            (and_parts (are_apart a.0.block.offset a.0.block.size t.0.block.offset t.0.block.size) (not (same_block a.0.block t.0.block))
            (together.apart n m (λ same. other (sym same)) a.0 a.1 t.0 (sym (get_or-set_other slots n m None None other) ∙ t.1))).1
            (both_of kind name a.0.block t.0.block a.2 t.2)
      ]

  none_at : (test : Option Slot → Bool) → ((o : Option Slot) → test o ≡ true → IsTakenBy kind name o) → position test (slice_set slots n None) ≡ None
  none_at test taken = by (position test (slice_set slots n None)) refl where
    by : (o : Option ℕ) → position test (slice_set slots n None) ≡ o → o ≡ None
    by None is = refl
    by (Some m) is = absurd (none_left m (taken (slot_at (slice_set slots n None) m) (position-Some test (slice_set slots n None) m None is).1))

  -- neither an open one nor one in doubt
  pub alone : (open_slot kind name (slice_set slots n None) ≡ None) × (doubtful_slot kind name (slice_set slots n None) ≡ None)
  alone = (none_at (is_open_slot kind name) (open_taken kind name), none_at (is_doubtful_slot kind name) (doubtful_taken kind name))

-- ---- the block of a slot

-- it has 1 to 16,384 bytes
pub sized_block : (slots : List (Option Slot)) (n : ℕ) (o : Option (Bor Block)) → AreTogether slots → option_copied o ≡ option_map block_of (slot_at slots n) → IfSome o (λ b. (1 ≤ b.now.size) × (b.now.size ≤ table_limit))
sized_block slots n None together is = tt
sized_block slots n (Some b) together is = by (slot_at slots n) refl is where
  by : (o : Option Slot) → slot_at slots n ≡ o → Some b.now ≡ option_map block_of o → (1 ≤ b.now.size) × (b.now.size ≤ table_limit)
  by None at same = absurd (cc same)
  by (Some s) at same =
      let parts = right-parts s.block (together.right n s at) in
      rw (same_Some b.now s.block same) (parts.some, parts.within)
