-- The block of a reservation is new: no other has its slot, its bytes, or its kind and name.
use Rattle.std.proofs.Common.{◌≡◌, ◌≢◌, inl, inr, ℕ, zero, suc, ◌-◌, ◌≤◌, List, [], ◌∷◌, length, slice_set, nat_lt, nat_le, Bool, true, false, not, ◌&&◌, Option, Some, None, is_none, IsSome, IfSome, find, refl, sym, ◌∙◌, ap, subst, arith}
use Rattle.std.specs.List.{list_all, range_with_len}
use Rattle.std.specs.Option.{option_map}
use Rattle.std.specs.Str.{bytes_eq}
use Rattle.std.proofs.lemmas.Bool.{cases_Bool, cases_eq, and_parts, and_from, le-leb}
use Rattle.std.proofs.lemmas.List.{length-set, get_or-set_other}
use Rattle.std.proofs.lemmas.List.Quantifiers.{position-Some}
use Rattle.std.proofs.lemmas.Option.{same_Some}
use Rattle.std.proofs.lemmas.Slice.Eq.{bytes_eq-Decides}
use Rattle.tbl_kinds.proofs.PositionLaws.{position-None}
use Rattle.tbl_kinds.specs.Limits.{table_limit}
use Rattle.tbl_kinds.specs.Names.{is_name}
use Rattle.tbl_kinds.specs.Places.{blocks_begin, blocks_end, is_inside, are_apart, fits, place}
use Rattle.tbl_kinds.specs.StoreSteps.{same_kind, same_block, is_of}
use Rattle.tbl_kinds.specs.Free.{least_free}
use Rattle.tbl_kinds.specs.declared.block.Block.{Block}
use Rattle.tbl_kinds.specs.declared.block.BlockKind.{BlockKind}
use Rattle.tbl_kinds.specs.declared.block.BlockKind.TheVariants.{Table, App}
use Rattle.cds_layout.proofs.DirectoryLaws.{same_kind-sym, bytes_eq-sym}
use Rattle.cds_store.specs.Slots.{is_open_slot, is_doubtful_slot, open_slot, doubtful_slot, without_slot, block_of, blocks_of, room_in}
use Rattle.cds_store.specs.Sound.{slot_at, AreTogether, IsNew, IsOpenOf}
use Rattle.cds_store.specs.declared.slot.Slot.{Slot}
use Rattle.cds_store.proofs.Reservations.{free_there, both_parts}

-- ---- the new block is new

kinds_alike : (a b c : BlockKind) → same_kind a c ≡ true → same_kind b c ≡ true → same_kind a b ≡ true
kinds_alike Table Table c p q = refl
kinds_alike App App c p q = refl
kinds_alike Table App Table p q = q
kinds_alike Table App App p q = p
kinds_alike App Table Table p q = p
kinds_alike App Table App p q = q

pub both_of : (kind : BlockKind) (name : List ℕ) (a b : Block) → is_of kind name a ≡ true → is_of kind name b ≡ true → same_block a b ≡ true
both_of kind name a b p q =
    let pa = and_parts (same_kind a.kind kind) (bytes_eq a.name name) p in
    let qb = and_parts (same_kind b.kind kind) (bytes_eq b.name name) q in
    and_from (same_kind a.kind b.kind) (bytes_eq a.name b.name) (kinds_alike a.kind b.kind kind pa.0 qb.0)
    ((bytes_eq-Decides a.name b.name).1 ((bytes_eq-Decides a.name name).0 pa.1 ∙ sym ((bytes_eq-Decides b.name name).0 qb.1)))

of_doubtful : (kind : BlockKind) (name : List ℕ) (o : Option Slot) → is_doubtful_slot kind name o ≡ true → (s : Slot) × (o ≡ Some s) × (is_of kind name s.block ≡ true)
of_doubtful kind name None there = absurd (cc there)
of_doubtful kind name (Some s) there = (s, refl, (and_parts (is_of kind name s.block) s.doubtful there).0)

pub same_not : (b : Bool) → not b ≡ true → b ≡ true → ⊥
same_not true p q = cc p
same_not false p q = cc q

module _ (kind : BlockKind) (name : List ℕ) (slots : List (Option Slot)) (together : AreTogether slots) (none_open : open_slot kind name slots ≡ None) where
  not_open : (k : ℕ) (s : Slot) → slot_at slots k ≡ Some s → is_of kind name s.block ≡ true → s.doubtful ≡ true
  not_open k s there of =
      let shut : (is_of kind name s.block && not s.doubtful) ≡ false = subst (λ o. is_open_slot kind name o ≡ false) there (position-None (is_open_slot kind name) slots k None none_open refl) in
      elim (cases_Bool s.doubtful) [
        | inl doubt ↦ doubt
        | inr sure ↦ absurd (cc (sym shut ∙ and_from (is_of kind name s.block) (not s.doubtful) of (ap not sure)))
      ]

  -- of this kind and name there is none but the doubtful one
  only_old : (old : Option ℕ) → old ≡ doubtful_slot kind name slots → (k : ℕ) (s : Slot) → slot_at slots k ≡ Some s → is_of kind name s.block ≡ true → old ≡ Some k
  only_old None found k s there of =
      let doubt = not_open k s there of in
      let none : (is_of kind name s.block && s.doubtful) ≡ false = subst (λ o. is_doubtful_slot kind name o ≡ false) there (position-None (is_doubtful_slot kind name) slots k None (sym found) refl) in
      absurd (cc (sym none ∙ and_from (is_of kind name s.block) s.doubtful of doubt))
  only_old (Some d) found k s there of =
      let t = of_doubtful kind name (slot_at slots d) (position-Some (is_doubtful_slot kind name) slots d None (sym found)).1 in
      elim (cases_eq d k) [
        | inl here ↦ ap (λ m. Some m) here
        | inr other ↦
            absurd (same_not (same_block t.0.block s.block)
            (and_parts (are_apart t.0.block.offset t.0.block.size s.block.offset s.block.size) (not (same_block t.0.block s.block)) (together.apart d k other t.0 t.1 s there)).1
            (both_of kind name t.0.block s.block t.2 of))
      ]

  left_slot : (old : Option ℕ) (k : ℕ) (s : Slot) → slot_at (without_slot old slots) k ≡ Some s → (slot_at slots k ≡ Some s) × (old ≢ Some k)
  left_slot None k s there = (there, λ is. cc is)
  left_slot (Some d) k s there =
      elim (cases_eq k d) [
        | inl here ↦ absurd (gone k s d here there)
        | inr other ↦ (sym (get_or-set_other slots d k None None other) ∙ there, λ is. other (some_same d k is))
      ]
    where
      some_same : (d k : ℕ) → Some d ≡ Some k → k ≡ d
      some_same d k is = cc is

      empty : (xs : List (Option Slot)) (d : ℕ) → slot_at (slice_set xs d None) d ≡ None
      empty [] d = refl
      empty (x ∷ xs) zero = refl
      empty (x ∷ xs) (suc d) = empty xs d

      gone : (k : ℕ) (s : Slot) (d : ℕ) → k ≡ d → slot_at (slice_set slots d None) k ≡ Some s → ⊥
      gone k s d here there = cc (sym (empty slots d) ∙ subst (λ i. slot_at (slice_set slots d None) i ≡ Some s) here there)

  other_name : (old : Option ℕ) → old ≡ doubtful_slot kind name slots → (k : ℕ) (s : Slot) → slot_at (without_slot old slots) k ≡ Some s → is_of kind name s.block ≡ false
  other_name old found k s there =
      let left = left_slot old k s there in
      elim (cases_Bool (is_of kind name s.block)) [
        | inl of ↦ absurd (left.1 (only_old old found k s left.0 of))
        | inr not_of ↦ not_of
      ]

all_of_blocks : (p : Block → Bool) (slots : List (Option Slot)) → list_all p (blocks_of slots) ≡ true → (k : ℕ) (s : Slot) → slot_at slots k ≡ Some s → p s.block ≡ true
all_of_blocks p [] all k s there = absurd (cc there)
all_of_blocks p (None ∷ slots) all zero s there = absurd (cc there)
all_of_blocks p (None ∷ slots) all (suc k) s there = all_of_blocks p slots all k s there
all_of_blocks p (Some t ∷ slots) all zero s there = rw (← same_Some t s there) (and_parts (p t.block) (list_all p (blocks_of slots)) all).0
all_of_blocks p (Some t ∷ slots) all (suc k) s there = all_of_blocks p slots (and_parts (p t.block) (list_all p (blocks_of slots)) all).1 k s there

find_passes : {X : Type 0} (p : X → Bool) (xs : List X) (x : X) → find p xs ≡ Some x → p x ≡ true
find_passes p [] x found = absurd (cc found)
find_passes p (y ∷ ys) x found =
    elim (cases_Bool (p y)) [
      | inl holds ↦ rw (← same_Some y x (rw holds at found)) holds
      | inr fails ↦ find_passes p ys x (rw fails at found)
    ]

place_fits : (taken_blocks : List Block) (size at : ℕ) → place taken_blocks size ≡ Some at → fits taken_blocks size at ≡ true
unfolding place
place_fits taken_blocks size at found = find_passes (fits taken_blocks size) (range_with_len blocks_begin (blocks_end - blocks_begin)) at found

no_same_block : (kind : BlockKind) (name : List ℕ) (size at : ℕ) (s : Block) → is_of kind name s ≡ false → not (same_block (record { kind = kind; offset = at; size = size; name = name }) s) ≡ true
no_same_block kind name size at s other = rw (same_kind-sym kind s.kind, bytes_eq-sym name s.name, other) refl

length-without : (old : Option ℕ) (slots : List (Option Slot)) → length (without_slot old slots) ≡ length slots
length-without None slots = refl
length-without (Some n) slots = length-set slots n None

pub new_is : (kind : BlockKind) (name : List ℕ) (size n at : ℕ) (old : Option ℕ) (slots : List (Option Slot)) → AreTogether slots → open_slot kind name slots ≡ None → old ≡ doubtful_slot kind name slots
    → is_name name ≡ true → 1 ≤ size → size ≤ table_limit → room_in size (without_slot old slots) ≡ Some (n, at)
    → IsNew n (without_slot old slots) (record { kind = kind; offset = at; size = size; name = name })
new_is kind name size n at old slots together none_open found named some within room =
    let left = without_slot old slots in
    let parts = both_parts (least_free left) (place (blocks_of left) size) n at room in
    let free = position-Some is_none left n None parts.0 in
    let apart = and_parts (is_inside at size) (list_all (λ (b : Block). are_apart at size b.offset b.size) (blocks_of left)) (place_fits (blocks_of left) size at parts.1) in
    record {
      within = omega (arith, free.0, length-without old slots, together.all_slots);
      free = free_there (slot_at left n) free.1;
      right =
          and_from (nat_lt 0 size && nat_le size table_limit && is_inside at size) (is_name name)
          (and_from (nat_lt 0 size && nat_le size table_limit) (is_inside at size) (and_from (nat_lt 0 size) (nat_le size table_limit) (le-leb 1 size some) (le-leb size table_limit within)) apart.0)
          named;
      agrees = λ k s there.
          and_from (are_apart at size s.block.offset s.block.size) (not (same_block (record { kind = kind; offset = at; size = size; name = name }) s.block))
          (all_of_blocks (λ (b : Block). are_apart at size b.offset b.size) left apart.1 k s there)
          (no_same_block kind name size at s.block (other_name kind name slots together none_open old found k s there));
    }

pub old_taken : (kind : BlockKind) (name : List ℕ) (slots : List (Option Slot)) (old : Option ℕ) → old ≡ doubtful_slot kind name slots → IfSome old (λ n. IsSome (slot_at slots n))
old_taken kind name slots None found = tt
old_taken kind name slots (Some d) found =
    let t = of_doubtful kind name (slot_at slots d) (position-Some (is_doubtful_slot kind name) slots d None (sym found)).1 in
    rw t.1 refl

open_with_size : (kind : BlockKind) (name : List ℕ) (size : ℕ) (o : Option Slot) (b : Block) → is_open_slot kind name o ≡ true → option_map block_of o ≡ Some b → b.size ≡ size → IsOpenOf size o
open_with_size kind name size None b is there fits = absurd (cc is)
open_with_size kind name size (Some s) b is there fits =
    (not_true s.doubtful (and_parts (is_of kind name s.block) (not s.doubtful) is).1, ap (λ (c : Block). c.size) (same_Some s.block b there) ∙ fits)
  where
    not_true : (d : Bool) → not d ≡ true → d ≡ false
    not_true true p = absurd (cc p)
    not_true false p = refl

-- the block that is found under a name is open
pub found_is_open : (kind : BlockKind) (name : List ℕ) (size n : ℕ) (slots : List (Option Slot)) (b : Block) → open_slot kind name slots ≡ Some n → option_map block_of (slot_at slots n) ≡ Some b → b.size ≡ size → IsOpenOf size (slot_at slots n)
found_is_open kind name size n slots b found there fits =
    open_with_size kind name size (slot_at slots n) b (position-Some (is_open_slot kind name) slots n None found).1 there fits
