-- A reservation on the slots is one on the blocks that they represent.
use Rattle.std.proofs.Common.{◌≡◌, inl, inr, ℕ, List, [], ◌∷◌, map, slice_set, Bool, true, false, not, ◌&&◌, Option, Some, None, is_some, is_none, refl, sym, ◌∙◌, ap, subst}
use Rattle.std.specs.Option.{option_map}
use Rattle.std.proofs.lemmas.Bool.{and_parts}
use Rattle.std.proofs.lemmas.List.{map-set, set-get_or}
use Rattle.std.proofs.lemmas.List.Quantifiers.{position-Some}
use Rattle.tbl_kinds.proofs.PositionLaws.{position-map}
use Rattle.tbl_kinds.specs.Places.{place}
use Rattle.tbl_kinds.specs.Blocks.{Stored, Store as Blocks}
use Rattle.tbl_kinds.specs.StoreCalls.{reserve}
use Rattle.tbl_kinds.specs.StoreSteps.{is_of, is_doubtful_of, is_open_of, stored_at, doubtful_of, open_of, taken, freed, has_room, closed, made, reserved, reserve_broken, in_doubt}
use Rattle.tbl_kinds.specs.Free.{least_free}
use Rattle.tbl_kinds.specs.declared.block.Block.{Block}
use Rattle.tbl_kinds.specs.declared.block.BlockKind.{BlockKind}
use Rattle.tbl_outside.specs.declared.bank.Bank.{Ghosts}
use Rattle.cds_store.specs.Moments.{ShowsIn, LeavesIn, MakeLeaves}
use Rattle.cds_store.specs.Slots.{is_open_slot, is_doubtful_slot, open_slot, doubtful_slot, without_slot, blocks_of, both, room_in}
use Rattle.cds_store.specs.StoreBlocks.{StandsFor, kept, slot_of, with_new, closing, broken_at}
use Rattle.cds_store.specs.declared.slot.Slot.{Slot}

-- ---- lists of places

pub free_there : {X : Type 0} (place : Option X) → is_none place ≡ true → place ≡ None
free_there None free = refl
free_there (Some x) free = cc free

free_is : {X Y : Type 0} (f : X → Y) (place : Option X) → is_none (option_map f place) ≡ is_none place
free_is f None = refl
free_is f (Some x) = refl

-- ---- the slots, and the blocks that they represent

doubtful_is : (kind : BlockKind) (name : List ℕ) (place : Option Stored) → is_doubtful_slot kind name (option_map slot_of place) ≡ is_doubtful_of kind name place
doubtful_is kind name None = refl
doubtful_is kind name (Some b) = refl

open_is : (kind : BlockKind) (name : List ℕ) (place : Option Stored) → is_open_slot kind name (option_map slot_of place) ≡ is_open_of kind name place
open_is kind name None = refl
open_is kind name (Some b) = refl

taken_is : (blocks : Blocks) → blocks_of (map (option_map slot_of) blocks) ≡ taken blocks
taken_is [] = refl
taken_is (None ∷ blocks) = taken_is blocks
taken_is (Some b ∷ blocks) = ap (λ (l : List Block). b.block ∷ l) (taken_is blocks)

pub doubtful_same : (kind : BlockKind) (name : List ℕ) (slots : List (Option Slot)) (blocks : Blocks) → slots ≡ map (option_map slot_of) blocks → doubtful_slot kind name slots ≡ doubtful_of kind name blocks
doubtful_same kind name slots blocks same = ap (doubtful_slot kind name) same ∙ position-map (is_doubtful_slot kind name) (is_doubtful_of kind name) (option_map slot_of) (doubtful_is kind name) blocks

pub open_same : (kind : BlockKind) (name : List ℕ) (slots : List (Option Slot)) (blocks : Blocks) → slots ≡ map (option_map slot_of) blocks → open_slot kind name slots ≡ open_of kind name blocks
open_same kind name slots blocks same = ap (open_slot kind name) same ∙ position-map (is_open_slot kind name) (is_open_of kind name) (option_map slot_of) (open_is kind name) blocks

freed_same : (old : Option ℕ) (slots : List (Option Slot)) (blocks : Blocks) → slots ≡ map (option_map slot_of) blocks → without_slot old slots ≡ map (option_map slot_of) (freed old blocks)
freed_same None slots blocks same = same
freed_same (Some n) slots blocks same = ap (λ (l : List (Option Slot)). slice_set l n None) same ∙ sym (map-set (option_map slot_of) blocks n None)

least_same : (slots : List (Option Slot)) (blocks : Blocks) → slots ≡ map (option_map slot_of) blocks → least_free slots ≡ least_free blocks
least_same slots blocks same = ap least_free same ∙ position-map is_none is_none (option_map slot_of) (free_is slot_of) blocks

taken_same : (slots : List (Option Slot)) (blocks : Blocks) → slots ≡ map (option_map slot_of) blocks → blocks_of slots ≡ taken blocks
taken_same slots blocks same = ap blocks_of same ∙ taken_is blocks

-- the room, on the slots and on the blocks
pub room_same : (old : Option ℕ) (size : ℕ) (slots : List (Option Slot)) (blocks : Blocks) → slots ≡ map (option_map slot_of) blocks
    → room_in size (without_slot old slots) ≡ both (least_free (freed old blocks)) (place (taken (freed old blocks)) size)
room_same old size slots blocks same =
    let after = freed_same old slots blocks same in
    rw (least_same (without_slot old slots) (freed old blocks) after, taken_same (without_slot old slots) (freed old blocks) after) refl

pub both_parts : (a b : Option ℕ) (n at : ℕ) → both a b ≡ Some (n, at) → (a ≡ Some n) × (b ≡ Some at)
both_parts None b n at is = absurd (cc is)
both_parts (Some m) None n at is = absurd (cc is)
both_parts (Some m) (Some to) n at is = (ap (option_map (λ (p : ℕ × ℕ). p.0)) is, ap (option_map (λ (p : ℕ × ℕ). p.1)) is)

both_none : (a b : Option ℕ) → both a b ≡ None → (is_some a && is_some b) ≡ false
both_none None b is = refl
both_none (Some m) None is = refl
both_none (Some m) (Some to) is = absurd (cc is)

pub no_room : (old : Option ℕ) (size : ℕ) (slots : List (Option Slot)) (blocks : Blocks) → slots ≡ map (option_map slot_of) blocks → room_in size (without_slot old slots) ≡ None → has_room size old blocks ≡ false
no_room old size slots blocks same none = both_none (least_free (freed old blocks)) (place (taken (freed old blocks)) size) (sym (room_same old size slots blocks same) ∙ none)

both_is_some : (a b : Option ℕ) → is_some (both a b) ≡ (is_some a && is_some b)
both_is_some None b = refl
both_is_some (Some n) None = refl
both_is_some (Some n) (Some at) = refl

pub room_is : (old : Option ℕ) (size : ℕ) (slots : List (Option Slot)) (blocks : Blocks) → slots ≡ map (option_map slot_of) blocks → is_some (room_in size (without_slot old slots)) ≡ has_room size old blocks
room_is old size slots blocks same = ap is_some (room_same old size slots blocks same) ∙ both_is_some (least_free (freed old blocks)) (place (taken (freed old blocks)) size)

-- the free slot and the place
pub record Room (old : Option ℕ) (size n at : ℕ) (blocks : Blocks) : Type 0 where
  pub slot : least_free (freed old blocks) ≡ Some n
  pub place_is : place (taken (freed old blocks)) size ≡ Some at

pub room_there : (old : Option ℕ) (size n at : ℕ) (slots : List (Option Slot)) (blocks : Blocks) → slots ≡ map (option_map slot_of) blocks → room_in size (without_slot old slots) ≡ Some (n, at) → Room old size n at blocks
room_there old size n at slots blocks same is =
    let parts = both_parts (least_free (freed old blocks)) (place (taken (freed old blocks)) size) n at (sym (room_same old size slots blocks same) ∙ is) in
    record { slot = parts.0; place_is = parts.1 }

pub has_that_room : (old : Option ℕ) (size n at : ℕ) (blocks : Blocks) → Room old size n at blocks → has_room size old blocks ≡ true
has_that_room old size n at blocks room = rw (room.slot, room.place_is) refl

-- ---- what is done, and what is left if it broke off

module _ (kind : BlockKind) (name : List ℕ) (size n at : ℕ) (old : Option ℕ) (blocks : Blocks) (is : old ≡ doubtful_of kind name blocks) (room : Room old size n at blocks) where
  new : Block
  new = record { kind = kind; offset = at; size = size; name = name }

  made_is : (doubtful : Bool) → made doubtful kind name size (closed kind name blocks) ≡ with_new doubtful n (record { kind = kind; offset = at; size = size; name = name }) (freed old blocks)
  made_is doubtful = rw (← is, room.slot, room.place_is) refl

  pub reserved_is : with_new false n (record { kind = kind; offset = at; size = size; name = name }) (freed old blocks) ≡ reserved kind name size blocks
  reserved_is = sym (made_is false)

  already : (o : Option Stored) → is_doubtful_of kind name o ≡ true → option_map in_doubt o ≡ o
  already None there = refl
  already (Some b) there =
      let doubt : b.doubtful ≡ true = (and_parts (is_of kind name b.block) b.doubtful there).1 in
      ap (λ (d : Bool). Some (record b { doubtful = d })) (sym doubt)

  closing_at : (o : Option ℕ) → o ≡ doubtful_of kind name blocks → closing o blocks ≡ blocks
  closing_at None found = refl
  closing_at (Some d) found =
      ap (slice_set blocks d) (already (stored_at blocks d) (position-Some (is_doubtful_of kind name) blocks d None (sym found)).1)
      ∙ set-get_or blocks d None

  pub broken_is : (gate old_gate : Bool) → (old_gate ≡ true → gate ≡ true) → broken_at gate old_gate old n (record { kind = kind; offset = at; size = size; name = name }) blocks ≡ reserve_broken gate old_gate kind name size blocks
  broken_is true true both_set = closing_at old is
  broken_is false true both_set = absurd (cc (both_set refl))
  broken_is true false both_set = sym (made_is true)
  broken_is false false both_set = ap (λ (o : Option ℕ). freed o blocks) is

  pub make_leaves : (image : List ℕ) → MakeLeaves old n (record { kind = kind; offset = at; size = size; name = name }) blocks image → LeavesIn (reserve kind name size) blocks image
  make_leaves image (inl before) = inl before
  make_leaves image (inr (inl closed_then)) = inr (inr (false, false, (λ set. absurd (cc set)), subst (λ (o : Option ℕ). ShowsIn (freed o blocks) image) is closed_then))
  make_leaves image (inr (inr (inl in_closing))) = inl (subst (λ (l : Blocks). ShowsIn l image) (closing_at old is) in_closing)
  make_leaves image (inr (inr (inr made_then))) = inr (inr (true, false, (λ set. absurd (cc set)), subst (λ (l : Blocks). ShowsIn l image) (sym (made_is true)) made_then))

-- ---- by what the slots and the bank stand for

module _ {B : Type 0} (g : Ghosts B) (kind : BlockKind) (name : List ℕ) (size : ℕ) (slots : List (Option Slot)) (bank : B) (old : Option ℕ) (is : old ≡ doubtful_slot kind name slots) where
  pub old_is : (blocks : Blocks) → StandsFor g.tells g.now (kept slots bank) blocks → old ≡ doubtful_of kind name blocks
  old_is blocks stands = is ∙ doubtful_same kind name slots blocks stands.slots

  module _ (n at : ℕ) (room : room_in size (without_slot old slots) ≡ Some (n, at)) where
    pub room_for : (blocks : Blocks) → StandsFor g.tells g.now (kept slots bank) blocks → Room old size n at blocks
    room_for blocks stands = room_there old size n at slots blocks stands.slots room

    pub not_full : (blocks : Blocks) → StandsFor g.tells g.now (kept slots bank) blocks → false ≡ not (has_room size (doubtful_of kind name blocks) blocks)
    not_full blocks stands = ap not (sym (ap (λ o. has_room size o blocks) (sym (old_is blocks stands)) ∙ has_that_room old size n at blocks (room_for blocks stands)))

    pub reserve_leaves : (copy : List ℕ) → copy ≡ name → (blocks : Blocks) → StandsFor g.tells g.now (kept slots bank) blocks
        → (image : List ℕ) → MakeLeaves old n (record { kind = kind; offset = at; size = size; name = copy }) blocks image → LeavesIn (reserve kind name size) blocks image
    reserve_leaves copy same blocks stands =
        subst (λ (l : List ℕ). (image : List ℕ) → MakeLeaves old n (record { kind = kind; offset = at; size = size; name = l }) blocks image → LeavesIn (reserve kind name size) blocks image) (sym same)
        (make_leaves kind name size n at old blocks (old_is blocks stands) (room_for blocks stands))

-- ---- where a reservation can break off
