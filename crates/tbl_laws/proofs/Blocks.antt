-- No two blocks of the store are of one kind and one name: so it stays when blocks go, and when one is made.
use Rattle.std.proofs.Common.{◌≡◌, ℕ, zero, suc, ◌+◌, List, [], ◌∷◌, Bool, true, false, not, ◌&&◌, cond, eqb, Option, Some, None, refl, sym, ap, ◌∙◌, subst, inl, inr}
use Rattle.std.specs.Prelude.{slice_set}
use Rattle.std.specs.List.{list_any}
use Rattle.std.specs.Option.{option_map}
use Rattle.std.specs.Str.{bytes_eq}
use Rattle.std.proofs.lemmas.Bool.{cases_Bool, and_parts}
use Rattle.std.proofs.lemmas.List.Quantifiers.{position-Some}
use Rattle.std.proofs.lemmas.Option.{same_Some}
use Rattle.std.proofs.lemmas.Slice.Eq.{bytes_eq-Decides}
use Rattle.tbl_kinds.specs.Blocks.{Stored, Store}
use Rattle.tbl_kinds.specs.Places.{place}
use Rattle.tbl_kinds.specs.Free.{least_free}
use Rattle.tbl_kinds.specs.StoreSteps.{same_kind, same_block, is_of, is_open_of, is_doubtful_of, open_of, doubtful_of, stored_at, taken, freed, new_block, closed, made_at, made, changed, settled, settled_from, booted}
use Rattle.tbl_model.specs.Boots.{blocks_after}
use Rattle.tbl_kinds.specs.declared.block.Block.{Block}
use Rattle.tbl_kinds.specs.declared.block.BlockKind.{BlockKind}
use Rattle.tbl_kinds.specs.declared.block.BlockKind.TheVariants.{Table as of_table, App}
use Rattle.tbl_kinds.specs.declared.note.BankNote.{BankNote}
use Rattle.tbl_kinds.specs.declared.request.ResetKind.{ResetKind}
use Rattle.tbl_kinds.specs.declared.request.ResetKind.TheVariants.{Processor, PowerOn}
use Rattle.tbl_session.specs.Backed.{AreSingle}
use Rattle.tbl_laws.proofs.Pins.{at_put, at_set, none_passes, nothing_there}

-- ---- kinds and names

pub kinds_same : (a b : BlockKind) → same_kind a b ≡ true → a ≡ b
kinds_same of_table of_table is = refl
kinds_same of_table App is = absurd (cc is)
kinds_same App of_table is = absurd (cc is)
kinds_same App App is = refl

kind_is : (a : BlockKind) → same_kind a a ≡ true
kind_is of_table = refl
kind_is App = refl

pub name_is : (a : List ℕ) → bytes_eq a a ≡ true
name_is a = (bytes_eq-Decides a a).1 refl

-- a block of a kind and a name has them
pub of_parts : (kind : BlockKind) (name : List ℕ) (b : Block) → is_of kind name b ≡ true → (b.kind ≡ kind) × (b.name ≡ name)
of_parts kind name b is =
    let parts = and_parts (same_kind b.kind kind) (bytes_eq b.name name) is in
    (kinds_same b.kind kind parts.0, (bytes_eq-Decides b.name name).0 parts.1)

-- one that has them is of them
pub is_of_parts : (kind : BlockKind) (name : List ℕ) (b : Block) → b.kind ≡ kind → b.name ≡ name → is_of kind name b ≡ true
is_of_parts kind name b one other = rw (one, other, kind_is kind, name_is name) refl

-- and two blocks are of one kind and one name if both have them
same_parts : (a b : Block) → same_block a b ≡ true → (a.kind ≡ b.kind) × (a.name ≡ b.name)
same_parts a b is = of_parts b.kind b.name a is

pub both_of : (kind : BlockKind) (name : List ℕ) (a b : Block) → is_of kind name a ≡ true → is_of kind name b ≡ true → same_block a b ≡ true
both_of kind name a b one other =
    let first = of_parts kind name a one in
    let second = of_parts kind name b other in
    rw (first.0, second.0, first.1, second.1, kind_is kind, name_is name) refl

-- ---- blocks of a kind and a name

-- in this slot is one of them, open or doubtful
pub record IsOneOf (store : Store) (kind : BlockKind) (name : List ℕ) (slot : ℕ) : Type 0 where
  pub b : Stored
  pub there : stored_at store slot ≡ Some b
  pub is : is_of kind name b.block ≡ true

-- there is none of them
abbrev pub NoneOf : BlockKind → List ℕ → Store → Type 0
NoneOf kind name store = (n : ℕ) (b : Stored) → stored_at store n ≡ Some b → is_of kind name b.block ≡ false

module _ (kind : BlockKind) (name : List ℕ) (store : Store) where
  pub open_stands : (slot : ℕ) → open_of kind name store ≡ Some slot → IsOneOf store kind name slot
  open_stands slot is = by (stored_at store slot) refl (position-Some (is_open_of kind name) store slot None is).1 where
    by : (found : Option Stored) → stored_at store slot ≡ found → is_open_of kind name found ≡ true → IsOneOf store kind name slot
    by None there passes = absurd (cc passes)
    by (Some b) there passes = record { b = b; there = there; is = (and_parts (is_of kind name b.block) (not b.doubtful) passes).0 }

  pub doubtful_stands : (slot : ℕ) → doubtful_of kind name store ≡ Some slot → IsOneOf store kind name slot
  doubtful_stands slot is = by (stored_at store slot) refl (position-Some (is_doubtful_of kind name) store slot None is).1 where
    by : (found : Option Stored) → stored_at store slot ≡ found → is_doubtful_of kind name found ≡ true → IsOneOf store kind name slot
    by None there passes = absurd (cc passes)
    by (Some b) there passes = record { b = b; there = there; is = (and_parts (is_of kind name b.block) b.doubtful passes).0 }

  -- if there is none, none is open, and none doubtful
  pub none_open : NoneOf kind name store → open_of kind name store ≡ None
  none_open none = by (open_of kind name store) refl where
    by : (found : Option ℕ) → open_of kind name store ≡ found → found ≡ None
    by None is = refl
    by (Some slot) is = let stands = open_stands slot is in absurd (cc (stands.is, none slot stands.b stands.there))

  pub none_doubtful : NoneOf kind name store → doubtful_of kind name store ≡ None
  none_doubtful none = by (doubtful_of kind name store) refl where
    by : (found : Option ℕ) → doubtful_of kind name store ≡ found → found ≡ None
    by None is = refl
    by (Some slot) is = let stands = doubtful_stands slot is in absurd (cc (stands.is, none slot stands.b stands.there))

  neither : (is doubtful : Bool) → (is && not doubtful) ≡ false → (is && doubtful) ≡ false → is ≡ false
  neither false doubtful one other = refl
  neither true true one other = other
  neither true false one other = one

  -- and the other way round
  none_at_all : open_of kind name store ≡ None → doubtful_of kind name store ≡ None → NoneOf kind name store
  none_at_all no_open no_doubtful n b there =
      neither (is_of kind name b.block) b.doubtful (none_passes (is_open_of kind name) store n b no_open there) (none_passes (is_doubtful_of kind name) store n b no_doubtful there)

  module _ (single : AreSingle store) where
    -- if the one that there is goes, there is none
    pub gone : (slot : ℕ) → IsOneOf store kind name slot → NoneOf kind name (slice_set store slot None)
    gone slot stands n b there = elim (at_put store slot n None b there) [
      | inl here ↦ absurd (cc here.1)
      | inr other ↦ elim (cases_Bool (is_of kind name b.block)) [
        | inl is ↦ absurd (other.0 (single n slot b stands.b other.1 stands.there (both_of kind name b.block stands.b.block is stands.is)))
        | inr is_not ↦ is_not
      ]
    ]

    pub closed_none : open_of kind name store ≡ None → NoneOf kind name (closed kind name store)
    closed_none no_open = by (doubtful_of kind name store) refl where
      by : (found : Option ℕ) → doubtful_of kind name store ≡ found → NoneOf kind name (freed found store)
      by None is = none_at_all no_open is
      by (Some slot) is = gone slot (doubtful_stands slot is)

-- ---- each block was there before

pub record Stood (old : Store) (slot : ℕ) (b : Stored) : Type 0 where
  pub was : Stored
  pub there : stored_at old slot ≡ Some was
  pub same : b.block ≡ was.block

pub record Remain (old new : Store) : Type 0 where
  pub each : (slot : ℕ) (b : Stored) → stored_at new slot ≡ Some b → Stood old slot b

pub remain_single : (old new : Store) → Remain old new → AreSingle old → AreSingle new
remain_single old new remain single m n a b at_m at_n same =
    let x = remain.each m a at_m in
    let y = remain.each n b at_n in
    single m n x.was y.was x.there y.there (rw (← x.same, ← y.same) same)

set_remain : (store : Store) (n : ℕ) (y : Option Stored) → ((b : Stored) → y ≡ Some b → Stood store n b) → Remain store (slice_set store n y)
set_remain store n y here = record {
  each = λ slot b there. elim (at_put store n slot y b there) [
    | inl at ↦ subst (λ (k : ℕ). Stood store k b) (sym at.0) (here b at.1)
    | inr other ↦ record { was = b; there = other.1; same = refl }
  ];
}

pub freed_remain : (store : Store) (found : Option ℕ) → Remain store (freed found store)
freed_remain store None = record { each = λ slot b there. record { was = b; there = there; same = refl } }
freed_remain store (Some slot) = set_remain store slot None (λ b is. absurd (cc is))

pub change_remain : (store : Store) (n : ℕ) (change : Stored → Stored) → ((b : Stored) → (change b).block ≡ b.block) → Remain store (changed change n store)
change_remain store n change block = set_remain store n _ (by (stored_at store n) refl) where
  by : (found : Option Stored) → stored_at store n ≡ found → (b : Stored) → option_map change found ≡ Some b → Stood store n b
  by None at b is = absurd (cc is)
  by (Some was) at b is = record { was = was; there = at; same = ap (λ (x : Stored). x.block) (sym (same_Some (change was) b is)) ∙ block was }

-- ---- boots

settled_stood : (found : List ℕ) (slot : ℕ) (place : Option Stored) (b : Stored) → settled found slot place ≡ Some b → (was : Stored) × (place ≡ Some was) × (b.block ≡ was.block)
settled_stood found slot None b is = absurd (cc is)
settled_stood found slot (Some was) b is = (was, refl, by (not was.doubtful) (list_any (λ n. eqb n slot) found) is) where
  by : (open_before found_open : Bool) → cond open_before (Some was) (cond found_open (Some (record was { doubtful = false })) None) ≡ Some b → b.block ≡ was.block
  by true found_open at = ap (λ (x : Stored). x.block) (sym (same_Some was b at))
  by false true at = ap (λ (x : Stored). x.block) (sym (same_Some (record was { doubtful = false }) b at))
  by false false at = absurd (cc at)

settled_at : (found : List ℕ) (k : ℕ) (store : Store) (n : ℕ) (b : Stored) → stored_at (settled_from found k store) n ≡ Some b → Stood store n b
settled_at found k [] n b there = absurd (cc there)
settled_at found k (place ∷ store) zero b there = let at = settled_stood found k place b there in record { was = at.0; there = at.1; same = at.2 }
settled_at found k (place ∷ store) (suc n) b there = let at = settled_at found (k + 1) store n b there in record { was = at.was; there = at.there; same = at.same }

booted_single : (kind : ResetKind) (found : List ℕ) (store : Store) → AreSingle store → AreSingle (booted kind found store)
booted_single Processor found store single = remain_single store _ (record { each = settled_at found 0 store }) single
booted_single PowerOn found store single = λ m n a b at_m at_n same. absurd (nothing_there 128 m a at_m)

pub boot_single : (kind : ResetKind) (note : BankNote) (store : Store) → AreSingle store → AreSingle (blocks_after kind note store)
boot_single kind note store single = by note.ended where
  by : (ended : Bool) → AreSingle (cond ended store (booted kind note.found store))
  by true = single
  by false = booted_single kind note.found store single

-- ---- a new block

pub made_single : (doubtful : Bool) (kind : BlockKind) (name : List ℕ) (size : ℕ) (store : Store) → NoneOf kind name store → AreSingle store → AreSingle (made doubtful kind name size store)
made_single doubtful kind name size store none single = by (least_free store) (place (taken store) size) where
  put : (slot at : ℕ) → AreSingle (slice_set store slot (Some (new_block doubtful kind name size at)))
  put slot at m n a b at_m at_n same = elim (at_set store slot m (new_block doubtful kind name size at) a at_m) [
    | inl first ↦ elim (at_set store slot n (new_block doubtful kind name size at) b at_n) [
      | inl second ↦ first.0 ∙ sym second.0
      | inr second ↦ absurd (let parts = same_parts a.block b.block same in cc (none n b second.1, is_of_parts kind name b.block (sym parts.0 ∙ ap (λ (x : Stored). x.block.kind) (sym first.1)) (sym parts.1 ∙ ap (λ (x : Stored). x.block.name) (sym first.1))))
    ]
    | inr first ↦ elim (at_set store slot n (new_block doubtful kind name size at) b at_n) [
      | inl second ↦ absurd (let parts = same_parts a.block b.block same in cc (none m a first.1, is_of_parts kind name a.block (parts.0 ∙ ap (λ (x : Stored). x.block.kind) (sym second.1)) (parts.1 ∙ ap (λ (x : Stored). x.block.name) (sym second.1))))
      | inr second ↦ single m n a b first.1 second.1 same
    ]
  ]

  by : (slot at : Option ℕ) → AreSingle (made_at doubtful kind name size slot at store)
  by None at = single
  by (Some slot) None = single
  by (Some slot) (Some at) = put slot at
