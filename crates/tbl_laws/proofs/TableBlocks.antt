-- The open block of a table: it stays when blocks of other names go, and when one is made.
use Rattle.std.proofs.Common.{◌≡◌, ℕ, List, Bool, true, false, not, ◌&&◌, cond, eqb, Option, Some, None, is_some, refl, sym, ap, ◌∙◌, inl, inr}
use Rattle.std.specs.Prelude.{slice_set, IsSome, option_and_then}
use Rattle.std.specs.Option.{option_map}
use Rattle.std.proofs.lemmas.Bool.{cases_eq, and_parts, eqb-true, eq-eqb}
use Rattle.std.proofs.lemmas.List.{get_or-set_same, get_or-set_other}
use Rattle.std.proofs.lemmas.List.Quantifiers.{position-Some}
use Rattle.tbl_kinds.specs.Blocks.{Stored, Store}
use Rattle.tbl_kinds.specs.Places.{place}
use Rattle.tbl_kinds.specs.Free.{least_free}
use Rattle.tbl_kinds.specs.StoreSteps.{is_of, is_open_of, is_doubtful_of, open_of, doubtful_of, stored_at, taken, freed, new_block, closed, made_at, made, changed}
use Rattle.tbl_kinds.proofs.FreeLaws.{least_free-None, least_free-within}
use Rattle.tbl_model.specs.State.{Table}
use Rattle.tbl_model.specs.AppBlocks.{has_size}
use Rattle.tbl_model.specs.Copies.{block_of}
use Rattle.tbl_kinds.specs.declared.block.BlockKind.{BlockKind}
use Rattle.tbl_kinds.specs.declared.block.BlockKind.TheVariants.{Table as of_table}
use Rattle.tbl_session.specs.Backed.{AreSingle}
use Rattle.tbl_laws.proofs.Rows.{within}
use Rattle.tbl_laws.proofs.Blocks.{open_stands, both_of, name_is}
use Rattle.tbl_laws.proofs.Pins.{none_passes}

-- ---- it is the table's block

-- an open block of a table of this name and size
pub record HasBlock (store : Store) (name : List ℕ) (size : ℕ) : Type 0 where
  pub slot : ℕ
  pub b : Stored
  pub there : stored_at store slot ≡ Some b
  pub is : is_open_of of_table name (Some b) ≡ true
  pub sized : b.block.size ≡ size

pub has_block : (t : Table) (store : Store) → IsSome (block_of t store) → HasBlock store t.name t.size
has_block t store some = by (open_of of_table t.name store) refl some where
  at : (slot : ℕ) (found : Option Stored) → stored_at store slot ≡ found → is_open_of of_table t.name found ≡ true → is_some (cond (has_size t.size found) (Some slot) None) ≡ true → HasBlock store t.name t.size
  at slot None there is some = absurd (cc is)
  at slot (Some b) there is some = sized (eqb b.block.size t.size) refl some where
    sized : (same : Bool) → eqb b.block.size t.size ≡ same → is_some (cond same (Some slot) None) ≡ true → HasBlock store t.name t.size
    sized true same some = record { slot = slot; b = b; there = there; is = is; sized = eqb-true b.block.size t.size same }
    sized false same some = absurd (cc some)

  by : (found : Option ℕ) → open_of of_table t.name store ≡ found → is_some (cond (has_size t.size (option_and_then (stored_at store) found)) found None) ≡ true → HasBlock store t.name t.size
  by None is some = absurd (cc some)
  by (Some slot) is some = at slot (stored_at store slot) refl (position-Some (is_open_of of_table t.name) store slot None is).1 some

pub is_block : (t : Table) (store : Store) → AreSingle store → HasBlock store t.name t.size → IsSome (block_of t store)
is_block t store single has = by (open_of of_table t.name store) refl where
  by : (found : Option ℕ) → open_of of_table t.name store ≡ found → is_some (cond (has_size t.size (option_and_then (stored_at store) found)) found None) ≡ true
  by None is = absurd (cc (has.is, none_passes (is_open_of of_table t.name) store has.slot has.b is has.there))
  by (Some slot) is =
      let stands = open_stands of_table t.name store slot is in
      let of = (and_parts (is_of of_table t.name has.b.block) (not has.b.doubtful) has.is).0 in
      let one : slot ≡ has.slot = single slot has.slot stands.b has.b stands.there has.there (both_of of_table t.name stands.b.block has.b.block stands.is of) in
      rw (one, has.there, eq-eqb has.b.block.size t.size has.sized) refl

-- ---- it stays

-- what was in a slot was no open block of the name
pub set_keeps : (store : Store) (n : ℕ) (y : Option Stored) (name : List ℕ) (size : ℕ) → is_open_of of_table name (stored_at store n) ≡ false → HasBlock store name size → HasBlock (slice_set store n y) name size
set_keeps store n y name size other has = elim (cases_eq has.slot n) [
  | inl same ↦ absurd (cc (other, ap (λ (k : ℕ). is_open_of of_table name (stored_at store k)) (sym same), ap (is_open_of of_table name) has.there, has.is))
  | inr apart ↦ record { slot = has.slot; b = has.b; there = get_or-set_other store n has.slot y None apart ∙ has.there; is = has.is; sized = has.sized }
]

-- a change that leaves the block, and whether it is in doubt
pub change_keeps : (store : Store) (n : ℕ) (change : Stored → Stored) (name : List ℕ) (size : ℕ) → ((b : Stored) → (change b).block ≡ b.block) → ((b : Stored) → (change b).doubtful ≡ b.doubtful)
    → HasBlock store name size → HasBlock (changed change n store) name size
change_keeps store n change name size block doubtful has = elim (cases_eq has.slot n) [
  | inl same ↦ record {
    slot = has.slot;
    b = change has.b;
    there = rw same (get_or-set_same store n (option_map change (stored_at store n)) None (within store n has.b (ap (λ (k : ℕ). stored_at store k) (sym same) ∙ has.there)) ∙ ap (option_map change) (ap (λ (k : ℕ). stored_at store k) (sym same) ∙ has.there));
    is = rw (block has.b, doubtful has.b) has.is;
    sized = rw (block has.b) has.sized;
  }
  | inr apart ↦ record { slot = has.slot; b = has.b; there = get_or-set_other store n has.slot _ None apart ∙ has.there; is = has.is; sized = has.sized }
]

and_no : (b : Bool) → (b && false) ≡ false
and_no true = refl
and_no false = refl

-- a doubtful block is no open one
not_open : (o : Option Stored) (kind : BlockKind) (other name : List ℕ) → is_doubtful_of kind other o ≡ true → is_open_of of_table name o ≡ false
not_open None kind other name is = refl
not_open (Some b) kind other name is = rw (and_parts (is_of kind other b.block) b.doubtful is).1 (and_no (is_of of_table name b.block))

module _ (name : List ℕ) (size : ℕ) where
  pub closed_keeps : (kind : BlockKind) (other : List ℕ) (store : Store) → HasBlock store name size → HasBlock (closed kind other store) name size
  closed_keeps kind other store has = by (doubtful_of kind other store) refl where
    by : (found : Option ℕ) → doubtful_of kind other store ≡ found → HasBlock (freed found store) name size
    by None at = has
    by (Some slot) at = set_keeps store slot None name size (not_open (stored_at store slot) kind other name (position-Some (is_doubtful_of kind other) store slot None at).1) has

  pub made_keeps : (doubtful : Bool) (kind : BlockKind) (other : List ℕ) (len : ℕ) (store : Store) → HasBlock store name size → HasBlock (made doubtful kind other len store) name size
  made_keeps doubtful kind other len store has = by (least_free store) (place (taken store) len) refl where
    by : (slot at : Option ℕ) → least_free store ≡ slot → HasBlock (made_at doubtful kind other len slot at store) name size
    by None at free = has
    by (Some slot) None free = has
    by (Some slot) (Some at) free = set_keeps store slot _ name size (ap (is_open_of of_table name) (least_free-None store slot free)) has

-- ---- it is made

-- if a slot and a place are there
pub made_has : (name : List ℕ) (size : ℕ) (store : Store) → (is_some (least_free store) && is_some (place (taken store) size)) ≡ true → HasBlock (made false of_table name size store) name size
made_has name size store room = by (least_free store) (place (taken store) size) refl room where
  by : (slot at : Option ℕ) → least_free store ≡ slot → (is_some slot && is_some at) ≡ true → HasBlock (made_at false of_table name size slot at store) name size
  by None at free is = absurd (cc is)
  by (Some slot) None free is = absurd (cc is)
  by (Some slot) (Some at) free is = record {
    slot = slot;
    b = new_block false of_table name size at;
    there = get_or-set_same store slot (Some (new_block false of_table name size at)) None (least_free-within store slot free);
    is = rw (name_is name) refl;
    sized = refl;
  }
