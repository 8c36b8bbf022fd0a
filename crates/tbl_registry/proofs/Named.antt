-- The names of tables.
use Rattle.std.proofs.Common.{◌≡◌, ◌≢◌, ◌<◌, ℕ, List, length, position, slice_index_or, slice_set, Bool, true, false, cond, nat_lt, Option, Some, None, IsSome, refl, ap, sym, ◌∙◌, inl, inr, arith}
use Rattle.std.specs.List.{position_or_len}
use Rattle.std.specs.Str.{bytes_eq}
use Rattle.std.proofs.lemmas.Bool.{cases_eq, cases_Bool}
use Rattle.std.proofs.lemmas.Bool.Decides.{nat_tests}
use Rattle.std.proofs.lemmas.List.{length-set, get_or-set_same, get_or-set_other}
use Rattle.std.proofs.lemmas.List.Folds.{position_or_len-set}
use Rattle.std.proofs.lemmas.List.Quantifiers.{position-Some}
use Rattle.std.proofs.lemmas.List.Sums.{position_or_len_is}
use Rattle.std.proofs.lemmas.Option.{same_Some}
use Rattle.std.proofs.lemmas.Slice.Eq.{bytes_eq-Decides}
use Rattle.tbl_model.specs.State.{Table}
use Rattle.tbl_model.specs.TableSteps.{has_name}
use Rattle.tbl_registry.specs.Sound.{AreNamed}
use Rattle.tbl_kinds.proofs.PositionLaws.{position-None}
use Rattle.tbl_registry.proofs.Places.{within_places}

same_name : (name : List ℕ) → bytes_eq name name ≡ true
same_name name = (bytes_eq-Decides name name).1 refl

other_name : (a b : List ℕ) → bytes_eq a b ≡ false → bytes_eq b a ≡ false
other_name a b other =
    elim (cases_Bool (bytes_eq b a)) [
      | inl same ↦ absurd (cc ((bytes_eq-Decides a b).1 (sym ((bytes_eq-Decides b a).0 same)), other))
      | inr differ ↦ differ
    ]

position-set : {X : Type 0} (p : X → Bool) (xs : List X) (n : ℕ) (y d : X) → p y ≡ p (slice_index_or xs n d) → position p (slice_set xs n y) ≡ position p xs
position-set p xs n y d same = rw (position_or_len-set p xs n y d same, length-set xs n y) refl

some_at : (n all : ℕ) → n < all → cond (nat_lt n all) (Some n) None ≡ Some n
some_at n all within = grind (arith, nat_tests)

-- a table is changed and keeps its name
pub named_kept : (rows : List (Option Table)) (row : ℕ) (t u : Table) → slice_index_or rows row None ≡ Some t → u.name ≡ t.name → AreNamed rows → AreNamed (slice_set rows row (Some u))
named_kept rows row t u there same named k x is =
    let stays : position (has_name x.name) (slice_set rows row (Some u)) ≡ position (has_name x.name) rows =
    position-set (has_name x.name) rows row (Some u) None (rw (there, same) refl) in
    elim (cases_eq k row) [
      | inl here ↦
          let at : slice_index_or (slice_set rows row (Some u)) row None ≡ Some x = rw here at is in
          let x_is : u ≡ x = same_Some u x (sym (get_or-set_same rows row (Some u) None (within_places rows row t there)) ∙ at) in
          let x_name : x.name ≡ t.name = ap (λ (v : Table). v.name) (sym x_is) ∙ same in
          rw (stays, here, x_name) (named row t there)
      | inr other ↦ stays ∙ named k x (sym (get_or-set_other rows row k (Some u) None other) ∙ is)
    ]

-- a table with a new name comes into a free row
pub named_added : (rows : List (Option Table)) (row : ℕ) (t : Table) → slice_index_or rows row None ≡ None → row < length rows → position (has_name t.name) rows ≡ None → AreNamed rows → AreNamed (slice_set rows row (Some t))
named_added rows row t free within new named k x is =
    let rows' : List (Option Table) = slice_set rows row (Some t) in
    let added : slice_index_or rows' row None ≡ Some t = get_or-set_same rows row (Some t) None within in
    elim (cases_eq k row) [
      | inl here ↦
          let x_is : t ≡ x = same_Some t x (sym added ∙ rw here at is) in
          let first : position_or_len (has_name t.name) rows' ≡ row = position_or_len_is (has_name t.name) rows' row None (rw (length-set rows row (Some t)) (omega arith))
          (λ j before. let apart : j ≢ row = omega arith in rw (get_or-set_other rows row j (Some t) None apart) (position-None (has_name t.name) rows j None new refl))
          (λ _. rw added (same_name t.name)) in
          rw (← x_is, here, first, length-set rows row (Some t)) (some_at row (length rows) within)
      | inr other ↦
          let at : slice_index_or rows k None ≡ Some x = sym (get_or-set_other rows row k (Some t) None other) ∙ is in
          let differ : bytes_eq x.name t.name ≡ false = rw at at (position-None (has_name t.name) rows k None new refl) in
          position-set (has_name x.name) rows row (Some t) None (rw free (other_name x.name t.name differ)) ∙ named k x at
    ]

-- a table goes
pub named_removed : (rows : List (Option Table)) (row : ℕ) (t : Table) → slice_index_or rows row None ≡ Some t → AreNamed rows → AreNamed (slice_set rows row None)
named_removed rows row t there named k x is =
    elim (cases_eq k row) [
      | inl here ↦ absurd (cc (get_or-set_same rows row None None (within_places rows row t there), rw here at is))
      | inr apart ↦
          let at : slice_index_or rows k None ≡ Some x = sym (get_or-set_other rows row k None None apart) ∙ is in
          elim (cases_Bool (bytes_eq t.name x.name)) [
            | inl same ↦
                let name : t.name ≡ x.name = (bytes_eq-Decides t.name x.name).0 same in
                absurd (apart (same_Some k row (sym (named k x at) ∙ rw (← name) (named row t there))))
            | inr differ ↦ position-set (has_name x.name) rows row None None (rw (there, differ) refl) ∙ named k x at
          ]
    ]

named_there : (name : List ℕ) (row : Option Table) → has_name name row ≡ true → IsSome row
named_there name None is = absurd (cc is)
named_there name (Some t) is = refl

-- whose row it is looked for in first
pub named_hit : (name : List ℕ) (rows : List (Option Table)) (row : ℕ) → AreNamed rows → has_name name (slice_index_or rows row None) ≡ true → position (has_name name) rows ≡ Some row
named_hit name rows row named is = by (slice_index_or rows row None) refl is where
  by : (o : Option Table) → slice_index_or rows row None ≡ o → has_name name o ≡ true → position (has_name name) rows ≡ Some row
  by None at is = absurd (cc is)
  by (Some t) at is = let same : t.name ≡ name = (bytes_eq-Decides t.name name).0 is in rw (← same) (named row t at)

-- a table is in the row that is found
pub named_row : (name : List ℕ) (rows : List (Option Table)) (row : ℕ) → position (has_name name) rows ≡ Some row → IsSome (slice_index_or rows row None)
named_row name rows row found = named_there name _ (position-Some (has_name name) rows row None found).1
