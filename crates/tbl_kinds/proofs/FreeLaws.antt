-- The least free place: where there is none, all are taken.
use Rattle.std.proofs.Common.{◌≡◌, ℕ, ◌+◌, ◌<◌, ◌≤◌, ◌↔◌, List, [], ◌∷◌, Option, Some, None, IsNone, is_some, is_none, slice_index_or, map, length, count_by, true, cond, nat_lt, arith, refl}
use Rattle.std.specs.Option.{option_map}
use Rattle.std.proofs.lemmas.List.Quantifiers.{position-Some}
use Rattle.std.specs.List.{position_or_len}
use Rattle.std.proofs.lemmas.Bool.Decides.{nat_tests}
use Rattle.std.proofs.lemmas.List.Sums.{count_by-le-length, sum_by-cons}
use Rattle.tbl_kinds.specs.Free.{least_free}
use Rattle.tbl_kinds.proofs.PositionLaws.{position-map}

all_taken : {X : Type 0} (places : List (Option X)) → length places ≤ position_or_len is_none places → count_by is_some places ≡ length places
all_taken [] h = refl
all_taken {X} (Some x ∷ places) h =
    omega (arith, all_taken places (omega (arith, h)), sum_by-cons (λ (place : Option X). cond (is_some place) 1 0) (Some x) places)
all_taken (None ∷ places) h = absurd (omega (arith, h))

none_free : {X : Type 0} (places : List (Option X)) → count_by is_some places ≡ length places → length places ≤ position_or_len is_none places
none_free [] h = omega arith
none_free {X} (Some x ∷ places) h =
    let e : count_by is_some (Some x ∷ places) ≡ 1 + count_by is_some places = sum_by-cons (λ (place : Option X). cond (is_some place) 1 0) (Some x) places in
    omega (arith, none_free places (omega (arith, h, e)))
none_free {X} (None ∷ places) h =
    let e : count_by is_some (None ∷ places) ≡ 0 + count_by is_some places = sum_by-cons (λ (place : Option X). cond (is_some place) 1 0) None places in
    absurd (omega (arith, h, e, count_by-le-length is_some places))

none_past : (n all : ℕ) → all ≤ n → IsNone (cond (nat_lt n all) (Some n) None)
none_past n all h = grind (arith, nat_tests)

past_none : (n all : ℕ) → IsNone (cond (nat_lt n all) (Some n) None) → all ≤ n
past_none n all h = grind (arith, nat_tests)

pub none_where_full : {X : Type 0} (places : List (Option X)) → IsNone (least_free places) ↔ (count_by is_some places ≡ length places)
none_where_full places = (
  λ none. all_taken places (past_none (position_or_len is_none places) (length places) none),
  λ full. none_past (position_or_len is_none places) (length places) (none_free places full),
)

-- of so many places, by what a search for a free one gave
pub none_at : {X : Type 0} (places : List (Option X)) (found : Option ℕ) (all : ℕ) → found ≡ least_free places → length places ≡ all → IsNone found ↔ (count_by is_some places ≡ all)
none_at places found all least many = rw (least, ← many) (none_where_full places)

-- ---- nothing stands at it

none_there : {X : Type 0} (place : Option X) → is_none place ≡ true → place ≡ None
none_there None free = refl
none_there (Some x) free = absurd (cc free)

pub least_free-None : {X : Type 0} (places : List (Option X)) (n : ℕ) → least_free places ≡ Some n → slice_index_or places n None ≡ None
least_free-None places n free = none_there _ (position-Some is_none places n None free).1

pub least_free-within : {X : Type 0} (places : List (Option X)) (n : ℕ) → least_free places ≡ Some n → n < length places
least_free-within places n free = (position-Some is_none places n None free).0

-- ---- it is the same of places that are seen through a function

free_is : {X Y : Type 0} (f : X → Y) (place : Option X) → is_none (option_map f place) ≡ is_none place
free_is f None = refl
free_is f (Some x) = refl

pub least_free-map : {X Y : Type 0} (f : X → Y) (places : List (Option X)) → least_free (map (option_map f) places) ≡ least_free places
least_free-map f places = position-map is_none is_none (option_map f) (free_is f) places
