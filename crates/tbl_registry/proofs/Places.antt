-- Lists of places, seen by index.
use Rattle.std.proofs.Common.{◌≡◌, ℕ, ◌+◌, ◌<◌, zero, suc, List, [], ◌∷◌, length, map, replicate, count_by, position, slice_index_or, slice_set, Bool, true, false, not, ◌||◌, cond, nat_lt, is_some, Option, Some, None, refl, ap, sym, ◌∙◌, subst, IsSome, inl, inr, arith}
use Rattle.std.specs.List.{position_or_len, list_any}
use Rattle.std.specs.Option.{option_map, ForSome}
use Rattle.std.proofs.lemmas.Bool.{cases_lt}
use Rattle.std.proofs.lemmas.Option.{same_Some}
use Rattle.std.proofs.lemmas.Bool.Decides.{nat_tests}
use Rattle.std.proofs.lemmas.List.{length-map, get_or_past}
use Rattle.std.proofs.lemmas.List.Sums.{sum_by-set, sum_by-cons}
use Rattle.tbl_kinds.proofs.PositionLaws.{position-None}
use Rattle.access_desc.specs.Steps.{changed_at}
use Rattle.tbl_registry.specs.Pins.{AtEachPlace}
use Rattle.tbl_registry.specs.Counts.{one_if}

-- nothing is at a free place
pub get_or-replicate_None : {X : Type 0} (n k : ℕ) → slice_index_or (replicate {A = Option X} n None) k None ≡ None
get_or-replicate_None zero k = refl
get_or-replicate_None (suc n) zero = refl
get_or-replicate_None (suc n) (suc k) = get_or-replicate_None n k

-- two changes at one place are one
pub changed_at-twice : {X : Type 0} (f g : X → X) (xs : List (Option X)) (n : ℕ) → changed_at g (changed_at f xs n) n ≡ changed_at (λ x. g (f x)) xs n
changed_at-twice f g [] n = refl
changed_at-twice f g (None ∷ xs) zero = refl
changed_at-twice f g (Some x ∷ xs) zero = refl
changed_at-twice f g (x ∷ xs) (suc n) = ap (λ ys. x ∷ ys) (changed_at-twice f g xs n)

-- what holds at each place still does if something that it holds of is put
pub AtEachPlace-set : {X : Type 0} (P : X → Type 0) (xs : List (Option X)) (n : ℕ) (v : Option X) → AtEachPlace P xs → ForSome v P → (k : ℕ) → ForSome (slice_index_or (slice_set xs n v) k None) P
AtEachPlace-set P [] n v all new k = all k
AtEachPlace-set P (y ∷ ys) zero v all new zero = new
AtEachPlace-set P (y ∷ ys) zero v all new (suc k) = all (suc k)
AtEachPlace-set P (y ∷ ys) (suc n) v all new zero = all zero
AtEachPlace-set P (y ∷ ys) (suc n) v all new (suc k) = AtEachPlace-set P ys n v (λ j. all (suc j)) new k

-- two views that agree at each place
pub map-agree : {X Y : Type 0} (f g : X → Y) (xs : List (Option X)) → AtEachPlace (λ x. f x ≡ g x) xs → map (option_map f) xs ≡ map (option_map g) xs
map-agree f g [] same = refl
map-agree f g (None ∷ xs) same = ap (λ ys. None ∷ ys) (map-agree f g xs (λ k. same (suc k)))
map-agree f g (Some x ∷ xs) same = cc (same zero x refl, map-agree f g xs (λ k. same (suc k)))

-- what is read at a place that has something
pub at_place-read : {X : Type 0} (xs : List (Option X)) (n : ℕ) (o : Option X) (x : X) → o ≡ slice_index_or xs n o → o ≡ Some x → IsSome (slice_index_or xs n None) → slice_index_or xs n None ≡ Some x
at_place-read [] n o x read is there = absurd (cc there)
at_place-read (y ∷ ys) zero o x read is there = sym read ∙ is
at_place-read (y ∷ ys) (suc n) o x read is there = at_place-read ys n o x read is there

pub within_places : {X : Type 0} (xs : List (Option X)) (n : ℕ) (x : X) → slice_index_or xs n None ≡ Some x → n < length xs
within_places xs n x there =
    elim (cases_lt n (length xs)) [
      | inl within ↦ within
      | inr past ↦ absurd (cc (there, get_or_past xs n None past))
    ]

-- a count after one place is set
pub count_set : {X : Type 0} (p : X → Bool) (xs : List X) (n : ℕ) (v d : X) → n < length xs → count_by p (slice_set xs n v) + one_if (p (slice_index_or xs n d)) ≡ count_by p xs + one_if (p v)
count_set p xs n v d within = sum_by-set (λ x. one_if (p x)) xs n v d within

-- ---- tests of what is seen

-- the first place that passes, if the tests agree at each
pub position-seen : {X Y : Type 0} (p : Option Y → Bool) (q : Option X → Bool) (f : X → Y) (xs : List (Option X)) → p None ≡ q None → AtEachPlace (λ x. p (Some (f x)) ≡ q (Some x)) xs → position p (map (option_map f) xs) ≡ position q xs
position-seen {X} p q f xs none same = rw (first xs same, length-map xs (option_map f)) refl where
  first : (xs : List (Option X)) → AtEachPlace (λ x. p (Some (f x)) ≡ q (Some x)) xs → position_or_len p (map (option_map f) xs) ≡ position_or_len q xs
  first [] same = refl
  first (None ∷ xs) same = rw (none, first xs (λ k. same (suc k))) refl
  first (Some x ∷ xs) same = rw (same zero x refl, first xs (λ k. same (suc k))) refl

found_at : (n all : ℕ) → is_some (cond (nat_lt n all) (Some n) None) ≡ nat_lt n all
found_at n all = by (nat_lt n all) where
  by : (b : Bool) → is_some (cond b (Some n) None) ≡ b
  by true = refl
  by false = refl

-- whether one passes is whether there is a first
pub any_is_found : {X : Type 0} (q : X → Bool) (xs : List X) → list_any q xs ≡ is_some (position q xs)
any_is_found {X} q xs = rw (found_at (position_or_len q xs) (length xs)) (by xs) where
  by : (xs : List X) → list_any q xs ≡ nat_lt (position_or_len q xs) (length xs)
  by [] = refl
  by (x ∷ xs) = rw (by xs) (step (q x) (position_or_len q xs) (length xs)) where
    step : (b : Bool) (n all : ℕ) → (b || nat_lt n all) ≡ nat_lt (cond (not b) (1 + n) 0) (suc all)
    step true n all = grind (arith, nat_tests)
    step false n all = grind (arith, nat_tests)

pub none_passes : {X : Type 0} (xs : List (Option X)) (test : Option X → Bool) → test None ≡ false → position test xs ≡ None → AtEachPlace (λ x. test (Some x) ≡ false) xs
none_passes xs test none free n x at = rw at at (position-None test xs n None free none)

-- ---- each place changed

pub map-through : {X Y : Type 0} (f : X → Y) (g : X → X) (h : X → Y) (xs : List (Option X)) → AtEachPlace (λ x. f (g x) ≡ h x) xs → map (option_map f) (map (option_map g) xs) ≡ map (option_map h) xs
map-through f g h [] same = refl
map-through f g h (None ∷ xs) same = ap (λ ys. None ∷ ys) (map-through f g h xs (λ k. same (suc k)))
map-through f g h (Some x ∷ xs) same = cc (same zero x refl, map-through f g h xs (λ k. same (suc k)))

pub AtEachPlace-map : {X Y : Type 0} (P : Y → Type 0) (f : X → Y) (xs : List (Option X)) → AtEachPlace (λ x. P (f x)) xs → AtEachPlace P (map (option_map f) xs)
AtEachPlace-map P f [] all n y at = absurd (cc at)
AtEachPlace-map P f (None ∷ xs) all zero y at = absurd (cc at)
AtEachPlace-map P f (Some x ∷ xs) all zero y at = subst P (same_Some (f x) y at) (all zero x refl)
AtEachPlace-map P f (x ∷ xs) all (suc n) y at = AtEachPlace-map P f xs (λ k. all (suc k)) n y at
