-- The least free slot, and the blocks, if one slot is counted as free.
use Rattle.std.proofs.Common.{◌≡◌, ℕ, zero, suc, ◌+◌, ◌<◌, ◌≤◌, List, [], ◌∷◌, ◌++◌, length, take, drop, slice_set, nat_lt, cond, Option, Some, None, is_none, refl, sym, ◌∙◌, ap, arith}
use Rattle.std.specs.List.{position_or_len, filter_map}
use Rattle.std.specs.Option.{option_map}
use Rattle.std.proofs.lemmas.Bool.Decides.{nat_tests}
use Rattle.std.proofs.lemmas.List.{length-take, length-set}
use Rattle.tbl_kinds.specs.Free.{least_free}

first_set : {X : Type 0} (xs : List (Option X)) (n : ℕ) → n < length xs → position_or_len is_none (slice_set xs n None) ≡ position_or_len is_none (take n xs)
first_set [] n lt = absurd (omega (arith, lt))
first_set (x ∷ xs) zero lt = refl
first_set (None ∷ xs) (suc n) lt = refl
first_set (Some x ∷ xs) (suc n) lt = ap (λ k. 1 + k) (first_set xs n (omega (arith, lt)))

first_within : {X : Type 0} (xs : List (Option X)) → position_or_len is_none xs ≤ length xs
first_within [] = omega arith
first_within (None ∷ xs) = omega arith
first_within (Some x ∷ xs) = omega (arith, first_within xs)

some_parts : (k all n : ℕ) → cond (nat_lt k all) (Some k) None ≡ Some n → (k ≡ n) × (k < all)
some_parts k all n is = grind (arith, nat_tests)

past_none : (k all : ℕ) → cond (nat_lt k all) (Some k) None ≡ None → all ≤ k
past_none k all none = grind (arith, nat_tests)

some_at : (k all n : ℕ) → k ≡ n → n < all → cond (nat_lt k all) (Some k) None ≡ Some n
some_at k all n is lt = grind (arith, nat_tests)

module _ {X : Type 0} (xs : List (Option X)) (n : ℕ) (within : n < length xs) where
  front_length : length (take n xs) ≡ n
  front_length = simp length-take (omega (arith, within))

  pub free_before : (i : ℕ) → Some i ≡ least_free (take n xs) → Some i ≡ least_free (slice_set xs n None)
  free_before i is =
      let parts = some_parts (position_or_len is_none (take n xs)) (length (take n xs)) i (sym is) in
      sym (some_at (position_or_len is_none (slice_set xs n None)) (length (slice_set xs n None)) i (first_set xs n within ∙ parts.0)
      (omega (arith, within, parts.0, parts.1, front_length, length-set xs n None)))

  pub free_at : None ≡ least_free (take n xs) → Some n ≡ least_free (slice_set xs n None)
  free_at none =
      let past = past_none (position_or_len is_none (take n xs)) (length (take n xs)) (sym none) in
      sym (some_at (position_or_len is_none (slice_set xs n None)) (length (slice_set xs n None)) n
      (first_set xs n within ∙ omega (arith, past, front_length, first_within (take n xs)))
      (omega (arith, within, length-set xs n None)))

-- the rest of the places, without one
without_place : {X Y : Type 0} (f : X → Y) (xs : List (Option X)) (n : ℕ) → n < length xs
    → filter_map (option_map f) (take n xs) ++ filter_map (option_map f) (drop (suc n) xs) ≡ filter_map (option_map f) (slice_set xs n None)
without_place f [] n lt = absurd (omega (arith, lt))
without_place f (x ∷ xs) zero lt = refl
without_place f (None ∷ xs) (suc n) lt = without_place f xs n (omega (arith, lt))
without_place {Y = Y} f (Some x ∷ xs) (suc n) lt = ap (λ (l : List Y). f x ∷ l) (without_place f xs n (omega (arith, lt)))

pub taken_without : {X Y : Type 0} (f : X → Y) (xs : List (Option X)) (n : ℕ) → n < length xs
    → filter_map (option_map f) (take n xs) ++ filter_map (option_map f) (drop (n + 1) xs) ≡ filter_map (option_map f) (slice_set xs n None)
taken_without f xs n lt =
    let next : n + 1 ≡ suc n = omega arith in
    ap (λ k. filter_map (option_map f) (take n xs) ++ filter_map (option_map f) (drop k xs)) next ∙ without_place f xs n lt

-- no more are taken than there are places
pub taken_fit : {X Y : Type 0} (f : X → Y) (xs : List (Option X)) → length (filter_map (option_map f) xs) ≤ length xs
taken_fit f [] = omega arith
taken_fit f (None ∷ xs) = omega (arith, taken_fit f xs)
taken_fit f (Some x ∷ xs) = omega (arith, taken_fit f xs)
