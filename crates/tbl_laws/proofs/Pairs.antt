-- Pending validations: what stays pending when one is requested, done or dropped.
use Rattle.std.proofs.Common.{◌≡◌, ◌≢◌, ℕ, suc, ◌≤◌, List, [], ◌∷◌, ◌++◌, length, Bool, true, false, not, ◌&&◌, ◌||◌, cond, refl, sym, ap, ◌∙◌, arith, inl, inr, ◌⊎◌}
use Rattle.std.specs.Prelude.{◌==◌, filter}
use Rattle.std.proofs.lemmas.Bool.{eqb-true, ne_eqb, and_parts}
use Rattle.std.proofs.lemmas.List.Folds.{list_any-append}
use Rattle.std.proofs.lemmas.Map.Views.{any-filter_same}
use Rattle.tbl_model.specs.Pending.{same_image, is_pair, is_pending, without_pair, of_other_rows}

same_is : (a b : Bool) → same_image a b ≡ true → a ≡ b
same_is true true is = refl
same_is false false is = refl
same_is true false is = absurd (cc is)
same_is false true is = absurd (cc is)

same_self : (a : Bool) → same_image a a ≡ true
same_self true = refl
same_self false = refl

other_image : (a b : Bool) → a ≢ b → same_image a b ≡ false
other_image true true other = absurd (other refl)
other_image true false other = refl
other_image false true other = refl
other_image false false other = absurd (other refl)

pub both_images : (a b : Bool) → (a ≡ b) ⊎ (a ≢ b)
both_images true true = inl refl
both_images true false = inr (λ is. cc is)
both_images false true = inr (λ is. cc is)
both_images false false = inl refl

-- a pair of another row or of the other image isn't this one
apart : (row k : ℕ) (active a : Bool) → (k ≡ row → a ≢ active) → ((row == k) && same_image a active) ≡ false
apart row k active a other = elim (both_images a active) [
  | inl same ↦ rw (ne_eqb row k (λ is. other (sym is) same)) refl
  | inr not_same ↦ rw (other_image a active not_same) (and_none (row == k))
] where
  and_none : (b : Bool) → (b && false) ≡ false
  and_none true = refl
  and_none false = refl

-- ---- one more

pub pending_more : (pairs : List (ℕ × Bool)) (row k : ℕ) (active a : Bool) → is_pending k a (pairs ++ (row, active) ∷ []) ≡ (is_pending k a pairs || ((row == k) && same_image a active))
pending_more pairs row k active a = list_any-append (is_pair k a) pairs ((row, active) ∷ []) ∙ ap (λ b. is_pending k a pairs || b) (or_false ((row == k) && same_image a active)) where
  or_false : (b : Bool) → (b || false) ≡ b
  or_false true = refl
  or_false false = refl

pub pending_more_other : (pairs : List (ℕ × Bool)) (row k : ℕ) (active a : Bool) → (k ≡ row → a ≢ active) → is_pending k a (pairs ++ (row, active) ∷ []) ≡ is_pending k a pairs
pending_more_other pairs row k active a other = pending_more pairs row k active a ∙ ap (λ b. is_pending k a pairs || b) (apart row k active a other) ∙ or_false (is_pending k a pairs) where
  or_false : (b : Bool) → (b || false) ≡ b
  or_false true = refl
  or_false false = refl

-- ---- one less

pub pending_less_other : (pairs : List (ℕ × Bool)) (row k : ℕ) (active a : Bool) → (k ≡ row → a ≢ active) → is_pending k a (without_pair row active pairs) ≡ is_pending k a pairs
pending_less_other pairs row k active a other = any-filter_same (is_pair k a) (λ pair. not (is_pair row active pair)) true (λ pair is.
    let parts = and_parts (pair.0 == k) (same_image a pair.1) is in
    let place : pair.0 ≡ k = eqb-true pair.0 k parts.0 in
    let image : a ≡ pair.1 = same_is a pair.1 parts.1 in
    ap not (kept pair place image)) pairs
  where
    kept : (pair : ℕ × Bool) → pair.0 ≡ k → a ≡ pair.1 → is_pair row active pair ≡ false
    kept pair place image = rw (place, ← image) (apart k row a active (λ is same. other (sym is) (sym same)))

pub pending_gone : (pairs : List (ℕ × Bool)) (row : ℕ) (active : Bool) → is_pending row active (without_pair row active pairs) ≡ false
pending_gone pairs row active = any-filter_same (is_pair row active) (λ pair. not (is_pair row active pair)) false (λ pair is. ap not is) pairs

one_fewer : (b : Bool) (pair : ℕ × Bool) (xs : List (ℕ × Bool)) (n : ℕ) → length xs ≤ n → length (cond b (pair ∷ xs) xs) ≤ suc n
one_fewer true pair xs n few = omega (arith, few)
one_fewer false pair xs n few = omega (arith, few)

pub fewer : (p : ℕ × Bool → Bool) (pairs : List (ℕ × Bool)) → length (filter p pairs) ≤ length pairs
fewer p [] = omega arith
fewer p (pair ∷ pairs) = one_fewer (p pair) pair (filter p pairs) (length pairs) (fewer p pairs)

-- ---- those of a row

pub row_gone : (pairs : List (ℕ × Bool)) (row : ℕ) (a : Bool) → is_pending row a (of_other_rows row pairs) ≡ false
row_gone pairs row a = any-filter_same (is_pair row a) (λ pair. not (pair.0 == row)) false (λ pair is. ap not (and_parts (pair.0 == row) (same_image a pair.1) is).0) pairs

pub row_stays : (pairs : List (ℕ × Bool)) (row k : ℕ) (a : Bool) → k ≢ row → is_pending k a (of_other_rows row pairs) ≡ is_pending k a pairs
row_stays pairs row k a other = any-filter_same (is_pair k a) (λ pair. not (pair.0 == row)) true (λ pair is.
    let place : pair.0 ≡ k = eqb-true pair.0 k (and_parts (pair.0 == k) (same_image a pair.1) is).0 in
    let elsewhere : (pair.0 == row) ≡ false = rw place (ne_eqb k row other) in
    ap not elsewhere) pairs
