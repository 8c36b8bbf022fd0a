-- The numbers that pass a test.
use Rattle.std.proofs.Common.{◌≡◌, inl, inr, ℕ, zero, suc, ◌+◌, ◌<◌, ◌≤◌, ◌==◌, ◌||◌, List, [], ◌∷◌, ◌++◌, length, Bool, true, false, cond, refl, sym, ◌∙◌, ap, subst, arith, length-append}
use Rattle.std.specs.List.{filter, range_with_len, list_any}
use Rattle.std.proofs.lemmas.Bool.{cases_eq, eq-eqb, ne_eqb}
use Rattle.std.proofs.lemmas.List.{map-id}
use Rattle.std.proofs.lemmas.List.Folds.{list_any-append}
use Rattle.std.proofs.lemmas.List.FromFn.{filter_of_map_range_with_len_more}
use Rattle.cds_store.specs.Boots.{found_to}

pub found_none : (test : ℕ → Bool) → found_to 0 test ≡ []
unfolding found_to
found_none test = refl

pub found_more : (test : ℕ → Bool) (n : ℕ) → found_to (n + 1) test ≡ found_to n test ++ cond (test n) (n ∷ []) []
unfolding found_to
found_more test n =
    ap (filter test) (sym (map-id (range_with_len 0 (n + 1))))
    ∙ filter_of_map_range_with_len_more test (λ (k : ℕ). k) 0 n n (omega arith)
    ∙ ap (λ (l : List ℕ). filter test l ++ cond (test n) (n ∷ []) []) (map-id (range_with_len 0 n))

next : (n : ℕ) → suc n ≡ n + 1
next n = omega arith

cond_short : (b : Bool) (n : ℕ) → length (cond b (n ∷ []) []) ≤ 1
cond_short true n = omega arith
cond_short false n = omega arith

pub found_short : (test : ℕ → Bool) (n : ℕ) → length (found_to n test) ≤ n
found_short test zero = rw (found_none test) (omega arith)
found_short test (suc n) = rw (next n, found_more test n) (omega (arith, length-append (found_to n test) (cond (test n) (n ∷ []) []), found_short test n, cond_short (test n) n))

any_cond : (b : Bool) (n s : ℕ) → (n == s) ≡ false → list_any (λ m. m == s) (cond b (n ∷ []) []) ≡ false
any_cond true n s other = rw other refl
any_cond false n s other = refl

any_own : (b : Bool) (s : ℕ) → list_any (λ m. m == s) (cond b (s ∷ []) []) ≡ b
any_own true s = rw (eq-eqb s s refl) refl
any_own false s = refl

or_false : (b : Bool) → (b || false) ≡ b
or_false true = refl
or_false false = refl

found_not : (test : ℕ → Bool) (n s : ℕ) → n ≤ s → list_any (λ m. m == s) (found_to n test) ≡ false
found_not test zero s le = ap (list_any (λ m. m == s)) (found_none test)
found_not test (suc n) s le =
    ap (list_any (λ m. m == s)) (ap (λ k. found_to k test) (next n) ∙ found_more test n)
    ∙ list_any-append (λ m. m == s) (found_to n test) (cond (test n) (n ∷ []) [])
    ∙ ap (λ b. b || list_any (λ m. m == s) (cond (test n) (n ∷ []) [])) (found_not test n s (omega (arith, le)))
    ∙ any_cond (test n) n s (ne_eqb n s (λ same. omega (arith, le, same)))

-- a number below is among them if it passes
pub found_has : (test : ℕ → Bool) (n s : ℕ) → s < n → list_any (λ m. m == s) (found_to n test) ≡ test s
found_has test zero s lt = absurd (omega (arith, lt))
found_has test (suc n) s lt =
    ap (list_any (λ m. m == s)) (ap (λ k. found_to k test) (next n) ∙ found_more test n)
    ∙ list_any-append (λ m. m == s) (found_to n test) (cond (test n) (n ∷ []) [])
    ∙ elim (cases_eq n s) [
      | inl here ↦
          ap (λ b. b || list_any (λ m. m == s) (cond (test n) (n ∷ []) [])) (found_not test n s (omega (arith, here)))
          ∙ subst (λ k. list_any (λ m. m == s) (cond (test k) (k ∷ []) []) ≡ test s) (sym here) (any_own (test s) s)
      | inr other ↦
          ap (λ b. list_any (λ m. m == s) (found_to n test) || b) (any_cond (test n) n s (ne_eqb n s other))
          ∙ or_false (list_any (λ m. m == s) (found_to n test))
          ∙ found_has test n s (omega (arith, lt, other))
    ]
