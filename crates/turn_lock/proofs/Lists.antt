-- Elements of lists by their places.
use Rattle.std.proofs.Common.{◌≡◌, ◌⊎◌, ℕ, zero, suc, ◌+◌, ◌<◌, true, false, true≢false, List, [], ◌∷◌, ◌++◌, length, take, drop, Option, Some, None, refl, sym, ap, ◌∙◌, subst, inl, inr, ⊎_elim, arith}
use Rattle.std.specs.Prelude.{is_some, replicate}
use mathlib.Core.Option.{some, some-injective, some-ne-none}
use lib.ListN.{get_elem?}

pub inj_Some : {A : Type 0} (a b : A) → Some a ≡ Some b → a ≡ b
inj_Some {A} a b e = ap pick e
  where
    pick : Option A → A
    pick None = a
    pick (Some x) = x

pub off : {A : Type 0} (o : Option A) (a : A) → o ≡ None → o ≡ Some a → ⊥
off {A} o a e s = let f : true ≡ false = ap (λ (z : Option A). is_some z) (sym s ∙ e) in true≢false f

module _ {A : Type 0} where
  pub there : (l : List A) (i : ℕ) (a : A) → get_elem? l i ≡ some a → i < length l
  there [] i a e = absurd (some-ne-none a (sym e))
  there (x ∷ xs) zero a e = omega arith
  there (x ∷ xs) (suc i) a e = let r = there xs i a e in omega (arith, r)

  pub snoc_at : (l : List A) (a b : A) (j : ℕ) → get_elem? (l ++ a ∷ []) j ≡ some b → (get_elem? l j ≡ some b) ⊎ ((j ≡ length l) × (a ≡ b))
  snoc_at [] a b zero e = inr (refl, some-injective a b e)
  snoc_at [] a b (suc j) e = absurd (some-ne-none b (sym e))
  snoc_at (x ∷ xs) a b zero e = inl e
  snoc_at (x ∷ xs) a b (suc j) e = ⊎_elim (λ h. inl h) (λ (h : (j ≡ length xs) × (a ≡ b)). inr (ap suc h.0, h.1)) (snoc_at xs a b j e)

  pub in_take : (n : ℕ) (l : List A) (i : ℕ) (a : A) → get_elem? (take n l) i ≡ some a → get_elem? l i ≡ some a
  in_take zero l i a e = absurd (some-ne-none a (sym e))
  in_take (suc n) [] i a e = e
  in_take (suc n) (x ∷ xs) zero a e = e
  in_take (suc n) (x ∷ xs) (suc i) a e = in_take n xs i a e

  pub in_drop : (n : ℕ) (l : List A) (i : ℕ) (a : A) → get_elem? (drop n l) i ≡ some a → get_elem? l (n + i) ≡ some a
  in_drop zero l i a e = let p : i ≡ zero + i = omega arith in subst (λ (j : ℕ). get_elem? l j ≡ some a) p e
  in_drop (suc n) [] i a e = absurd (some-ne-none a (sym e))
  in_drop (suc n) (x ∷ xs) i a e = let p : suc (n + i) ≡ suc n + i = omega arith in subst (λ (j : ℕ). get_elem? (x ∷ xs) j ≡ some a) p (in_drop n xs i a e)

  pub in_append : (l m : List A) (i : ℕ) (a : A) → get_elem? (l ++ m) i ≡ some a → (get_elem? l i ≡ some a) ⊎ ((j : ℕ) × (i ≡ length l + j) × (get_elem? m j ≡ some a))
  in_append [] m i a e = let p : i ≡ zero + i = omega arith in inr (i, p, e)
  in_append (x ∷ xs) m zero a e = inl e
  in_append (x ∷ xs) m (suc i) a e = ⊎_elim (λ h. inl h)
      (λ (h : (j : ℕ) × (i ≡ length xs + j) × (get_elem? m j ≡ some a)). let p : suc i ≡ suc (length xs) + h.0 = omega (arith, h.1) in inr (h.0, p, h.2))
      (in_append xs m i a e)

  pub in_replicate : (n : ℕ) (b : A) (i : ℕ) (a : A) → get_elem? (replicate n b) i ≡ some a → b ≡ a
  in_replicate zero b i a e = absurd (some-ne-none a (sym e))
  in_replicate (suc n) b zero a e = some-injective b a e
  in_replicate (suc n) b (suc i) a e = in_replicate n b i a e

  pub in_one : (b : A) (i : ℕ) (a : A) → get_elem? (b ∷ []) i ≡ some a → b ≡ a
  in_one b zero a e = some-injective b a e
  in_one b (suc i) a e = absurd (some-ne-none a (sym e))

pub came_out : {A : Type 0} (l more : List (ℕ × A)) (value out : A) → l ≡ (0, value) ∷ [] → l ≡ (0, out) ∷ more → value ≡ out
came_out {A} l more value out had is = ap (second_or value) (sym had ∙ is)
  where
    second_or : A → List (ℕ × A) → A
    second_or d [] = d
    second_or d (x ∷ xs) = x.1
