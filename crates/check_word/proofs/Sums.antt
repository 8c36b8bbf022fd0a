-- Two sums by exclusive-or are the same if each of their numbers stands in both an odd number of times, or an even one.
use Rattle.std.proofs.Common.{◌≡◌, ℕ, zero, suc, ◌/◌, ◌%◌, ◌^◌, ◌<◌, ◌==◌, cond, List, [], ◌∷◌, get_or, bit_xor, ap, sym, ◌∙◌, arith, refl}
use lib.Bits.{xor_shr, xor_mod, xor_zero_r, xor_self}
use native.Mathlib.Nat.{pow-suc}
use Rattle.check_word.proofs.Steps.{swap}

-- numbers by their places in a list
pub data Sum : Type 0 where
  at : ℕ → Sum
  both : Sum → Sum → Sum

unfoldable pub value : List ℕ → Sum → ℕ
value numbers (at place) = get_or numbers place 0
value numbers (both s t) = bit_xor (value numbers s) (value numbers t)

-- a bit for each place that stands there an odd number of times
unfoldable pub places : Sum → ℕ
places (at place) = 2 ^ place
places (both s t) = bit_xor (places s) (places t)

one : ℕ → ℕ → ℕ
one number bit = cond (bit == 1) number 0

chosen : List ℕ → ℕ → ℕ
chosen [] bits = 0
chosen (number ∷ numbers) bits = bit_xor (one number (bits % 2)) (chosen numbers (bits / 2))

one-xor : (number p q : ℕ) → p < 2 → q < 2 → one number (bit_xor p q) ≡ bit_xor (one number p) (one number q)
unfolding one
one-xor number zero q _ _ = refl
one-xor number (suc zero) zero _ _ = sym (xor_zero_r number)
one-xor number (suc zero) (suc zero) _ _ = sym (xor_self number)
one-xor number (suc zero) (suc (suc q)) _ h = absurd (omega arith)
one-xor number (suc (suc p)) q h _ = absurd (omega arith)

chosen-xor : (numbers : List ℕ) (p q : ℕ) → chosen numbers (bit_xor p q) ≡ bit_xor (chosen numbers p) (chosen numbers q)
unfolding chosen
chosen-xor [] p q = refl
chosen-xor (number ∷ numbers) p q =
    (λ i. bit_xor (one number (xor_mod p q 1 i)) (chosen numbers (xor_shr p q 1 i)))
    ∙ (λ i. bit_xor (one-xor number (p % 2) (q % 2) (omega arith) (omega arith) i) (chosen-xor numbers (p / 2) (q / 2) i))
    ∙ swap (one number (p % 2)) (one number (q % 2)) (chosen numbers (p / 2)) (chosen numbers (q / 2))

chosen_none : (numbers : List ℕ) → chosen numbers 0 ≡ 0
unfolding chosen one
chosen_none [] = refl
chosen_none (number ∷ numbers) = chosen_none numbers

chosen_at : (numbers : List ℕ) (place : ℕ) → chosen numbers (2 ^ place) ≡ get_or numbers place 0
unfolding chosen one
chosen_at [] place = refl
chosen_at (number ∷ numbers) zero = ap (bit_xor number) (chosen_none numbers) ∙ xor_zero_r number
chosen_at (number ∷ numbers) (suc place) =
    let even : 2 ^ suc place % 2 ≡ 0 = omega (arith, pow-suc 2 place) in
    let half : 2 ^ suc place / 2 ≡ 2 ^ place = omega (arith, pow-suc 2 place) in
    (λ i. bit_xor (cond (even i == 1) number 0) (chosen numbers (half i)))
    ∙ chosen_at numbers place

value_is : (numbers : List ℕ) (s : Sum) → value numbers s ≡ chosen numbers (places s)
unfolding value places
value_is numbers (at place) = sym (chosen_at numbers place)
value_is numbers (both s t) =
    (λ i. bit_xor (value_is numbers s i) (value_is numbers t i))
    ∙ sym (chosen-xor numbers (places s) (places t))

pub same_sums : (numbers : List ℕ) (s t : Sum) → places s ≡ places t → value numbers s ≡ value numbers t
same_sums numbers s t e = value_is numbers s ∙ ap (chosen numbers) e ∙ sym (value_is numbers t)
