-- A word has 16 bits, and is what becomes of it after 32, 240 and 256 zero bytes, added up.
use Rattle.std.proofs.Common.{◌≡◌, ℕ, zero, suc, ◌+◌, ◌*◌, ◌/◌, ◌%◌, ◌^◌, ◌<◌, ◌≤◌, ◌==◌, Bool, true, false, cond, List, [], ◌∷◌, map, get_or, bit_xor, ap, subst, sym, ◌∙◌, arith, refl, zero-add, Fits, w8}
use Rattle.std.specs.List.{range_with_len, fold}
use Rattle.std.specs.Simd.Lanes.{Each1}
use Rattle.std.proofs.lemmas.List.FromFn.{get_or-map-range_with_len}
use lib.Bits.{xor_lt, xor_shifted}
use native.Mathlib.Nat.{pow-suc, div-add-mod', mod-lt}
use Rattle.std.proofs.lemmas.Nat.{pow_pos}
use Rattle.tbl_kinds.specs.Check.{after_bit, after_bits, after_byte}
use Rattle.check_word.specs.Later.{later}
use Rattle.check_word.proofs.Steps.{swap, part, after_bit-is, later-xor}

-- ---- a word has 16 bits

part_fits : (bit : Bool) → cond bit 0xA001 0 < 2 ^ 16
part_fits true = omega arith
part_fits false = omega arith

after_bit_fits : (word : ℕ) → word < 2 ^ 16 → after_bit word < 2 ^ 16
unfolding part
after_bit_fits word h =
    let half : word / 2 < 2 ^ 16 = omega arith in
    subst (λ (n : ℕ). n < 2 ^ 16) (sym (after_bit-is word)) (xor_lt 16 (word / 2) (part (word % 2)) half (part_fits (word % 2 == 1)))

after_bits_fits : (n word : ℕ) → word < 2 ^ 16 → after_bits n word < 2 ^ 16
after_bits_fits zero word h = h
after_bits_fits (suc n) word h = after_bits_fits n (after_bit word) (after_bit_fits word h)

pub after_bytes_fits : (word : ℕ) (bytes : List ℕ) → word < 2 ^ 16 → Each1 (Fits w8) bytes → fold after_byte word bytes < 2 ^ 16
unfolding after_byte
after_bytes_fits word [] h _ = h
after_bytes_fits word (byte ∷ bytes) h f =
    let small : byte < 2 ^ 16 = omega (arith, f.0.fits) in
    after_bytes_fits (after_byte word byte) bytes (after_bits_fits 8 (bit_xor word byte) (xor_lt 16 word byte h small)) f.1

-- ---- the polynomial's power of 128: a word is what becomes of it after 32, 240 and 256 zero bytes, added up

again : ℕ → ℕ
again word = bit_xor (bit_xor (later 256 word) (later 240 word)) (later 32 word)

again-xor : (a b : ℕ) → again (bit_xor a b) ≡ bit_xor (again a) (again b)
unfolding again
again-xor a b =
    (λ i. bit_xor (bit_xor (later-xor 256 a b i) (later-xor 240 a b i)) (later-xor 32 a b i))
    ∙ ap (λ x. bit_xor x (bit_xor (later 32 a) (later 32 b))) (swap (later 256 a) (later 256 b) (later 240 a) (later 240 b))
    ∙ swap (bit_xor (later 256 a) (later 240 a)) (bit_xor (later 256 b) (later 240 b)) (later 32 a) (later 32 b)

bit_again : (bit : ℕ) → ℕ
bit_again bit = again (2 ^ bit)

each_bit : map bit_again (range_with_len 0 16) ≡ map (λ bit. 2 ^ bit) (range_with_len 0 16)
unfolding bit_again again later after_byte
each_bit = refl

bit_is : (bit : ℕ) → bit < 16 → again (2 ^ bit) ≡ 2 ^ bit
unfolding bit_again
bit_is bit h =
    sym (get_or-map-range_with_len bit_again 0 16 bit bit 0 h (zero-add bit))
    ∙ ap (λ bits. get_or bits bit 0) each_bit
    ∙ get_or-map-range_with_len (λ (b : ℕ). 2 ^ b) 0 16 bit bit 0 h (zero-add bit)

by_top : (bit top low : ℕ) → bit < 16 → low < 2 ^ bit → top * 2 ^ bit + low < 2 ^ bit * 2 → again low ≡ low → again (top * 2 ^ bit + low) ≡ top * 2 ^ bit + low
by_top bit zero low b h all e = let same : low ≡ zero * 2 ^ bit + low = omega arith in subst (λ (n : ℕ). again n ≡ n) same e
by_top bit (suc zero) low b h all e =
    let alone : suc zero * 2 ^ bit ≡ 2 ^ bit = omega arith in
    let sum = xor_shifted 1 bit low h in
    ap again (sym sum)
    ∙ again-xor (1 * 2 ^ bit) low
    ∙ (λ i. bit_xor ((ap again alone ∙ bit_is bit b ∙ sym alone) i) (e i))
    ∙ sum
by_top bit (suc (suc top)) low b h all e = absurd (omega arith)

by_bits : (bits word : ℕ) → bits ≤ 16 → word < 2 ^ bits → again word ≡ word
unfolding again later after_byte
by_bits zero word b h = let none : 0 ≡ word = omega arith in subst (λ (n : ℕ). again n ≡ n) none refl
by_bits (suc bits) word b h =
    let low = mod-lt word (pow_pos bits) in
    let all = div-add-mod' word (2 ^ bits) in
    subst (λ (n : ℕ). again n ≡ n) all
    (by_top bits (word / 2 ^ bits) (word % 2 ^ bits) (omega arith) low (omega (arith, all, h, pow-suc 2 bits)) (by_bits bits (word % 2 ^ bits) (omega arith) low))

pub word_again : (word : ℕ) → word < 2 ^ 16 → word ≡ bit_xor (bit_xor (later 256 word) (later 240 word)) (later 32 word)
unfolding again
word_again word h = sym (by_bits 16 word (omega arith) h)
