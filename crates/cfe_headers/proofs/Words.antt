-- The exclusive or of bytes, taken by words of eight.
use Rattle.std.proofs.Common.{◌≡◌, ℕ, zero, suc, ◌+◌, ◌*◌, ◌/◌, ◌%◌, ◌≤◌, ◌^◌, List, [], ◌∷◌, map, take, drop, length, bit_xor, ap, sym, ◌∙◌, arith, refl}
use Rattle.std.specs.Int.{w64, to_le_bytes, from_le_bytes}
use Rattle.std.specs.List.{fold}
use Rattle.std.specs.Simd.{first_chunks}
use Rattle.std.proofs.lemmas.List.{take-append-drop, drop-drop, get_or-drop, length-take-le, length-drop}
use Rattle.std.proofs.lemmas.List.Sums.{fold-append}
use Rattle.std.proofs.lemmas.Nat.{le_bytes_8}
use lib.Bits.{xor_comm, xor_assoc, xor_shr, xor_mod, xor_zero_r}
use Rattle.tbl_kinds.specs.Fields.{AreBytes}
use Rattle.cfe_headers.proofs.Pieces.{piece_fits}

-- ---- the bytes of a word, folded by halves

-- the lowest byte, and one that moves down to it
low : (a b : ℕ) → bit_xor a b % 256 ≡ bit_xor (a % 256) (b % 256)
low a b = xor_mod a b 8

byte_at : (k a b : ℕ) → bit_xor a b / 2 ^ k % 256 ≡ bit_xor (a / 2 ^ k % 256) (b / 2 ^ k % 256)
byte_at k a b = ap (λ n. n % 256) (xor_shr a b k) ∙ low (a / 2 ^ k) (b / 2 ^ k)

two : (x a b : ℕ) → bit_xor x (bit_xor a b) ≡ bit_xor (bit_xor x a) b
two x a b = sym (xor_assoc x a b)

four : (x a b c d : ℕ) → bit_xor x (bit_xor (bit_xor a b) (bit_xor c d)) ≡ bit_xor (bit_xor (bit_xor (bit_xor x a) b) c) d
four x a b c d = two x (bit_xor a b) (bit_xor c d) ∙ ap (λ y. bit_xor y (bit_xor c d)) (two x a b) ∙ two (bit_xor (bit_xor x a) b) c d

-- the four lowest bytes
by_twos : (n : ℕ) → bit_xor (bit_xor n (n / 256)) (bit_xor n (n / 256) / 65536) % 256
    ≡ bit_xor (bit_xor (n % 256) (n / 256 % 256)) (bit_xor (n / 65536 % 256) (n / 16777216 % 256))
by_twos n =
    let moved : n / 256 / 65536 ≡ n / 16777216 = omega arith in
    low (bit_xor n (n / 256)) (bit_xor n (n / 256) / 65536)
    ∙ (λ i. bit_xor (low n (n / 256) i) ((byte_at 16 n (n / 256) ∙ ap (λ m. bit_xor (n / 65536 % 256) (m % 256)) moved) i))

-- all eight
halved : (n : ℕ) → bit_xor (bit_xor n (n / 256)) (bit_xor n (n / 256) / 65536) / 4294967296
    ≡ bit_xor (bit_xor (n / 4294967296) (n / 4294967296 / 256)) (bit_xor (n / 4294967296) (n / 4294967296 / 256) / 65536)
halved n =
    let first : n / 256 / 4294967296 ≡ n / 4294967296 / 256 = omega arith in
    let twos : bit_xor n (n / 256) / 4294967296 ≡ bit_xor (n / 4294967296) (n / 4294967296 / 256) =
    xor_shr n (n / 256) 32 ∙ ap (bit_xor (n / 4294967296)) first in
    let second : bit_xor n (n / 256) / 65536 / 4294967296 ≡ bit_xor n (n / 256) / 4294967296 / 65536 = omega arith in
    xor_shr (bit_xor n (n / 256)) (bit_xor n (n / 256) / 65536) 32
    ∙ (λ i. bit_xor (twos i) ((second ∙ ap (λ m. m / 65536) twos) i))

pub by_halves : (n : ℕ) →
    bit_xor (bit_xor (bit_xor n (n / 256)) (bit_xor n (n / 256) / 65536)) (bit_xor (bit_xor n (n / 256)) (bit_xor n (n / 256) / 65536) / 4294967296) % 256
    ≡ fold bit_xor 0 (to_le_bytes w64 n)
by_halves n =
    let high = n / 4294967296 in
    let five : high / 256 ≡ n / 1099511627776 = omega arith in
    let six : high / 65536 ≡ n / 281474976710656 = omega arith in
    let seven : high / 16777216 ≡ n / 72057594037927936 = omega arith in
    let fours = bit_xor (bit_xor n (n / 256)) (bit_xor n (n / 256) / 65536) in
    low fours (fours / 4294967296)
    ∙ ap (λ m. bit_xor (fours % 256) (m % 256)) (halved n)
    ∙ (λ i. bit_xor (by_twos n i) (by_twos high i))
    ∙ (λ i. bit_xor
    (bit_xor (bit_xor (n % 256) (n / 256 % 256)) (bit_xor (n / 65536 % 256) (n / 16777216 % 256)))
    (bit_xor (bit_xor (high % 256) (five i % 256)) (bit_xor (six i % 256) (seven i % 256))))
    ∙ four
    (bit_xor (bit_xor (n % 256) (n / 256 % 256)) (bit_xor (n / 65536 % 256) (n / 16777216 % 256)))
    (high % 256) (n / 1099511627776 % 256) (n / 281474976710656 % 256) (n / 72057594037927936 % 256)
    ∙ ap (λ x. bit_xor (bit_xor (bit_xor (bit_xor x (high % 256)) (n / 1099511627776 % 256)) (n / 281474976710656 % 256)) (n / 72057594037927936 % 256))
    (two (bit_xor (n % 256) (n / 256 % 256)) (n / 65536 % 256) (n / 16777216 % 256))

-- ---- words joined

swap : (a b c d : ℕ) → bit_xor (bit_xor a b) (bit_xor c d) ≡ bit_xor (bit_xor a c) (bit_xor b d)
swap a b c d =
    xor_assoc a b (bit_xor c d)
    ∙ ap (bit_xor a) (sym (xor_assoc b c d) ∙ ap (λ x. bit_xor x d) (xor_comm b c) ∙ xor_assoc c b d)
    ∙ sym (xor_assoc a c (bit_xor b d))

-- two lists of bytes, joined place by place
joined : (x y : ℕ) (pairs : List (ℕ × ℕ)) →
    fold bit_xor (bit_xor x y) (map (λ p. bit_xor p.0 p.1) pairs) ≡ bit_xor (fold bit_xor x (map (λ p. p.0) pairs)) (fold bit_xor y (map (λ p. p.1) pairs))
joined x y [] = refl
joined x y (p ∷ pairs) =
    ap (λ n. fold bit_xor n (map (λ p. bit_xor p.0 p.1) pairs)) (swap x y p.0 p.1) ∙ joined (bit_xor x p.0) (bit_xor y p.1) pairs

words_joined : (a b : ℕ) → fold bit_xor 0 (to_le_bytes w64 (bit_xor a b)) ≡ bit_xor (fold bit_xor 0 (to_le_bytes w64 a)) (fold bit_xor 0 (to_le_bytes w64 b))
words_joined a b =
    (λ i. fold bit_xor 0 (low a b i ∷ byte_at 8 a b i ∷ byte_at 16 a b i ∷ byte_at 24 a b i ∷ byte_at 32 a b i ∷ byte_at 40 a b i ∷ byte_at 48 a b i ∷ byte_at 56 a b i ∷ []))
    ∙ joined 0 0 (
    (a % 256, b % 256) ∷ (a / 256 % 256, b / 256 % 256) ∷ (a / 65536 % 256, b / 65536 % 256) ∷ (a / 16777216 % 256, b / 16777216 % 256)
    ∷ (a / 4294967296 % 256, b / 4294967296 % 256) ∷ (a / 1099511627776 % 256, b / 1099511627776 % 256)
    ∷ (a / 281474976710656 % 256, b / 281474976710656 % 256) ∷ (a / 72057594037927936 % 256, b / 72057594037927936 % 256) ∷ [])

-- a sum that goes in at the front comes out
apart : (x y : ℕ) (bytes : List ℕ) → fold bit_xor (bit_xor x y) bytes ≡ bit_xor x (fold bit_xor y bytes)
apart x y [] = refl
apart x y (byte ∷ bytes) = ap (λ n. fold bit_xor n bytes) (xor_assoc x y byte) ∙ apart x (bit_xor y byte) bytes

-- ---- what the code does

-- the bytes of a word, joined
abbrev pub of_word : ℕ → ℕ
of_word n = fold bit_xor 0 (to_le_bytes w64 n)

abbrev pub with_eight : ℕ → List ℕ → ℕ
with_eight word eight = bit_xor word (from_le_bytes w64 eight)

joined_to : (word : ℕ) (eight : List ℕ) → length eight ≡ 8 → AreBytes eight → of_word (with_eight word eight) ≡ fold bit_xor (of_word word) eight
joined_to word eight len fits =
    words_joined word (from_le_bytes w64 eight)
    ∙ ap (λ (bytes : List ℕ). bit_xor (of_word word) (fold bit_xor 0 bytes)) (le_bytes_8 eight (from_le_bytes w64 eight) len fits refl)
    ∙ sym (apart (of_word word) 0 eight)
    ∙ ap (λ n. fold bit_xor n eight) (xor_zero_r (of_word word))

by_eights : (k word : ℕ) (bytes : List ℕ) → k * 8 ≤ length bytes → AreBytes bytes →
    fold bit_xor (of_word (fold with_eight word (first_chunks 8 k bytes))) (drop (k * 8) bytes) ≡ fold bit_xor (of_word word) bytes
by_eights zero word bytes _ _ = refl
by_eights (suc k) word bytes le fits =
    let rest = drop 8 bytes in
    let from = with_eight word (take 8 bytes) in
    let further : suc k * 8 ≡ 8 + k * 8 = omega arith in
    let left : k * 8 ≤ length rest = omega (arith, length-drop 8 bytes) in
    let rest_fits : AreBytes rest = λ i. rw (get_or-drop 8 bytes i 0) (fits (8 + i)) in
    ap (λ (n : ℕ). fold bit_xor (of_word (fold with_eight from (first_chunks 8 k rest))) (drop n bytes)) further
    ∙ ap (fold bit_xor (of_word (fold with_eight from (first_chunks 8 k rest)))) (sym (drop-drop (k * 8) 8 bytes))
    ∙ by_eights k from rest left rest_fits
    ∙ ap (λ (n : ℕ). fold bit_xor n rest) (joined_to word (take 8 bytes) (length-take-le 8 bytes (omega arith)) (piece_fits 0 8 bytes fits))
    ∙ sym (fold-append bit_xor (of_word word) (take 8 bytes) rest)
    ∙ ap (fold bit_xor (of_word word)) (take-append-drop 8 bytes)

-- a sum before all
pub whole : (sum : ℕ) (bytes : List ℕ) → AreBytes bytes →
    fold bit_xor (bit_xor sum (of_word (fold with_eight 0 (first_chunks 8 (length bytes / 8) bytes)))) (drop (length bytes / 8 * 8) bytes) ≡ fold bit_xor sum bytes
whole sum bytes fits =
    let k = length bytes / 8 in
    apart sum (of_word (fold with_eight 0 (first_chunks 8 k bytes))) (drop (k * 8) bytes)
    ∙ ap (bit_xor sum) (by_eights k 0 bytes (omega arith) fits)
    ∙ sym (apart sum 0 bytes)
    ∙ ap (λ n. fold bit_xor n bytes) (xor_zero_r sum)
