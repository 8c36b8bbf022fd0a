-- Decimal and hexadecimal digits.
use Rattle.std.proofs.Common.{◌≡◌, ℕ, suc, ◌+◌, ◌/◌, ◌%◌, ◌<◌, ◌^◌, List, [], ◌∷◌, ◌++◌, true, refl, arith, ℤ, pos, negsuc}
use Rattle.std.specs.Prelude.{unsigned_abs}
use Rattle.std.specs.List.{AllByRecursion, flat_map}
use Rattle.std.specs.Fmt.{decimal, signed_decimal, digit_glyph}
use Rattle.std.proofs.lemmas.Fmt.{decimal_by_steps}
use Rattle.std.proofs.lemmas.Bool.Decides.{nat_tests}
use Rattle.tbl_maker.specs.Values.{hex_pair, IsByte}
use Rattle.tbl_maker.proofs.Parting.{All-both}

-- ---- decimal

abbrev pub IsDecimalDigit : ℕ → Type 0
IsDecimalDigit b = (47 < b) × (b < 58)

pub decimal_digits : (n : ℕ) → n < 2 ^ 64 → AllByRecursion IsDecimalDigit (decimal n)
decimal_digits = decimal_by_steps (λ _ ds. AllByRecursion IsDecimalDigit ds)
    (λ n h. ((omega (arith, h), omega (arith, h)), tt))
    (λ n ds h all. All-both IsDecimalDigit ds ((48 + n % 10) ∷ []) all ((omega arith, omega arith), tt))

-- a byte after the minus sign
abbrev pub IsGraphic : ℕ → Type 0
IsGraphic b = 44 < b

pub digits_graphic : (ds : List ℕ) → AllByRecursion IsDecimalDigit ds → AllByRecursion IsGraphic ds
digits_graphic [] all = tt
digits_graphic (d ∷ ds) all = (omega (arith, all.0.0), digits_graphic ds all.1)

pub signed_graphic : (z : ℤ) → unsigned_abs z < 2 ^ 63 → AllByRecursion IsGraphic (signed_decimal z)
signed_graphic (pos n) small = digits_graphic (decimal n) (decimal_digits n (omega (arith, small)))
signed_graphic (negsuc n) small = (omega arith, digits_graphic (decimal (suc n)) (decimal_digits (suc n) (omega (arith, small))))

-- ---- hexadecimal

pub glyph_graphic : (d : ℕ) → d < 16 → IsGraphic (digit_glyph true d)
glyph_graphic d h = grind (arith, nat_tests)

pub glyph_injective : (a b : ℕ) → a < 16 → b < 16 → digit_glyph true a ≡ digit_glyph true b → a ≡ b
glyph_injective a b ha hb e = grind (arith, nat_tests)

pub hex_graphic : (bytes : List ℕ) → AllByRecursion IsByte bytes → AllByRecursion IsGraphic (flat_map hex_pair bytes)
hex_graphic [] all = tt
hex_graphic (b ∷ bs) all =
    let small : b < 256 = all.0 in
    (glyph_graphic (b / 16) (omega arith), (glyph_graphic (b % 16) (omega arith), hex_graphic bs all.1))

-- two bytes of the same digits are one
same_byte : (a b : ℕ) → a < 256 → b < 256 → digit_glyph true (a / 16) ≡ digit_glyph true (b / 16) → digit_glyph true (a % 16) ≡ digit_glyph true (b % 16) → a ≡ b
same_byte a b ha hb high low =
    let h : a / 16 ≡ b / 16 = glyph_injective (a / 16) (b / 16) (omega arith) (omega arith) high in
    let l : a % 16 ≡ b % 16 = glyph_injective (a % 16) (b % 16) (omega arith) (omega arith) low in
    omega (arith, h, l)

-- the digits of bytes that begin those of others
pub hex_agree : (xs ys u : List ℕ) → AllByRecursion IsByte xs → AllByRecursion IsByte ys → flat_map hex_pair xs ++ u ≡ flat_map hex_pair ys → (more : List ℕ) × (ys ≡ xs ++ more) × (u ≡ flat_map hex_pair more)
hex_agree [] ys u bx by e = (ys, refl, e)
hex_agree (x ∷ xs) [] u bx by e = absurd (cc)
hex_agree (x ∷ xs) (y ∷ ys) u bx by e =
    let high : digit_glyph true (x / 16) ≡ digit_glyph true (y / 16) = cc in
    let low : digit_glyph true (x % 16) ≡ digit_glyph true (y % 16) = cc in
    let same : x ≡ y = same_byte x y bx.0 by.0 high low in
    let others : flat_map hex_pair xs ++ u ≡ flat_map hex_pair ys = cc in
    let rest = hex_agree xs ys u bx.1 by.1 others in
    let left : ys ≡ xs ++ rest.0 = rest.1 in
    (rest.0, cc, rest.2)
