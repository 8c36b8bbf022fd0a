-- Values: their texts, and the one value of a text.
use Rattle.std.proofs.Common.{◌≡◌, ℕ, ◌%◌, ◌<◌, ◌^◌, List, [], ◌∷◌, ◌++◌, length, refl, sym, ap, ◌∙◌, subst, arith, ℤ, pos, negsuc}
use Rattle.std.specs.Int.{to_be_bytes, from_be_bytes, cast_unsigned, byte_len, w16, w32}
use Rattle.std.proofs.lemmas.Nat.{from_be_bytes-to_be_bytes_2, from_be_bytes-to_be_bytes_4}
use Rattle.std.specs.Int.Signed.{mag}
use Rattle.std.specs.List.{AllByRecursion, flat_map}
use Rattle.std.proofs.lemmas.Fmt.{signed_decimal_injective}
use Rattle.std.proofs.lemmas.Int.{ints}
use Rattle.std.proofs.lemmas.List.{append-nil}
use Rattle.tbl_maker.specs.Types.{width_of, modulus_of, size_of, sign_letter, width_digits, type_word}
use Rattle.tbl_maker.specs.Values.{Value, number, hex, IsInRange, IsValue, IsByte, type_of, value_text, bytes_of, hex_pair}
use Rattle.tbl_maker.specs.Parts.{IsModerate}
use Rattle.tbl_maker.specs.declared.field_type.Sign.{Sign}
use Rattle.tbl_maker.specs.declared.field_type.Sign.TheVariants.{Unsigned, Signed}
use Rattle.tbl_maker.specs.declared.field_type.Width.{Width}
use Rattle.tbl_maker.specs.declared.field_type.Width.TheVariants.{One, Two, Four}
use Rattle.tbl_maker.specs.declared.field_type.FieldType.{FieldType}
use Rattle.tbl_maker.specs.declared.field_type.FieldType.TheVariants.{Number, Hex}
use Rattle.tbl_maker.proofs.Digits.{IsGraphic, signed_graphic, hex_graphic, hex_agree}

-- ---- numbers are moderate

pub in_range_moderate : (sign : Sign) (width : Width) (z : ℤ) → IsInRange sign width z → IsModerate z
in_range_moderate Unsigned One (pos n) h = omega (arith, ints)
in_range_moderate Unsigned Two (pos n) h = omega (arith, ints)
in_range_moderate Unsigned Four (pos n) h = omega (arith, ints)
in_range_moderate Unsigned width (negsuc n) h = absurd (omega (arith, ints))
in_range_moderate Signed One (pos n) h = omega (arith, ints)
in_range_moderate Signed Two (pos n) h = omega (arith, ints)
in_range_moderate Signed Four (pos n) h = omega (arith, ints)
in_range_moderate Signed One (negsuc n) h = omega (arith, ints)
in_range_moderate Signed Two (negsuc n) h = omega (arith, ints)
in_range_moderate Signed Four (negsuc n) h = omega (arith, ints)

pub mag_small : (z : ℤ) → IsModerate z → mag z < 2 ^ 63
mag_small (pos n) h = h
mag_small (negsuc n) h = omega (arith, h)

-- ---- words

pub sign_letter_injective : (a b : Sign) → sign_letter a ≡ sign_letter b → a ≡ b
sign_letter_injective Unsigned Unsigned e = refl
sign_letter_injective Unsigned Signed e = absurd (omega (arith, e))
sign_letter_injective Signed Unsigned e = absurd (omega (arith, e))
sign_letter_injective Signed Signed e = refl

first_of : List ℕ → ℕ
first_of [] = 0
first_of (x ∷ xs) = x

first_same : (a b : Width) → width_digits a ≡ width_digits b → first_of (width_digits a) ≡ first_of (width_digits b)
first_same a b e = ap first_of e

pub width_digits_injective : (a b : Width) → width_digits a ≡ width_digits b → a ≡ b
unfolding first_of
width_digits_injective One One e = refl
width_digits_injective One Two e = absurd (omega (arith, first_same One Two e))
width_digits_injective One Four e = absurd (omega (arith, first_same One Four e))
width_digits_injective Two One e = absurd (omega (arith, first_same Two One e))
width_digits_injective Two Two e = refl
width_digits_injective Two Four e = absurd (omega (arith, first_same Two Four e))
width_digits_injective Four One e = absurd (omega (arith, first_same Four One e))
width_digits_injective Four Two e = absurd (omega (arith, first_same Four Two e))
width_digits_injective Four Four e = refl

pub letter_not_h : (sign : Sign) → sign_letter sign ≡ 104 → ⊥
letter_not_h Unsigned e = omega (arith, e)
letter_not_h Signed e = omega (arith, e)

-- ---- all bytes of a line stand after the minus sign, but for its spaces

pub width_graphic : (width : Width) → AllByRecursion IsGraphic (width_digits width)
width_graphic One = (omega arith, tt)
width_graphic Two = (omega arith, (omega arith, tt))
width_graphic Four = (omega arith, (omega arith, tt))

pub letter_graphic : (sign : Sign) → IsGraphic (sign_letter sign)
letter_graphic Unsigned = omega arith
letter_graphic Signed = omega arith

pub word_graphic : (kind : FieldType) → AllByRecursion IsGraphic (type_word kind)
word_graphic (Number sign width) = (letter_graphic sign, width_graphic width)
word_graphic (Hex len) = (omega arith, (omega arith, (omega arith, tt)))

pub text_graphic : (v : Value) → IsValue v → AllByRecursion IsGraphic (value_text v)
text_graphic (number sign width z) h = signed_graphic z (in_range_moderate sign width z h)
text_graphic (hex bytes) h = hex_graphic bytes h.are_bytes

-- ---- one value

no_digits : (xs : List ℕ) → [] ≡ flat_map hex_pair xs → xs ≡ []
no_digits [] e = refl
no_digits (x ∷ xs) e = absurd (cc)

hex_one : (xs ys : List ℕ) → AllByRecursion IsByte xs → AllByRecursion IsByte ys → flat_map hex_pair xs ≡ flat_map hex_pair ys → xs ≡ ys
hex_one xs ys bx by e =
    let found = hex_agree xs ys [] bx by (append-nil (flat_map hex_pair xs) ∙ e) in
    let others : [] ≡ flat_map hex_pair found.0 = found.2 in
    let none : found.0 ≡ [] = no_digits found.0 others in
    let same : ys ≡ xs ++ found.0 = found.1 in
    sym (same ∙ ap (λ l. xs ++ l) none ∙ append-nil xs)

pub value_unique : (v w : Value) → IsValue v → IsValue w → type_word (type_of v) ≡ type_word (type_of w) → value_text v ≡ value_text w → v ≡ w
value_unique (number s a y) (number t b z) hv hw words texts =
    let letters : sign_letter s ≡ sign_letter t = cc in
    let digits : width_digits a ≡ width_digits b = cc in
    let same_sign : s ≡ t = sign_letter_injective s t letters in
    let same_width : a ≡ b = width_digits_injective a b digits in
    let same : y ≡ z = signed_decimal_injective y z (mag_small y (in_range_moderate s a y hv)) (mag_small z (in_range_moderate t b z hw)) texts in
    cc
value_unique (number s a y) (hex ys) hv hw words texts = let first : sign_letter s ≡ 104 = cc in absurd (letter_not_h s first)
value_unique (hex xs) (number t b z) hv hw words texts = let first : sign_letter t ≡ 104 = cc in absurd (letter_not_h t first)
value_unique (hex xs) (hex ys) hv hw words texts = let same : xs ≡ ys = hex_one xs ys hv.are_bytes hw.are_bytes texts in ap hex same

-- ---- bytes

pub length-to_be_bytes : (width : Width) (n : ℕ) → length (to_be_bytes (width_of width) n) ≡ byte_len (width_of width)
length-to_be_bytes One n = refl
length-to_be_bytes Two n = refl
length-to_be_bytes Four n = refl

pub length-bytes_of : (v : Value) → length (bytes_of v) ≡ size_of (type_of v)
length-bytes_of (number sign width z) = length-to_be_bytes width (cast_unsigned (width_of width) z)
length-bytes_of (hex bytes) = refl

pub some_bytes : (v : Value) → IsValue v → 0 < length (bytes_of v)
some_bytes (number sign One z) h = omega arith
some_bytes (number sign Two z) h = omega arith
some_bytes (number sign Four z) h = omega arith
some_bytes (hex bytes) h = h.some

-- ---- one value of a type and bytes

bits_injective : (sign : Sign) (width : Width) (y z : ℤ) → IsInRange sign width y → IsInRange sign width z → cast_unsigned (width_of width) y ≡ cast_unsigned (width_of width) z → y ≡ z
bits_injective Unsigned width (pos m) (pos n) hy hz e = ap pos e
bits_injective Unsigned width (pos m) (negsuc n) hy hz e = absurd (omega (arith, ints))
bits_injective Unsigned width (negsuc m) z hy hz e = absurd (omega (arith, ints))
bits_injective Signed One y z hy hz e = omega (arith, ints, e)
bits_injective Signed Two y z hy hz e = omega (arith, ints, e)
bits_injective Signed Four y z hy hz e = omega (arith, ints, e)

bits_fit : (sign : Sign) (width : Width) (z : ℤ) → IsInRange sign width z → cast_unsigned (width_of width) z < modulus_of width
bits_fit Unsigned One (pos n) h = omega (arith, ints)
bits_fit Unsigned Two (pos n) h = omega (arith, ints)
bits_fit Unsigned Four (pos n) h = omega (arith, ints)
bits_fit Unsigned width (negsuc n) h = absurd (omega (arith, ints))
bits_fit Signed One z h = omega (arith, ints)
bits_fit Signed Two z h = omega (arith, ints)
bits_fit Signed Four z h = omega (arith, ints)

bytes_one : (width : Width) (m n : ℕ) → m < modulus_of width → n < modulus_of width → to_be_bytes (width_of width) m ≡ to_be_bytes (width_of width) n → m ≡ n
bytes_one One m n hm hn e = let same : m % 256 ≡ n % 256 = cc in omega (arith, same)
bytes_one Two m n hm hn e = sym (from_be_bytes-to_be_bytes_2 m hm) ∙ ap (from_be_bytes w16) e ∙ from_be_bytes-to_be_bytes_2 n hn
bytes_one Four m n hm hn e = sym (from_be_bytes-to_be_bytes_4 m hm) ∙ ap (from_be_bytes w32) e ∙ from_be_bytes-to_be_bytes_4 n hn

same_kind : (s t : Sign) (v w : Width) → Number s v ≡ Number t w → (s ≡ t) × (v ≡ w)
same_kind s t v w e = (cc, cc)

pub bytes_injective : (v w : Value) → IsValue v → IsValue w → type_of v ≡ type_of w → bytes_of v ≡ bytes_of w → v ≡ w
bytes_injective (number s a y) (number t b z) hv hw kinds bytes =
    let same = same_kind s t a b kinds in
    let range : IsInRange s a z = subst (λ sign. IsInRange sign a z) (sym same.0) (subst (λ width. IsInRange t width z) (sym same.1) hw) in
    let width : to_be_bytes (width_of a) (cast_unsigned (width_of a) y) ≡ to_be_bytes (width_of a) (cast_unsigned (width_of a) z)
    = bytes ∙ ap (λ w. to_be_bytes (width_of w) (cast_unsigned (width_of w) z)) (sym same.1) in
    let bits = bytes_one a (cast_unsigned (width_of a) y) (cast_unsigned (width_of a) z) (bits_fit s a y hv) (bits_fit s a z range) width in
    let zs : y ≡ z = bits_injective s a y z hv range bits in
    let signs = same.0 in
    let widths = same.1 in
    λ i. number (signs i) (widths i) (zs i)
bytes_injective (number s a y) (hex ys) hv hw kinds bytes = absurd (cc)
bytes_injective (hex xs) (number t b z) hv hw kinds bytes = absurd (cc)
bytes_injective (hex xs) (hex ys) hv hw kinds bytes = ap hex bytes
