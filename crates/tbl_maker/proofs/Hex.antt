-- Reading pairs of hexadecimal digits.
use Rattle.std.proofs.Common.{◌≡◌, ◌≢◌, ℕ, ◌+◌, ◌<◌, ◌≤◌, List, [], ◌∷◌, ◌++◌, length, get_or, drop, Bool, false, true, subst, ◌/◌, ◌%◌, refl, sym, ap, ◌∙◌, arith}
use Rattle.std.specs.Prelude.{◌==◌}
use Rattle.std.specs.List.{AllByRecursion, flat_map}
use Rattle.std.specs.Fmt.{digit_glyph}
use Rattle.std.proofs.lemmas.List.{length-append}
use Rattle.std.proofs.lemmas.Bool.Decides.{nat_tests}
use Rattle.tbl_maker.specs.Values.{IsByte, IsHexValue, hex_pair}
use Rattle.tbl_maker.specs.Digits.{IsNoDigit}
use Rattle.tbl_maker.specs.Parts.{IsNoHex}
use Rattle.tbl_maker.proofs.Parting.{All-after}
use Rattle.tbl_maker.proofs.Digits.{hex_agree}

-- what hexadecimal values there are after the bytes so far
after_is : (text bytes rest value : List ℕ) → text ≡ flat_map hex_pair bytes ++ rest → AllByRecursion IsByte bytes → IsHexValue value → text ≡ flat_map hex_pair value → (more : List ℕ) × (value ≡ bytes ++ more) × (rest ≡ flat_map hex_pair more)
after_is text bytes rest value is all h e = hex_agree bytes value rest all h.are_bytes (sym is ∙ e)

first_pair : (high low : ℕ) (others more : List ℕ) → high ∷ low ∷ others ≡ flat_map hex_pair more → (b : ℕ) × (left : List ℕ) × (more ≡ b ∷ left) × (high ≡ digit_glyph true (b / 16)) × (low ≡ digit_glyph true (b % 16))
first_pair high low others [] e = absurd (cc)
first_pair high low others (b ∷ left) e = (b, left, refl, cc, cc)

first_is_byte : (value bytes more : List ℕ) (b : ℕ) (left : List ℕ) → AllByRecursion IsByte value → value ≡ bytes ++ more → more ≡ b ∷ left → b < 256
first_is_byte value bytes more b left all e f =
    let whole : AllByRecursion IsByte (bytes ++ (b ∷ left)) = subst (AllByRecursion IsByte) (e ∙ ap (λ x. bytes ++ x) f) all in
    (All-after IsByte bytes (b ∷ left) whole).0

pub no_high : (text bytes others : List ℕ) (high low : ℕ) → text ≡ flat_map hex_pair bytes ++ (high ∷ low ∷ others) → AllByRecursion IsByte bytes → IsNoDigit high → IsNoHex text
no_high text bytes others high low is all none value h e =
    let found = after_is text bytes (high ∷ low ∷ others) value is all h e in
    let first = first_pair high low others found.0 found.2 in
    let byte : first.0 < 256 = first_is_byte value bytes found.0 first.0 first.1 h.are_bytes found.1 first.2 in
    none (first.0 / 16) (omega arith) first.3

pub no_low : (text bytes others : List ℕ) (high low : ℕ) → text ≡ flat_map hex_pair bytes ++ (high ∷ low ∷ others) → AllByRecursion IsByte bytes → IsNoDigit low → IsNoHex text
no_low text bytes others high low is all none value h e =
    let found = after_is text bytes (high ∷ low ∷ others) value is all h e in
    let first = first_pair high low others found.0 found.2 in
    none (first.0 % 16) (omega arith) first.4

-- 64 bytes are the most
pub too_many : (text bytes others : List ℕ) (high low : ℕ) → text ≡ flat_map hex_pair bytes ++ (high ∷ low ∷ others) → AllByRecursion IsByte bytes → 64 ≤ length bytes → IsNoHex text
too_many text bytes others high low is all full value h e =
    let found = after_is text bytes (high ∷ low ∷ others) value is all h e in
    let first = first_pair high low others found.0 found.2 in
    let len : length value ≡ length bytes + length found.0 = ap length found.1 ∙ length-append bytes found.0 in
    let more : length found.0 ≡ length (first.0 ∷ first.1) = ap length first.2 in
    omega (arith, h.few, full, len, more)

alone : (rest more : List ℕ) → rest ≡ flat_map hex_pair more → rest ≢ [] → length rest < 2 → ⊥
alone rest [] e some short = some e
alone rest (b ∷ more) e some short = omega (arith, short, ap length e)

value_some : (value : List ℕ) → IsHexValue value → [] ≡ flat_map hex_pair value → ⊥
value_some [] h e = omega (arith, h.some)
value_some (b ∷ value) h e = cc

-- a digit alone
pub no_pair : (text bytes rest : List ℕ) → text ≡ flat_map hex_pair bytes ++ rest → AllByRecursion IsByte bytes → rest ≢ [] → length rest < 2 → IsNoHex text
no_pair text bytes rest is all some short value h e =
    let found = after_is text bytes rest value is all h e in
    alone rest found.0 found.2 some short

pub no_bytes : (text : List ℕ) → text ≡ [] → IsNoHex text
no_bytes text none value h e = value_some value h (sym none ∙ e)

-- ---- lists as the code sees them

pub two_first : (rest : List ℕ) → 2 ≤ length rest → rest ≡ get_or rest 0 0 ∷ get_or rest 1 0 ∷ drop 2 rest
two_first [] h = absurd (omega (arith, h))
two_first (a ∷ []) h = absurd (omega (arith, h))
two_first (a ∷ b ∷ rest) h = refl

not_empty : {A : Type 0} (xs : List A) (x : A) → (length (x ∷ xs) == 0) ≡ true → ⊥
not_empty xs x e = grind (arith, nat_tests, e)

pub none_left : {A : Type 0} (b : Bool) (xs : List A) → b ≡ (length xs == 0) → b ≡ true → xs ≡ []
none_left b [] e f = refl
none_left b (x ∷ xs) e f = absurd (not_empty xs x (sym e ∙ f))

pub some_left : {A : Type 0} (b : Bool) (xs : List A) → b ≡ (length xs == 0) → b ≡ false → xs ≢ []
some_left b [] e f same = cc
some_left b (x ∷ xs) e f same = cc

pub some_length : (xs : List ℕ) → xs ≢ [] → 0 < length xs
some_length [] h = absurd (h refl)
some_length (x ∷ xs) h = omega arith
