-- Reading numbers: of their texts, and into their types.
use Rattle.std.proofs.Common.{◌≡◌, ℕ, ◌<◌, ◌^◌, Bool, true, false, Option, Some, None, refl, subst, arith, rules, ℤ, pos, negsuc}
use Rattle.std.specs.Prelude.{Result, Ok, Err, MatchResult, FitsSigned, ◌≤ℤ◌, ◌<ℤ◌, IfNone, IfSome, OnOk}
use Rattle.std.specs.Result.{result_ok}
use Rattle.std.specs.Int.{w64}
use Rattle.std.specs.Int.Signed.{mag}
use Rattle.std.specs.Str.{IsUtf8}
use Rattle.std.specs.Fmt.{signed_decimal}
use Rattle.std.proofs.lemmas.Int.{ints}
use Rattle.std.proofs.lemmas.Str.{IsUtf8-from_ascii}
use Rattle.std.proofs.lemmas.Fmt.{IsAscii-signed}
use Rattle.tbl_maker.specs.Parts.{IsModerate}
use Rattle.tbl_maker.proofs.Values.{mag_small}

-- ---- answers that are not there

pub if_none : {A : Type 0} (r : Option A) (P : Type 0) → P → IfNone r P
if_none None P p = p
if_none (Some x) P p = tt

pub not_true : (b : Bool) → (b ≡ true → ⊥) → b ≡ false
not_true true = λ no. absurd (no refl)
not_true false = λ no. refl

pub if_none_map : {A : Type 0} (r : Option A) (P Q : Type 0) → (P → Q) → IfNone r P → IfNone r Q
if_none_map None P Q f p = f p
if_none_map (Some x) P Q f p = tt

pub if_some_map : {A : Type 0} (r : Option A) (P Q : A → Type 0) → ((x : A) → P x → Q x) → IfSome r P → IfSome r Q
if_some_map None P Q f p = tt
if_some_map (Some x) P Q f p = f x p

pub some_none : {A : Type 0} (r : Option A) (a : A) → r ≡ None → r ≡ Some a → ⊥
some_none r a none some = cc

pub some_one : {A : Type 0} (r : Option A) (a b : A) → r ≡ Some a → r ≡ Some b → a ≡ b
some_one r a b e f = cc

-- a test can't have been refused and passed
pub refused : (b : Bool) → b ≡ false → b ≡ true → ⊥
refused b f t = cc

-- what a result that is handed on says
pub on_ok : {A E : Type 0} (r : Result A E) (P Q : Type 0) → (P → Q) → OnOk r P → OnOk r Q
on_ok (Ok x) P Q f p = f p
on_ok (Err x) P Q f p = tt

-- ---- results

pub err_part : {A E : Type 0} (r : Result A E) (P : A → Type 0) (Q : E → Type 0) (G : Type 0) → MatchResult r P Q → result_ok r ≡ None → ((e : E) → Q e → G) → G
err_part (Ok x) P Q G m e k = absurd (cc)
err_part (Err x) P Q G m e k = k x m

pub ok_part : {A E : Type 0} (r : Result A E) (P : A → Type 0) (Q : E → Type 0) (a : A) → MatchResult r P Q → result_ok r ≡ Some a → P a
ok_part (Ok x) P Q a m e = let same : x ≡ a = cc in subst P same m
ok_part (Err x) P Q a m e = absurd (cc)

-- ---- numbers

pub fits_mag : (z : ℤ) → FitsSigned w64 z → mag z < 2 ^ 63
fits_mag (pos n) h = omega (arith, ints)
fits_mag (negsuc n) h = omega (arith, ints)

pub moderate_fits : (z : ℤ) → IsModerate z → FitsSigned w64 z
moderate_fits (pos n) h = search (arith, ints, rules)
moderate_fits (negsuc n) h = search (arith, ints, rules)

pub signed_utf8 : (z : ℤ) → IsModerate z → IsUtf8 (signed_decimal z)
signed_utf8 z h = IsUtf8-from_ascii (signed_decimal z) (IsAscii-signed z (mag_small z h))

pub below_is : (n limit : ℕ) → n < limit → (pos 0 ≤ℤ pos n) × (pos n <ℤ pos limit)
below_is n limit h = (omega (arith, ints), omega (arith, ints))
