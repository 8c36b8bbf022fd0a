-- What a word spells, by where its first comma stands.
use Rattle.std.proofs.Common.{◌≡◌, ◌≢◌, ◌↔◌, ℕ, ◌+◌, ◌%◌, ◌<◌, ◌^◌, List, [], ◌∷◌, ◌++◌, length, take, drop, get_or, Bool, true, false, Option, Some, refl, sym, ap, subst, ◌∙◌, append_assoc, arith}
use Rattle.std.specs.Prelude.{codes, IfSome}
use Rattle.std.specs.List.{position_or_len}
use Rattle.std.specs.Fmt.{decimal}
use Rattle.std.proofs.lemmas.Bool.{eqb-true}
use Rattle.std.proofs.lemmas.Fmt.{decimal_by_steps}
use Rattle.std.proofs.lemmas.List.{length-append, take_at, drop_at}
use Rattle.std.proofs.lemmas.List.Sums.{passes_at_first, split_at_first}
use Rattle.admit_lists.specs.Lists.{is_comma, SpellsId, SpellsPair, SpellsList}

abbrev at_comma : List ℕ → ℕ
at_comma text = position_or_len is_comma text

-- ---- digits

-- the first comma stands after them
after_digits : (n : ℕ) → n < 2 ^ 64 → (rest : List ℕ) → at_comma (decimal n ++ rest) ≡ length (decimal n) + at_comma rest
after_digits = decimal_by_steps (λ n ds. (rest : List ℕ) → at_comma (ds ++ rest) ≡ length ds + at_comma rest)
    (λ n low rest. one n low rest)
    (λ n ds more before rest. more_digits n ds before rest)
  where
    one : (n : ℕ) → n < 10 → (rest : List ℕ) → at_comma ((48 + n) ∷ rest) ≡ 1 + at_comma rest
    one n low rest = by (is_comma (48 + n)) refl where
      by : (b : Bool) → is_comma (48 + n) ≡ b → at_comma ((48 + n) ∷ rest) ≡ 1 + at_comma rest
      by true is = absurd (let same : 48 + n ≡ 44 = eqb-true (48 + n) 44 is in omega (arith, same))
      by false is = rw is refl

    more_digits : (n : ℕ) (ds : List ℕ) → ((rest : List ℕ) → at_comma (ds ++ rest) ≡ length ds + at_comma rest)
        → (rest : List ℕ) → at_comma ((ds ++ ((48 + n % 10) ∷ [])) ++ rest) ≡ length (ds ++ ((48 + n % 10) ∷ [])) + at_comma rest
    more_digits n ds before rest =
        let next = one (n % 10) (omega arith) rest in
        let len = length-append ds ((48 + n % 10) ∷ []) in
        ap at_comma (append_assoc ds ((48 + n % 10) ∷ []) rest) ∙ before ((48 + n % 10) ∷ rest) ∙ omega (arith, next, len)

-- the first byte is one of them
first_is_digit : (n : ℕ) → n < 2 ^ 64 → (rest : List ℕ) → get_or (decimal n ++ rest) 0 0 < 58
first_is_digit = decimal_by_steps (λ n ds. (rest : List ℕ) → get_or (ds ++ rest) 0 0 < 58)
    (λ n low rest. omega (arith, low))
    (λ n ds more before rest. subst (λ (text : List ℕ). get_or text 0 0 < 58) (sym (append_assoc ds ((48 + n % 10) ∷ []) rest)) (before ((48 + n % 10) ∷ rest)))

-- ---- what is spelled

not_any : (text rest : List ℕ) (n : ℕ) → n < 2 ^ 32 → text ≡ decimal n ++ rest → text ≢ codes "any"
not_any text rest n fits is any = let low = first_is_digit n (omega (arith, fits)) rest in let high : get_or (decimal n ++ rest) 0 0 ≡ 97 = ap (λ (bytes : List ℕ). get_or bytes 0 0) (sym is ∙ any) in absurd (omega (arith, low, high))

ends : (text : List ℕ) → text ++ [] ≡ text
ends [] = refl
ends (byte ∷ text) = ap (λ (rest : List ℕ). byte ∷ rest) (ends text)

id_has_no_comma : (text : List ℕ) (id : ℕ) → SpellsId text id → at_comma text ≡ length text
id_has_no_comma text id spells =
    let whole = ends (decimal id) in
    rw spells.digits (ap at_comma (sym whole) ∙ after_digits id (let fits = spells.fits in omega (arith, fits)) [] ∙ omega arith)

id_is_not_any : (text : List ℕ) (id : ℕ) → SpellsId text id → text ≢ codes "any"
id_is_not_any text id spells = not_any text [] id spells.fits (spells.digits ∙ sym (ends (decimal id)))

record Parted (text : List ℕ) (first second : ℕ) : Type 0 where
  at : at_comma text ≡ length (decimal first)
  within : at_comma text < length text
  front : SpellsId (take (at_comma text) text) first
  back : SpellsId (drop (at_comma text + 1) text) second

pair_is_parted : (text : List ℕ) (first second : ℕ) → SpellsPair text first second → Parted text first second
pair_is_parted text first second spells =
    let a = decimal first in
    let b = decimal second in
    let fits = spells.first_fits in
    let place : at_comma text ≡ length a = ap at_comma spells.parts ∙ after_digits first (omega (arith, fits)) (44 ∷ b) ∙ omega arith in
    let len = ap length spells.parts ∙ length-append a (44 ∷ b) in
    let next : (a ++ 44 ∷ []) ++ b ≡ a ++ 44 ∷ b = append_assoc a (44 ∷ []) b in
    record {
      at = place;
      within = omega (arith, place, len);
      front = record { digits = ap (λ (n : ℕ). take n text) place ∙ ap (take (length a)) spells.parts ∙ take_at a (44 ∷ b) (length a) refl; fits = fits };
      back = record {
        digits = ap (λ (n : ℕ). drop (n + 1) text) place ∙ ap (drop (length a + 1)) (spells.parts ∙ sym next) ∙ drop_at (a ++ 44 ∷ []) b (length a + 1) (length-append a (44 ∷ []));
        fits = spells.second_fits;
      };
    }

pair_of : (text : List ℕ) (first second : ℕ) → at_comma text < length text → SpellsId (take (at_comma text) text) first → SpellsId (drop (at_comma text + 1) text) second → SpellsPair text first second
pair_of text first second within front back =
    let comma : get_or text (at_comma text) 0 ≡ 44 = eqb-true (get_or text (at_comma text) 0) 44 (passes_at_first is_comma text 0 within) in
    record {
      parts = split_at_first is_comma text 0 within ∙ rw (comma, front.digits, back.digits) refl;
      first_fits = front.fits;
      second_fits = back.fits;
    }

-- ---- the list of a word

pub any_alone : (text : List ℕ) → text ≡ codes "any" → (ids : List ℕ) → SpellsList text ids → ids ≡ []
any_alone text any [] spells = refl
any_alone text any (id ∷ []) spells = absurd (id_is_not_any text id spells any)
any_alone text any (first ∷ second ∷ []) spells = absurd (not_any text (44 ∷ decimal second) first spells.first_fits spells.parts any)
any_alone text any (first ∷ second ∷ third ∷ others) spells = absurd spells

module _ {X : Type 0} (made : List ℕ → X) (items : X → List ℕ) (same : (ids : List ℕ) → items (made ids) ≡ ids) (text : List ℕ) (other : text ≢ codes "any") (result : Option X) where
  has_len : (n : ℕ) (ids : List ℕ) → IfSome result (λ x. length (items x) ≡ n) → result ≡ Some (made ids) → length ids ≡ n
  has_len n ids len is = sym (ap length (same ids)) ∙ subst (λ (r : Option X). IfSome r (λ x. length (items x) ≡ n)) is len

  pub one_spelled : at_comma text ≡ length text → ((id : ℕ) → (result ≡ Some (made (id ∷ []))) ↔ SpellsId text id) → IfSome result (λ x. length (items x) ≡ 1)
      → (ids : List ℕ) → (result ≡ Some (made ids)) ↔ SpellsList text ids
  one_spelled no_comma one len ids = (there ids, back ids) where
    there : (ids : List ℕ) → result ≡ Some (made ids) → SpellsList text ids
    there [] is = let n = has_len 1 [] len is in absurd (omega (arith, n))
    there (id ∷ []) is = (one id).0 is
    there (first ∷ second ∷ others) is = let n = has_len 1 (first ∷ second ∷ others) len is in absurd (omega (arith, n))

    back : (ids : List ℕ) → SpellsList text ids → result ≡ Some (made ids)
    back [] spells = absurd (other spells)
    back (id ∷ []) spells = (one id).1 spells
    back (first ∷ second ∷ []) spells = let parted = pair_is_parted text first second spells in let within = parted.within in absurd (omega (arith, within, no_comma))
    back (first ∷ second ∷ third ∷ others) spells = absurd spells

  pub two_spelled : at_comma text < length text → ((first second : ℕ) → (result ≡ Some (made (first ∷ second ∷ []))) ↔ (SpellsId (take (at_comma text) text) first × SpellsId (drop (at_comma text + 1) text) second))
      → IfSome result (λ x. length (items x) ≡ 2) → (ids : List ℕ) → (result ≡ Some (made ids)) ↔ SpellsList text ids
  two_spelled within two len ids = (there ids, back ids) where
    there : (ids : List ℕ) → result ≡ Some (made ids) → SpellsList text ids
    there [] is = let n = has_len 2 [] len is in absurd (omega (arith, n))
    there (id ∷ []) is = let n = has_len 2 (id ∷ []) len is in absurd (omega (arith, n))
    there (first ∷ second ∷ []) is = let both = (two first second).0 is in pair_of text first second within both.0 both.1
    there (first ∷ second ∷ third ∷ others) is = let n = has_len 2 (first ∷ second ∷ third ∷ others) len is in absurd (omega (arith, n))

    back : (ids : List ℕ) → SpellsList text ids → result ≡ Some (made ids)
    back [] spells = absurd (other spells)
    back (id ∷ []) spells = let at = id_has_no_comma text id spells in absurd (omega (arith, within, at))
    back (first ∷ second ∷ []) spells = let parted = pair_is_parted text first second spells in (two first second).1 (parted.front, parted.back)
    back (first ∷ second ∷ third ∷ others) spells = absurd spells
