-- A full name has no zero byte, and is a name if its parts are names.
use Rattle.std.proofs.Common.{◌≡◌, ℕ, ◌+◌, nat_lt, Bool, true, not, List, [], ◌∷◌, ◌++◌, length, take, refl, ap, ◌∙◌, sym, eqb, eq-eqb, length-append, append_assoc, arith}
use Rattle.std.proofs.lemmas.List.Folds.{length-prefix_len, prefix_len-append, list_all-append}
use Rattle.std.proofs.Math.Seq.{take-length}
use Rattle.std.proofs.lemmas.Bool.{and_parts, and_from, lt-ltb}
use Rattle.std.specs.List.{prefix_len, list_all}
use Rattle.tbl_kinds.specs.Names.{is_zero, is_printable_byte, is_name, name_in, HasNoZero}
use Rattle.tbl_model.specs.Applications.{full_name}

abbrev stands : ℕ → Bool
stands b = not (is_zero b)

all_stand : (name : List ℕ) → HasNoZero name → prefix_len stands name ≡ length name
all_stand name h = sym (length-prefix_len stands name) ∙ ap length h

full_stands : (app short : List ℕ) → HasNoZero app → HasNoZero short → prefix_len stands (full_name app short) ≡ length (full_name app short)
full_stands app short a b =
    let whole : eqb (prefix_len stands app) (length app) ≡ true = eq-eqb _ _ (all_stand app a) in
    let first : prefix_len stands (app ++ 46 ∷ short) ≡ length app + prefix_len stands (46 ∷ short) = rw (prefix_len-append stands app (46 ∷ short), whole) refl in
    let rest : prefix_len stands (46 ∷ short) ≡ 1 + length short = ap (λ n. 1 + n) (all_stand short b) in
    omega (arith, first, rest, length-append app (46 ∷ short))

full_reads_itself : (app short : List ℕ) → HasNoZero app → HasNoZero short → name_in (full_name app short) ≡ full_name app short
full_reads_itself app short a b = ap (λ n. take n (full_name app short)) (full_stands app short a b) ∙ take-length (full_name app short)

-- what the application's name, a dot and the short name, put together, read as
pub full_is : (app short field : List ℕ) → HasNoZero app → HasNoZero short → field ≡ (app ++ 46 ∷ []) ++ short → name_in field ≡ full_name app short
full_is app short field a b is = ap name_in (is ∙ append_assoc app (46 ∷ []) short) ∙ full_reads_itself app short a b

-- if both are names it is one
pub full_named : (app short : List ℕ) → is_name app ≡ true → is_name short ≡ true → is_name (full_name app short) ≡ true
full_named app short a b =
    let of_app = and_parts (nat_lt 0 (length app)) (list_all is_printable_byte app) a in
    let of_short = and_parts (nat_lt 0 (length short)) (list_all is_printable_byte short) b in
    let some : nat_lt 0 (length (full_name app short)) ≡ true = lt-ltb 0 (length (full_name app short)) (omega (arith, length-append app (46 ∷ short))) in
    and_from (nat_lt 0 (length (full_name app short))) (list_all is_printable_byte (full_name app short)) some
    (list_all-append is_printable_byte app (46 ∷ short) ∙ and_from (list_all is_printable_byte app) (list_all is_printable_byte short) of_app.1 of_short.1)
