-- Full names: their parts round the first dot.
use Rattle.std.proofs.Common.{◌≡◌, ◌≢◌, ℕ, ◌+◌, ◌<◌, ◌≤◌, cond, List, [], ◌∷◌, ◌++◌, length, get_or, take, drop, true, false, refl, sym, ap, ◌∙◌, subst, arith}
use Rattle.std.specs.Prelude.{◌&&◌, nat_lt, not}
use Rattle.std.specs.List.{list_all, before_first, after_first, position_or_len}
use Rattle.std.proofs.lemmas.Bool.{and_parts, ltb-true, leb-true}
use Rattle.std.proofs.lemmas.Bool.Decides.{nat_tests}
use Rattle.std.proofs.lemmas.List.{length-drop, length-take}
use Rattle.std.proofs.lemmas.List.Sums.{split_at_first, passes_at_first}
use Rattle.std.proofs.Math.Seq.{take-append_seam, drop-append-add, take-length}
use Rattle.tbl_kinds.specs.Names.{is_printable_byte, is_name, is_zero, name_in}
use Rattle.tbl_maker.specs.Names.{is_dot, is_name_within, is_full_name}
use Rattle.tbl_maker.specs.Lines.{Lacks, IsSplit}
use Rattle.tbl_maker.proofs.Parting.{All-both, Lacks-test}
use Rattle.tbl_maker.proofs.Numbers.{not_true}

name_lacks : (c : ℕ) → is_printable_byte c ≡ false → (most : ℕ) (name : List ℕ) → is_name_within most name ≡ true → Lacks c name
name_lacks c bad most name e =
    let named = (and_parts (is_name name) _ e).0 in
    Lacks-test is_printable_byte c bad name (and_parts _ (list_all is_printable_byte name) named).1

name_some : (most : ℕ) (name : List ℕ) → is_name_within most name ≡ true → 0 < length name
name_some most name e =
    let named = (and_parts (is_name name) _ e).0 in
    ltb-true 0 (length name) (and_parts (nat_lt 0 (length name)) _ named).0

no_dot : (x : ℕ) → x ≢ 46 → is_dot x ≡ false
no_dot x h = grind (arith, nat_tests, h)

-- ---- the parts round the first dot

dot_place : (front after : List ℕ) → Lacks 46 front → position_or_len is_dot (front ++ 46 ∷ after) ≡ length front
dot_place [] after lacks = refl
dot_place (x ∷ xs) after lacks =
    ap (λ b. cond (not b) (1 + position_or_len is_dot (xs ++ 46 ∷ after)) 0) (no_dot x lacks.0)
    ∙ ap (λ n. 1 + n) (dot_place xs after lacks.1) ∙ omega arith

pub split_parts : (bytes front after : List ℕ) → IsSplit 46 bytes front after → (before_first is_dot bytes ≡ front) × (after_first is_dot bytes ≡ after)
split_parts bytes front after split =
    let place : position_or_len is_dot bytes ≡ length front = ap (position_or_len is_dot) split.parts ∙ dot_place front after split.first in (
      ap (λ n. take n bytes) place ∙ ap (take (length front)) split.parts ∙ take-append_seam front (46 ∷ after),
      ap (λ n. drop (n + 1) bytes) place ∙ ap (drop (length front + 1)) split.parts ∙ drop-append-add front (46 ∷ after) 1,
    )

pub full_is : (bytes front after : List ℕ) → IsSplit 46 bytes front after → is_full_name bytes ≡ (is_name_within 20 front && is_name_within 16 after)
full_is bytes front after split =
    let parts = split_parts bytes front after split in
    ap (λ a. is_name_within 20 a && is_name_within 16 (after_first is_dot bytes)) parts.0 ∙ ap (λ b. is_name_within 20 front && is_name_within 16 b) parts.1

none_place : (bytes : List ℕ) → Lacks 46 bytes → position_or_len is_dot bytes ≡ length bytes
none_place [] lacks = refl
none_place (x ∷ xs) lacks =
    ap (λ b. cond (not b) (1 + position_or_len is_dot xs) 0) (no_dot x lacks.0) ∙ ap (λ n. 1 + n) (none_place xs lacks.1) ∙ omega arith

-- a full name has a dot
dot_within : (name : List ℕ) → is_full_name name ≡ true → position_or_len is_dot name < length name
dot_within name e =
    let short = (and_parts (is_name_within 20 (before_first is_dot name)) _ e).1 in
    let some : 0 < length (drop (position_or_len is_dot name + 1) name) = name_some 16 (after_first is_dot name) short in
    omega (arith, some, length-drop (position_or_len is_dot name + 1) name)

pub none_full : (name : List ℕ) → Lacks 46 name → is_full_name name ≡ true → ⊥
none_full name lacks e = omega (arith, dot_within name e, none_place name lacks)

pub none_is : (bytes : List ℕ) → Lacks 46 bytes → is_full_name bytes ≡ false
none_is bytes lacks = not_true (is_full_name bytes) (none_full bytes lacks)

-- what no part has, the whole has only where it is a dot
pub full_name_lacks : (c : ℕ) → is_printable_byte c ≡ false → c ≢ 46 → (name : List ℕ) → is_full_name name ≡ true → Lacks c name
full_name_lacks c bad other name e =
    let P : ℕ → Type 0 = λ b. b ≢ c in
    let parts = and_parts (is_name_within 20 (before_first is_dot name)) _ e in
    let within = dot_within name e in
    let middle = get_or name (position_or_len is_dot name) 0 in
    let dot : middle ≡ 46 = grind (arith, nat_tests, passes_at_first is_dot name 0 within) in
    let differs : middle ≢ c = λ same. other (sym same ∙ dot) in
    let joined : name ≡ before_first is_dot name ++ (middle ∷ after_first is_dot name) = split_at_first is_dot name 0 within in
    let lacks : Lacks c (before_first is_dot name ++ (middle ∷ after_first is_dot name)) =
    All-both P (before_first is_dot name) (middle ∷ after_first is_dot name) (name_lacks c bad 20 (before_first is_dot name) parts.0) (differs, name_lacks c bad 16 (after_first is_dot name) parts.1) in
    subst (Lacks c) (sym joined) lacks

-- a full name has no zero byte, and fits the field of a table file
no_zero : (x : ℕ) → x ≢ 0 → is_zero x ≡ false
no_zero x h = grind (arith, nat_tests, h)

zero_place : (bytes : List ℕ) → Lacks 0 bytes → position_or_len is_zero bytes ≡ length bytes
zero_place [] lacks = refl
zero_place (x ∷ xs) lacks =
    ap (λ b. cond (not b) (1 + position_or_len is_zero xs) 0) (no_zero x lacks.0) ∙ ap (λ n. 1 + n) (zero_place xs lacks.1) ∙ omega arith

pub lacks_no_zero : (bytes : List ℕ) → Lacks 0 bytes → name_in bytes ≡ bytes
lacks_no_zero bytes lacks = ap (λ n. take n bytes) (zero_place bytes lacks) ∙ take-length bytes

pub full_reads : (name : List ℕ) → is_full_name name ≡ true → name_in name ≡ name
full_reads name e = lacks_no_zero name (full_name_lacks 0 refl (omega arith) name e)

within_most : (most : ℕ) (name : List ℕ) → is_name_within most name ≡ true → length name ≤ most
within_most most name e = leb-true (length name) most (and_parts (is_name name) _ e).1

pub full_within : (name : List ℕ) → is_full_name name ≡ true → length name ≤ 40
full_within name e =
    let parts = and_parts (is_name_within 20 (before_first is_dot name)) _ e in
    let within = dot_within name e in
    let first : length (before_first is_dot name) ≤ 20 = within_most 20 (before_first is_dot name) parts.0 in
    let second : length (after_first is_dot name) ≤ 16 = within_most 16 (after_first is_dot name) parts.1 in
    omega (arith, within, first, second, length-take (position_or_len is_dot name) name, length-drop (position_or_len is_dot name + 1) name)
