-- Names have no zero byte, and neither has what a field reads as.
use Rattle.std.proofs.Common.{◌≡◌, ℕ, zero, suc, ◌+◌, ◌<◌, ◌≤◌, ◌==◌, ◌&&◌, not, cond, true, false, List, [], ◌∷◌, length, get_or, take, drop, refl, ap, sym, ◌∙◌, arith}
use Rattle.std.proofs.lemmas.Bool.{and_parts, ne_eqb}
use Rattle.std.proofs.lemmas.List.{get_or-take, length-take}
use Rattle.std.proofs.lemmas.List.Sums.{position_or_len_is, fails_before_first, count_by-le-length, sum_by-cons}
use Rattle.std.proofs.Math.Dec.{eqb-suc-suc, eqb-suc-zero}
use Rattle.std.proofs.Math.Seq.{take-length}
use Rattle.std.specs.List.{count_by, list_all, position_or_len}
use Rattle.tbl_kinds.specs.Names.{is_zero, is_printable_byte, name_in, HasNoZero}

-- where no byte is zero, the first zero stands at the end
no_zero_at : (bytes : List ℕ) → ((k : ℕ) → k < length bytes → is_zero (get_or bytes k 0) ≡ false) → HasNoZero bytes
no_zero_at bytes none =
    let e = position_or_len_is is_zero bytes (length bytes) 0 (omega arith) none (λ h. absurd (omega (arith, h))) in
    ap (λ n. take n bytes) e ∙ take-length bytes

pub reads_itself : (field : List ℕ) → HasNoZero (name_in field)
reads_itself field =
    no_zero_at (name_in field) (λ k h.
    let lt : k < position_or_len is_zero field = omega (arith, length-take (position_or_len is_zero field) field) in
    rw (get_or-take (position_or_len is_zero field) field k 0 lt) (fails_before_first is_zero field k 0 lt))

-- a byte that can be printed isn't zero
printable_not_zero : (b : ℕ) → is_printable_byte b ≡ true → is_zero b ≡ false
printable_not_zero zero e = absurd cc
printable_not_zero (suc b) e = eqb-suc-zero b

pub printable_no_zero : (name : List ℕ) → list_all is_printable_byte name ≡ true → HasNoZero name
printable_no_zero [] e = refl
printable_no_zero (b ∷ name) e =
    let both = and_parts (is_printable_byte b) (list_all is_printable_byte name) e in
    let next : 1 + position_or_len is_zero name ≡ suc (position_or_len is_zero name) = omega arith in
    rw (printable_not_zero b both.0, next) (ap (λ (l : List ℕ). b ∷ l) (printable_no_zero name both.1))

-- ---- zeros alone after a name, by how many zeros there are

fewer : (n m : ℕ) → n ≤ m → (n == suc m) ≡ false
fewer n m within = ne_eqb n (suc m) (λ e. absurd (omega (arith, within, e)))

count_zero : (bytes : List ℕ) → count_by is_zero (zero ∷ bytes) ≡ suc (count_by is_zero bytes)
count_zero bytes = omega (arith, sum_by-cons (λ b. cond (is_zero b) 1 0) zero bytes)

count_other : (b : ℕ) (bytes : List ℕ) → count_by is_zero (suc b ∷ bytes) ≡ count_by is_zero bytes
count_other b bytes =
    let no : cond {A = ℕ} (is_zero (suc b)) 1 0 ≡ 0 = ap (λ p. cond {A = ℕ} p 1 0) (eqb-suc-zero b) in
    omega (arith, no, sum_by-cons (λ b. cond (is_zero b) 1 0) (suc b) bytes)

all_counted : (bytes : List ℕ) → (count_by is_zero bytes == length bytes) ≡ list_all is_zero bytes
all_counted [] = refl
all_counted (zero ∷ bytes) = ap (λ n. n == suc (length bytes)) (count_zero bytes) ∙ eqb-suc-suc (count_by is_zero bytes) (length bytes) ∙ all_counted bytes
all_counted (suc b ∷ bytes) =
    ap (λ n. n == suc (length bytes)) (count_other b bytes)
    ∙ fewer (count_by is_zero bytes) (length bytes) (count_by-le-length is_zero bytes)
    ∙ sym (ap (λ p. p && list_all is_zero bytes) (eqb-suc-zero b))

pub zeros_alone : (field : List ℕ) → (position_or_len is_zero field + count_by is_zero field == length field) ≡ list_all is_zero (drop (position_or_len is_zero field) field)
zeros_alone [] = refl
zeros_alone (zero ∷ field) =
    let count : 0 + count_by is_zero (zero ∷ field) ≡ count_by is_zero (zero ∷ field) = omega arith in
    ap (λ n. n == suc (length field)) count ∙ all_counted (zero ∷ field)
zeros_alone (suc b ∷ field) =
    let first = position_or_len is_zero field in
    let one_more : position_or_len is_zero (suc b ∷ field) ≡ 1 + first = ap (λ p. cond (not p) (1 + first) 0) (eqb-suc-zero b) in
    let next : position_or_len is_zero (suc b ∷ field) ≡ suc first = omega (arith, one_more) in
    let count : position_or_len is_zero (suc b ∷ field) + count_by is_zero (suc b ∷ field) ≡ suc (first + count_by is_zero field) = omega (arith, one_more, count_other b field) in
    ap (λ n. n == suc (length field)) count
    ∙ eqb-suc-suc (first + count_by is_zero field) (length field)
    ∙ zeros_alone field
    ∙ sym (ap (λ n. list_all is_zero (drop n (suc b ∷ field))) next)
