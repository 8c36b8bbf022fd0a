-- Fields that hold a name and then zeros.
use Rattle.std.proofs.Common.{◌≡◌, ℕ, zero, suc, ◌-◌, ◌<◌, ◌≤◌, Bool, true, false, not, ◌&&◌, List, [], ◌∷◌, ◌++◌, length, get_or, take, drop, refl, sym, ap, ◌∙◌, arith}
use Rattle.std.specs.Prelude.{replicate}
use Rattle.std.specs.List.{list_all, position_or_len}
use Rattle.std.proofs.lemmas.Bool.{eq-eqb, eqb-true}
use Rattle.std.proofs.lemmas.Slice.Eq.{bytes_eq-Decides}
use Rattle.std.proofs.lemmas.List.{drop-replicate, get_or_append_left, get_or-append_right, get_or-replicate, length-append, length-drop, length-replicate, length-take, take-append-drop}
use Rattle.std.proofs.lemmas.List.Sums.{position_or_len_is, prefix_len-le-length, fails_before_first}
use Rattle.std.proofs.Math.Seq.{take-append_seam, drop-append_seam}
use Rattle.std.specs.Str.{bytes_eq}
use Rattle.tbl_kinds.specs.Names.{is_zero, name_in, name_field, HasNoZero, HoldsName}
use Rattle.tbl_kinds.specs.Records.{FitsField}
use Rattle.tbl_kinds.proofs.Names.{reads_itself}
use Rattle.tbl_kinds.specs.Heads.{is_name_field}

pub length-name_field : (width : ℕ) (name : List ℕ) → FitsField width name → length (name_field width name) ≡ width
length-name_field width name fits = omega (arith, length-append name (replicate (width - length name) 0), length-replicate {A = ℕ} (width - length name) 0, fits.within)

-- where no byte is zero, each byte fails the test
no_zero_before : (name : List ℕ) (k : ℕ) → HasNoZero name → k < length name → is_zero (get_or name k 0) ≡ false
no_zero_before name k none lt =
    let len : length (name_in name) ≡ length name = ap length none in
    fails_before_first is_zero name k 0 (omega (arith, len, length-take (position_or_len is_zero name) name))

-- the byte after the name is zero
behind_name : (width : ℕ) (name : List ℕ) → FitsField width name → length name < length (name_field width name) → get_or (name_field width name) (length name) 0 ≡ 0
behind_name width name fits lt =
    let here = get_or-append_right name (replicate (width - length name) 0) (length name) (length name) 0 refl (omega arith) in
    here ∙ get_or-replicate (width - length name) (length name - length name) 0 0 (omega (arith, lt, length-name_field width name fits))

-- a written field reads as its name
pub name_in-name_field : (width : ℕ) (name : List ℕ) → FitsField width name → name_in (name_field width name) ≡ name
name_in-name_field width name fits =
    let zeros : List ℕ = replicate (width - length name) 0 in
    let len : length (name ++ zeros) ≡ width = length-name_field width name fits in
    let first : position_or_len is_zero (name ++ zeros) ≡ length name =
    position_or_len_is is_zero (name ++ zeros) (length name) 0 (omega (arith, fits.within))
    (λ k lt. rw (get_or_append_left name zeros 0 k lt) (no_zero_before name k fits.no_zero lt))
    (λ lt. eq-eqb _ 0 (behind_name width name fits lt)) in
    ap (λ (n : ℕ). take n (name ++ zeros)) first ∙ take-append_seam name zeros

list_all-zeros : (n : ℕ) → list_all is_zero (replicate n 0) ≡ true
list_all-zeros zero = refl
list_all-zeros (suc n) = list_all-zeros n

-- and is one
pub is_name_field-name_field : (width : ℕ) (name : List ℕ) → FitsField width name → is_name_field (name_field width name) ≡ true
is_name_field-name_field width name fits =
    let zeros = replicate (width - length name) 0 in
    let behind : drop (length (name_in (name ++ zeros))) (name ++ zeros) ≡ zeros =
    ap (λ (s : List ℕ). drop (length s) (name ++ zeros)) (name_in-name_field width name fits) ∙ drop-append_seam name zeros in
    ap (list_all is_zero) behind ∙ list_all-zeros (width - length name)

and_true : (a b : Bool) → (a && b) ≡ true → (a ≡ true) × (b ≡ true)
and_true true b e = (refl, e)
and_true false b e = absurd cc

zeros_again : (xs : List ℕ) → list_all is_zero xs ≡ true → replicate (length xs) 0 ≡ xs
zeros_again [] e = refl
zeros_again (x ∷ xs) e =
    let both = and_true (is_zero x) (list_all is_zero xs) e in
    let zero_first = eqb-true x 0 both.0 in
    let zeros_behind = zeros_again xs both.1 in
    cc

-- such a field is what is written for the name that it reads as
pub name_field-name_in : (field : List ℕ) → is_name_field field ≡ true → name_field (length field) (name_in field) ≡ field
name_field-name_in field is =
    let n = length (name_in field) in
    let first : n ≡ position_or_len is_zero field = omega (arith, length-take (position_or_len is_zero field) field, prefix_len-le-length (λ b. not (is_zero b)) field) in
    let name : take n field ≡ name_in field = ap (λ (k : ℕ). take k field) first in
    let zeros : replicate (length field - n) 0 ≡ drop n field = ap (λ (k : ℕ). replicate k 0) (sym (length-drop n field)) ∙ zeros_again (drop n field) is in
    ap (λ (s : List ℕ). name_in field ++ s) zeros ∙ ap (λ (s : List ℕ). s ++ drop n field) (sym name) ∙ take-append-drop n field

-- the same, of a field and the name that was read from it
pub written_again : (width : ℕ) (field name : List ℕ) → name ≡ name_in field → length field ≡ width → list_all is_zero (drop (length name) field) ≡ true → name_field width name ≡ field
written_again width field name name-is len zeros =
    rw (sym len, name-is) (name_field-name_in field (ap (λ (s : List ℕ). list_all is_zero (drop (length s) field)) (sym name-is) ∙ zeros))

-- ---- names as they are kept

-- a name in front of zeros
pub before_zeros : (width : ℕ) (name : List ℕ) → length name ≤ width → HasNoZero name → HoldsName width (length name) (name ++ drop (length name) (replicate {A = ℕ} width 0))
before_zeros width name within none =
    let front : take (length name) (name_field width name) ≡ name = take-append_seam name (replicate (width - length name) 0) in
    rw (drop-replicate {X = ℕ} (length name) width 0) (record {
      within = within;
      no_zero = rw front none;
      written = ap (name_field width) front;
    })

-- a field that reads as a name with zeros after it
pub whole_field : (width : ℕ) (field name : List ℕ) → name ≡ name_in field → length field ≡ width → list_all is_zero (drop (length name) field) ≡ true → HoldsName width (length name) field
whole_field width field name name-is len zeros =
    let first : length name ≡ position_or_len is_zero field =
    omega (arith, ap (λ (s : List ℕ). length s) name-is, length-take (position_or_len is_zero field) field, prefix_len-le-length (λ b. not (is_zero b)) field) in
    let front : take (length name) field ≡ name = ap (λ (n : ℕ). take n field) first ∙ sym name-is in
    record {
      within = omega (arith, len, first, prefix_len-le-length (λ b. not (is_zero b)) field);
      no_zero = rw (front, name-is) (reads_itself field);
      written = ap (name_field width) front ∙ written_again width field name name-is len zeros;
    }

fits_field : (width len : ℕ) (field : List ℕ) → HoldsName width len field → FitsField width (take len field)
fits_field width len field holds = record { within = omega (arith, holds.within, length-take len field); no_zero = holds.no_zero }

read_back : (width len : ℕ) (field : List ℕ) → HoldsName width len field → name_in field ≡ take len field
read_back width len field holds = ap name_in (sym holds.written) ∙ name_in-name_field width (take len field) (fits_field width len field holds)

same_truth : (a b : Bool) → (a ≡ true → b ≡ true) → (b ≡ true → a ≡ true) → a ≡ b
same_truth true b there back = sym (there refl)
same_truth false true there back = back refl
same_truth false false there back = refl

-- two names are the same where their fields are
pub same_fields : (width n m : ℕ) (f g : List ℕ) → HoldsName width n f → HoldsName width m g → bytes_eq f g ≡ bytes_eq (take n f) (take m g)
same_fields width n m f g one other =
    let fields = bytes_eq-Decides f g in
    let names = bytes_eq-Decides (take n f) (take m g) in
    same_truth (bytes_eq f g) (bytes_eq (take n f) (take m g))
    (λ e. names.1 (sym (read_back width n f one) ∙ ap name_in (fields.0 e) ∙ read_back width m g other))
    (λ e. fields.1 (sym one.written ∙ ap (name_field width) (names.0 e) ∙ other.written))

-- ---- a field and what follows it

pub read_again : (bytes : List ℕ) → 64 ≤ length bytes → is_name_field (take 64 bytes) ≡ true → name_field 64 (name_in (take 64 bytes)) ≡ take 64 bytes
read_again bytes long is =
    let len : length (take 64 bytes) ≡ 64 = omega (arith, length-take 64 bytes, long) in
    written_again 64 (take 64 bytes) (name_in (take 64 bytes)) refl len is

pub spelled : (width : ℕ) (bytes : List ℕ) → name_field width (name_in (take width bytes)) ≡ take width bytes → bytes ≡ name_field width (name_in (take width bytes)) ++ drop width bytes
spelled width bytes is = sym (ap (λ (s : List ℕ). s ++ drop width bytes) is ∙ take-append-drop width bytes)

pub read_fits : (width : ℕ) (bytes : List ℕ) → FitsField width (name_in (take width bytes))
read_fits width bytes = record {
  within = omega (arith, length-take (position_or_len is_zero (take width bytes)) (take width bytes), length-take width bytes);
  no_zero = reads_itself (take width bytes);
}
