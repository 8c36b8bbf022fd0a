-- Name fields in a body, and a body as the fields one after the other.
use Rattle.std.proofs.Common.{◌≡◌, ℕ, ◌+◌, ◌≤◌, true, List, [], ◌++◌, length, take, drop, sym, ap, ◌∙◌, arith}
use Rattle.std.proofs.lemmas.List.{append-nil, drop-drop, take_at, drop_at, length-drop, length-take, nil_from_length}
use Rattle.tbl_kinds.specs.Numbers.{piece}
use Rattle.tbl_kinds.specs.Names.{is_zero, name_in, name_field}
use Rattle.tbl_kinds.specs.Heads.{is_name_field, has_name}
use Rattle.tbl_kinds.specs.Records.{FitsField}
use Rattle.tbl_kinds.proofs.Names.{reads_itself}
use Rattle.tbl_kinds.proofs.NameFields.{length-name_field, name_in-name_field, is_name_field-name_field, name_field-name_in}
use Rattle.cfe_headers.proofs.Pieces.{split_piece, length-piece}
use Rattle.std.specs.List.{position_or_len}
use Rattle.tlm_packets.specs.Reading.{name_at}

-- ---- a field that was written

-- the field at a place is the one of this name, and the rest stands after it
pub record Written (place width : ℕ) (name rest body : List ℕ) : Type 0 where
  pub right : has_name place width body ≡ true
  pub name_is : name_at place width body ≡ name
  pub behind : drop (place + width) body ≡ rest

pub written : (place width : ℕ) (name rest body : List ℕ) → FitsField width name → drop place body ≡ name_field width name ++ rest → Written place width name rest body
written place width name rest body fits e =
    let len = length-name_field width name fits in
    let field : piece place width body ≡ name_field width name = ap (take width) e ∙ take_at (name_field width name) rest width len in
    record {
      right = ap is_name_field field ∙ is_name_field-name_field width name fits;
      name_is = ap name_in field ∙ name_in-name_field width name fits;
      behind = sym (drop-drop width place body) ∙ ap (drop width) e ∙ drop_at (name_field width name) rest width len;
    }

-- the last field, with nothing after it
pub written_last : (place width : ℕ) (name body : List ℕ) → FitsField width name → drop place body ≡ name_field width name → Written place width name [] body
written_last place width name body fits e = written place width name [] body fits (e ∙ sym (append-nil (name_field width name)))

-- ---- a field that is read

-- the body from a place on is the field of the name that is read there, and the rest
pub split_name : (place width : ℕ) (body : List ℕ) → place + width ≤ length body → has_name place width body ≡ true → drop place body ≡ name_field width (name_at place width body) ++ drop (place + width) body
split_name place width body le right =
    let again : name_field width (name_at place width body) ≡ piece place width body =
    ap (λ (n : ℕ). name_field n (name_at place width body)) (sym (length-piece place width body le)) ∙ name_field-name_in (piece place width body) right in
    split_piece place width body ∙ ap (λ (s : List ℕ). s ++ drop (place + width) body) (sym again)

pub split_last : (place width : ℕ) (body : List ℕ) → place + width ≡ length body → has_name place width body ≡ true → drop place body ≡ name_field width (name_at place width body)
split_last place width body len right =
    let none : drop (place + width) body ≡ [] = nil_from_length (drop (place + width) body) (omega (arith, len, length-drop (place + width) body)) in
    split_name place width body (omega (arith, len)) right ∙ ap (λ (s : List ℕ). name_field width (name_at place width body) ++ s) none ∙ append-nil (name_field width (name_at place width body))

-- the name that is read fits
pub name_fits : (place width : ℕ) (body : List ℕ) → FitsField width (name_at place width body)
name_fits place width body = record {
  within = omega (arith, length-take (position_or_len is_zero (piece place width body)) (piece place width body), length-take width (drop place body));
  no_zero = reads_itself (piece place width body);
}
