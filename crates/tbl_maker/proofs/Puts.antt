-- Writing values and fields.
use Rattle.std.proofs.Common.{◌≡◌, ℕ, suc, ◌+◌, ◌<◌, List, [], ◌∷◌, ◌++◌, length, get_or, map, take, drop, true, refl, sym, ap, ◌∙◌, arith, append_assoc, ℤ}
use Rattle.std.specs.Prelude.{nat_lt, nat_le}
use Rattle.std.specs.List.{AllByRecursion, flat_map}
use Rattle.std.specs.Int.{to_be_bytes, cast_unsigned}
use Rattle.std.specs.Fmt.{signed_decimal}
use Rattle.std.proofs.lemmas.List.{length-append, append-nil, map-append, take_more}
use Rattle.std.proofs.lemmas.List.Sums.{sum_by-drop_more}
use Rattle.std.proofs.lemmas.Grind.{flat_map-append}
use Rattle.std.proofs.lemmas.Bool.{and_parts, ltb-true, leb-true}
use Rattle.tbl_maker.specs.Names.{is_field_name}
use Rattle.tbl_maker.specs.Types.{width_of, type_word}
use Rattle.tbl_maker.specs.Values.{number, hex, IsByte, IsInRange, hex_pair, type_of, value_text}
use Rattle.tbl_maker.specs.Fields.{Field, form_of, field_line, field_bytes, image_of}
use Rattle.tbl_maker.specs.Shapes.{is_type, is_form, form_size, shape_size}
use Rattle.tbl_maker.specs.Descriptions.{ended}
use Rattle.tbl_maker.specs.Parts.{PutsValue, PutsField}
use Rattle.tbl_maker.specs.declared.form.Form.{Form}
use Rattle.tbl_maker.specs.declared.field_type.Sign.{Sign}
use Rattle.tbl_maker.specs.declared.field_type.Width.{Width}
use Rattle.tbl_maker.specs.declared.field_type.FieldType.TheVariants.{Number, Hex}
use Rattle.tbl_maker.proofs.Images.{image_push}

pub bytes_from_index : (bytes : List ℕ) → ((i : ℕ) → get_or bytes i 0 < 256) → AllByRecursion IsByte bytes
bytes_from_index [] all = tt
bytes_from_index (b ∷ bytes) all = (all 0, bytes_from_index bytes (λ i. all (suc i)))

pub puts_number : (sign : Sign) (width : Width) (z : ℤ) (bytes old new : List ℕ) → IsInRange sign width z → to_be_bytes (width_of width) (cast_unsigned (width_of width) z) ≡ bytes → new ≡ old ++ signed_decimal z → PutsValue (Number sign width) bytes old new
puts_number sign width z bytes old new fits are put = record {
  value = number sign width z;
  is_value = fits;
  type_is = refl;
  bytes_are = are;
  text_is = put;
}

pub puts_hex : (len : ℕ) (bytes old new : List ℕ) → is_type (Hex len) ≡ true → length bytes ≡ len → ((i : ℕ) → get_or bytes i 0 < 256) → new ≡ old ++ flat_map hex_pair bytes → PutsValue (Hex len) bytes old new
puts_hex len bytes old new good same all put =
    let parts = and_parts (nat_lt 0 len) (nat_le len 64) good in
    record {
      value = hex bytes;
      is_value = record { some = omega (arith, same, ltb-true 0 len parts.0); few = omega (arith, same, leb-true len 64 parts.1); are_bytes = bytes_from_index bytes all };
      type_is = ap Hex same;
      bytes_are = refl;
      text_is = put;
    }

chain : (old word name text : List ℕ) → (((((old ++ word) ++ 32 ∷ []) ++ name) ++ 32 ∷ []) ++ text) ++ 10 ∷ [] ≡ old ++ ((word ++ (32 ∷ (name ++ (32 ∷ text)))) ++ 10 ∷ [])
chain old word name text = simp append_assoc

-- what was written piece by piece
pub puts_field : (form : Form) (bytes old new a b c d e : List ℕ) → is_form form ≡ true
    → a ≡ old ++ type_word form.kind → b ≡ a ++ 32 ∷ [] → c ≡ b ++ form.name → d ≡ c ++ 32 ∷ [] → PutsValue form.kind bytes d e → new ≡ e ++ 10 ∷ []
    → PutsField form bytes old new
puts_field form bytes old new a b c d e good ea eb ec ed put en =
    let parts = and_parts (is_type form.kind) (is_field_name form.name) good in
    let f : Field = record { name = form.name; value = put.value } in
    let word = type_word form.kind in
    let line : type_word (type_of put.value) ++ (32 ∷ (form.name ++ (32 ∷ value_text put.value))) ≡ word ++ (32 ∷ (form.name ++ (32 ∷ value_text put.value)))
    = ap (λ kind. type_word kind ++ (32 ∷ (form.name ++ (32 ∷ value_text put.value)))) put.type_is in
    record {
      field = f;
      is_field = record { name = parts.1; value = put.is_value };
      form_is = λ i. record { kind = put.type_is i; name = form.name };
      bytes_are = put.bytes_are;
      text_is =
          en ∙ ap (λ (l : List ℕ). l ++ 10 ∷ []) (put.text_is ∙ ap (λ (l : List ℕ). l ++ value_text put.value) (ed ∙ ap (λ (l : List ℕ). l ++ 32 ∷ []) (ec ∙ ap (λ (l : List ℕ). l ++ form.name) (eb ∙ ap (λ (l : List ℕ). l ++ 32 ∷ []) ea))))
          ∙ chain old word form.name (value_text put.value)
          ∙ ap (λ (l : List ℕ). old ++ (l ++ 10 ∷ [])) (sym line);
    }

-- one field more
pub fields_push : (fields : List Field) (f : Field) (old so_far new : List ℕ) → so_far ≡ old ++ flat_map ended (map field_line fields) → new ≡ so_far ++ ended (field_line f) → new ≡ old ++ flat_map ended (map field_line (fields ++ f ∷ []))
fields_push fields f old so_far new is put =
    put ∙ ap (λ (l : List ℕ). l ++ ended (field_line f)) is ∙ append_assoc old (flat_map ended (map field_line fields)) (ended (field_line f))
    ∙ ap (λ (l : List ℕ). old ++ l) (sym (flat_map-append ended (map field_line fields) (field_line f ∷ []) ∙ ap (λ (l : List ℕ). flat_map ended (map field_line fields) ++ l) (append-nil (ended (field_line f))))
    ∙ ap (flat_map ended) (sym (map-append field_line fields (f ∷ []))))

pub forms_push : (fields : List Field) (f : Field) → map form_of (fields ++ f ∷ []) ≡ map form_of fields ++ form_of f ∷ []
forms_push fields f = map-append form_of fields (f ∷ [])

pub image_next : (fields : List Field) (f : Field) (image rest piece after : List ℕ) → image ≡ image_of fields ++ rest → rest ≡ piece ++ after → field_bytes f ≡ piece → image ≡ image_of (fields ++ f ∷ []) ++ after
image_next fields f image rest piece after is parted has =
    is ∙ ap (λ (l : List ℕ). image_of fields ++ l) (parted ∙ ap (λ (l : List ℕ). l ++ after) (sym has))
    ∙ sym (append_assoc (image_of fields) (field_bytes f) after) ∙ ap (λ (l : List ℕ). l ++ after) (sym (image_push fields f))

pub forms_next : (fields : List Field) (f : Field) (forms : List Form) (form : Form) (i : ℕ) → i < length forms → map form_of fields ≡ take i forms → form_of f ≡ form → form ≡ get_or forms i form → map form_of (fields ++ f ∷ []) ≡ take (i + 1) forms
forms_next fields f forms form i within are of is =
    forms_push fields f ∙ ap (λ (l : List Form). l ++ form_of f ∷ []) are ∙ ap (λ x. take i forms ++ x ∷ []) (of ∙ is) ∙ sym (take_more forms i form within)

pub left_next : (forms : List Form) (form : Form) (i : ℕ) (rest piece after : List ℕ) → i < length forms → form ≡ get_or forms i form → rest ≡ piece ++ after → length piece ≡ form_size form → shape_size (drop i forms) ≡ length rest → shape_size (drop (i + 1) forms) ≡ length after
left_next forms form i rest piece after within is parted size left =
    let len : length rest ≡ length piece + length after = ap length parted ∙ length-append piece after in
    omega (arith, left, len, size, ap form_size is, sum_by-drop_more form_size forms i form within)
