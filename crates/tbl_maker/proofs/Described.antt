-- Descriptions and files: the description of a file, and the file of a description.
use Rattle.std.proofs.Common.{◌≡◌, ℕ, ◌+◌, ◌<◌, ◌≤◌, List, [], ◌∷◌, ◌++◌, length, map, take, drop, true, None, refl, sym, ap, ◌∙◌, arith, append_assoc}
use Rattle.std.specs.Prelude.{◌==◌, ◌&&◌, nat_lt, nat_le, is_none}
use Rattle.std.specs.List.{flat_map}
use Rattle.std.proofs.lemmas.List.{length-append, length-drop}
use Rattle.std.proofs.lemmas.List.Sums.{sum_by-cons}
use Rattle.std.proofs.lemmas.Bool.{and_parts, and_from, le-leb, lt-ltb, leb-true, ltb-true}
use Rattle.std.proofs.lemmas.Bool.Decides.{nat_tests}
use Rattle.std.proofs.Math.Seq.{take-append_seam, drop-append_seam}
use Rattle.tbl_kinds.specs.Headers.{Header}
use Rattle.tbl_kinds.specs.Admitted.{Admitted, Admits, all_admitted}
use Rattle.tbl_kinds.specs.TableFiles.{TableFile, IsWritable, file_flaw, table_file, table_file_in}
use Rattle.table_files.specs.Files.{with_image}
use Rattle.table_files.specs.declared.reading.TableFile as files
use Rattle.tbl_maker.specs.Names.{is_full_name}
use Rattle.tbl_maker.specs.Types.{size_of}
use Rattle.tbl_maker.specs.Values.{type_of}
use Rattle.tbl_maker.specs.Fields.{Field, AreFields, form_of, field_line, field_bytes, image_of}
use Rattle.tbl_maker.specs.Shapes.{form_size, shape_size}
use Rattle.tbl_maker.specs.Descriptions.{Description, IsDescription, ended, table_line, offset_line, made_header, text_of, shape_of, contents_of, file_of}
use Rattle.tbl_maker.specs.Making.{IsMadeOf}
use Rattle.tbl_maker.specs.Parts.{PutsFields}
use Rattle.tbl_maker.specs.Describing.{has_description, is_describable, count_in, describe_fault, IsDescribedBy}
use Rattle.tbl_maker.specs.declared.form.Form.{Form}
use Rattle.tbl_maker.proofs.Values.{length-bytes_of, bytes_injective}
use Rattle.tbl_maker.proofs.FullNames.{full_reads, full_within}
use Rattle.tbl_maker.proofs.Images.{some_more}
use Rattle.tbl_maker.proofs.BadLines.{text_unique}

-- ---- sizes

pub shape_bytes : (fields : List Field) → length (image_of fields) ≡ shape_size (map form_of fields)
shape_bytes [] = refl
shape_bytes (f ∷ fields) =
    length-append (field_bytes f) (image_of fields) ∙ ap (λ n. n + length (image_of fields)) (length-bytes_of f.value) ∙ ap (λ n. form_size (form_of f) + n) (shape_bytes fields)
    ∙ sym (sum_by-cons form_size (form_of f) (map form_of fields))

some_image : (fields : List Field) → 0 < length fields → AreFields fields → 0 < length (image_of fields)
some_image [] some good = absurd (omega (arith, some))
some_image (f ∷ fields) some good = omega (arith, some_more f good.0, length-append (field_bytes f) (image_of fields))

-- ---- the file of a description

-- what the crate of table files says of each written file
pub record Laws : Type 0 where
  pub accepted : (admit : Admitted) (header : Header) (file : TableFile) → IsWritable header file → Admits admit header → file_flaw admit (table_file header file) ≡ None
  pub same : (header : Header) (file : TableFile) → IsWritable header file → table_file_in (table_file header file) ≡ file

pub made_writable : (d : Description) → IsDescription d → IsWritable made_header (contents_of d)
made_writable d h = record {
  is_header = record { subtype_fits = omega arith; length_fits = omega arith; spacecraft_fits = omega arith; processor_fits = omega arith; application_fits = omega arith; seconds_fits = omega arith; sub_fits = omega arith; description_fills = refl };
  subtype = refl;
  offset_fits = omega (arith, h.fits);
  image_fits = omega (arith, h.fits);
  name_fits = full_within d.name h.name;
  no_zero = full_reads d.name h.name;
}

pub made_accepted : (laws : Laws) (d : Description) → IsDescription d → file_flaw all_admitted (file_of d) ≡ None
unfolding file_of
made_accepted laws d h = laws.accepted all_admitted made_header (contents_of d) (made_writable d h) (record { spacecraft = refl; processor = refl })

pub made_same : (laws : Laws) (d : Description) → IsDescription d → table_file_in (file_of d) ≡ contents_of d
unfolding file_of
made_same laws d h = laws.same made_header (contents_of d) (made_writable d h)

describes : (d : Description) → IsDescription d → has_description (contents_of d) ≡ true
describes d h =
    let some : nat_lt 0 (length (image_of d.fields)) ≡ true = lt-ltb 0 (length (image_of d.fields)) (some_image d.fields h.some h.are_fields) in
    let fits : nat_le (d.offset + length (image_of d.fields)) 16384 ≡ true = le-leb (d.offset + length (image_of d.fields)) 16384 h.fits in
    and_from (is_full_name d.name && nat_lt 0 (length (image_of d.fields))) _ (and_from (is_full_name d.name) _ h.name some) fits

equal_counts : (m n : ℕ) → m ≡ n → (m == n) ≡ true
equal_counts m n e = grind (arith, nat_tests, e)

pub made_no_fault : (laws : Laws) (d : Description) → IsDescription d → describe_fault (shape_of d) (file_of d) ≡ None
made_no_fault laws d h =
    let describable : is_describable (file_of d) ≡ true = and_from (is_none (file_flaw all_admitted (file_of d))) _ (ap is_none (made_accepted laws d h)) (ap has_description (made_same laws d h) ∙ describes d h) in
    let counts : (shape_size (shape_of d) == count_in (file_of d)) ≡ true = equal_counts (shape_size (shape_of d)) (count_in (file_of d)) (sym (shape_bytes d.fields) ∙ ap (λ (file : TableFile). length file.image) (sym (made_same laws d h))) in
    rw (describable, counts) refl

pub made_described : (laws : Laws) (d : Description) → IsDescription d → IsDescribedBy (shape_of d) (file_of d) (text_of d)
made_described laws d h = record { description = d; is_description = h; shape_is = refl; contents_are = sym (made_same laws d h); text_is = refl }

-- ---- one description of a shape and contents

same_image : (fs gs : List Field) → AreFields fs → AreFields gs → map form_of fs ≡ map form_of gs → image_of fs ≡ image_of gs → fs ≡ gs
same_image [] [] hf hg forms images = refl
same_image [] (g ∷ gs) hf hg forms images = absurd (cc)
same_image (f ∷ fs) [] hf hg forms images = absurd (cc)
same_image (f ∷ fs) (g ∷ gs) hf hg forms images =
    let first : form_of f ≡ form_of g = cc in
    let others : map form_of fs ≡ map form_of gs = cc in
    let kinds : type_of f.value ≡ type_of g.value = ap (λ (form : Form). form.kind) first in
    let names : f.name ≡ g.name = ap (λ (form : Form). form.name) first in
    let sizes : length (field_bytes f) ≡ length (field_bytes g) = length-bytes_of f.value ∙ ap size_of kinds ∙ sym (length-bytes_of g.value) in
    let bytes : field_bytes f ≡ field_bytes g = sym (take-append_seam (field_bytes f) (image_of fs)) ∙ ap (take (length (field_bytes f))) images ∙ ap (λ n. take n (field_bytes g ++ image_of gs)) sizes ∙ take-append_seam (field_bytes g) (image_of gs) in
    let left : image_of fs ≡ image_of gs = sym (drop-append_seam (field_bytes f) (image_of fs)) ∙ ap (drop (length (field_bytes f))) images ∙ ap (λ n. drop n (field_bytes g ++ image_of gs)) sizes ∙ drop-append_seam (field_bytes g) (image_of gs) in
    let values = bytes_injective f.value g.value hf.0.value hg.0.value kinds bytes in
    let rest = same_image fs gs hf.1 hg.1 others left in
    λ i. record { name = names i; value = values i } ∷ rest i

pub contents_unique : (d e : Description) → IsDescription d → IsDescription e → shape_of d ≡ shape_of e → contents_of d ≡ contents_of e → d ≡ e
contents_unique d e hd he shapes contents =
    let fields = same_image d.fields e.fields hd.are_fields he.are_fields shapes (ap (λ (file : TableFile). file.image) contents) in
    let names = ap (λ (file : TableFile). file.name) contents in
    let offsets = ap (λ (file : TableFile). file.offset) contents in
    λ i. record { name = names i; offset = offsets i; fields = fields i }

pub only_text : (laws : Laws) (d : Description) (text : List ℕ) → IsDescription d → IsDescribedBy (shape_of d) (file_of d) text → text ≡ text_of d
only_text laws d text h by =
    let same : by.description ≡ d = contents_unique by.description d by.is_description h by.shape_is (by.contents_are ∙ made_same laws d h) in
    by.text_is ∙ ap text_of same

-- ---- the file again

same_description : (shape : List Form) (bytes text made : List ℕ) → (by : IsDescribedBy shape bytes text) → (of : IsMadeOf text made) → of.description ≡ by.description
same_description shape bytes text made by of = text_unique of.description by.description of.is_description by.is_description (sym of.text_is ∙ by.text_is)

pub again_accepted : (laws : Laws) (shape : List Form) (bytes text made : List ℕ) → IsDescribedBy shape bytes text → IsMadeOf text made → file_flaw all_admitted made ≡ None
again_accepted laws shape bytes text made by of = ap (file_flaw all_admitted) of.file_is ∙ made_accepted laws of.description of.is_description

pub again_same : (laws : Laws) (shape : List Form) (bytes text made : List ℕ) → IsDescribedBy shape bytes text → IsMadeOf text made → table_file_in made ≡ table_file_in bytes
again_same laws shape bytes text made by of =
    ap table_file_in of.file_is ∙ made_same laws of.description of.is_description ∙ ap contents_of (same_description shape bytes text made by of) ∙ by.contents_are

-- ---- describing

-- a file without a flaw is described where its parts can be
pub describable_is : (bytes : List ℕ) (file : files.TableFile) → file_flaw all_admitted bytes ≡ None → with_image file (drop 116 bytes) ≡ table_file_in bytes → 116 + file.count ≡ length bytes
    → is_describable bytes ≡ (is_full_name file.name && nat_lt 0 file.count && nat_le (file.offset + file.count) 16384)
describable_is bytes file flaw same count =
    let image : length (drop 116 bytes) ≡ file.count = omega (arith, count, length-drop 116 bytes) in
    ap (λ f. is_none f && has_description (table_file_in bytes)) flaw
    ∙ ap has_description (sym same)
    ∙ ap (λ n. is_full_name file.name && nat_lt 0 n && nat_le (file.offset + n) 16384) image

parts_of : (file : TableFile) → has_description file ≡ true → (is_full_name file.name ≡ true) × (0 < length file.image) × (file.offset + length file.image ≤ 16384)
parts_of file e =
    let last = and_parts (is_full_name file.name && nat_lt 0 (length file.image)) (nat_le (file.offset + length file.image) 16384) e in
    let first = and_parts (is_full_name file.name) (nat_lt 0 (length file.image)) last.0 in
    (first.0, ltb-true 0 (length file.image) first.1, leb-true (file.offset + length file.image) 16384 last.1)

some_fields : (fields : List Field) → 0 < length (image_of fields) → 0 < length fields
some_fields [] h = absurd (omega (arith, h))
some_fields (f ∷ fields) h = omega arith

-- the lines that were written are those of a description
pub described_by : (shape : List Form) (bytes : List ℕ) (file : files.TableFile) (image head text : List ℕ) → is_describable bytes ≡ true → with_image file image ≡ table_file_in bytes
    → head ≡ ended (table_line file.name) ++ ended (offset_line file.offset) → PutsFields shape image head text → IsDescribedBy shape bytes text
described_by shape bytes file image head text good same put puts =
    let told : has_description (with_image file image) ≡ true = ap has_description same ∙ (and_parts (is_none (file_flaw all_admitted bytes)) (has_description (table_file_in bytes)) good).1 in
    let parts = parts_of (with_image file image) told in
    let len : length (image_of puts.fields) ≡ length image = ap length puts.image_is in
    let d : Description = record { name = file.name; offset = file.offset; fields = puts.fields } in
    record {
      description = d;
      is_description = record { name = parts.0; some = some_fields puts.fields (omega (arith, len, parts.1)); are_fields = puts.are_fields; fits = omega (arith, len, parts.2) };
      shape_is = puts.forms_are;
      contents_are = ap (with_image file) puts.image_is ∙ same;
      text_is =
          puts.text_is ∙ ap (λ (l : List ℕ). l ++ flat_map ended (map field_line puts.fields)) put
          ∙ append_assoc (ended (table_line file.name)) (ended (offset_line file.offset)) (flat_map ended (map field_line puts.fields));
    }
