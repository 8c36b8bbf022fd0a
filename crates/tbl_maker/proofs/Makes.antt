-- The lines of a description, and the first bad one of a text.
use Rattle.std.proofs.Common.{◌≡◌, ℕ, ◌+◌, ◌-◌, ◌<◌, ◌≤◌, List, [], ◌∷◌, ◌++◌, length, map, take, drop, true, refl, sym, ap, ◌∙◌, arith, append_assoc}
use Rattle.std.specs.List.{flat_map}
use Rattle.std.specs.Prelude.{codes}
use Rattle.std.specs.Fmt.{decimal}
use Rattle.std.proofs.lemmas.List.{length-append, length-take, take-append-drop}
use Rattle.std.proofs.lemmas.Grind.{flat_map-append}
use Rattle.std.proofs.lemmas.Fmt.{decimal_injective}
use Rattle.tbl_kinds.specs.TableFiles.{table_file}
use Rattle.tbl_maker.specs.Names.{is_full_name}
use Rattle.tbl_maker.specs.Fields.{Field, AreFields, field_line, field_bytes, image_of}
use Rattle.tbl_maker.specs.Descriptions.{Description, IsDescription, table_line, offset_line, lines_of, ended, text_of, made_header, file_of}
use Rattle.tbl_maker.specs.Making.{IsMadeOf, BeginsOne}
use Rattle.tbl_maker.specs.Lines.{Lacks}
use Rattle.tbl_maker.specs.Parts.{ReadsTable, ReadsOffset, ReadsFields}
use Rattle.tbl_maker.proofs.Parting.{one_split, joined, Lacks-all}
use Rattle.tbl_maker.proofs.Digits.{IsDecimalDigit, decimal_digits}
use Rattle.tbl_maker.proofs.FullNames.{full_name_lacks}
use Rattle.tbl_maker.proofs.Images.{some_more}

-- ---- lines

pub ended_is : (l x : List ℕ) → ended l ++ x ≡ l ++ 10 ∷ x
ended_is l x = append_assoc l (10 ∷ []) x

pub table_line_lacks : (name : List ℕ) → is_full_name name ≡ true → Lacks 10 (table_line name)
table_line_lacks name h =
    let name_lacks : Lacks 10 name = full_name_lacks 10 refl (omega arith) name h in
    (omega arith, (omega arith, (omega arith, (omega arith, (omega arith, (omega arith, name_lacks))))))

pub offset_line_lacks : (offset : ℕ) → offset < 16384 → Lacks 10 (offset_line offset)
offset_line_lacks offset h =
    let digits : Lacks 10 (decimal offset) = Lacks-all IsDecimalDigit 10 (λ (d : IsDecimalDigit 10). omega (arith, d.0)) (decimal offset) (decimal_digits offset (omega arith)) in
    (omega arith, (omega arith, (omega arith, (omega arith, (omega arith, (omega arith, (omega arith, digits)))))))

pub table_name : (a b : List ℕ) → table_line a ≡ table_line b → a ≡ b
table_name a b e = cc

pub offset_digits : (a b : List ℕ) → codes "offset " ++ a ≡ codes "offset " ++ b → a ≡ b
offset_digits a b e = cc

offset_number : (a b : ℕ) → a < 16384 → b < 16384 → offset_line a ≡ offset_line b → a ≡ b
offset_number a b ha hb e = let digits : decimal a ≡ decimal b = cc in decimal_injective a b (omega arith) (omega arith) digits

-- ---- the text of a description

-- after its first two lines
pub text_parts : (d : Description) → text_of d ≡ table_line d.name ++ 10 ∷ (offset_line d.offset ++ 10 ∷ joined 10 field_line d.fields)
text_parts d =
    ended_is (table_line d.name) (ended (offset_line d.offset) ++ joined 10 field_line d.fields)
    ∙ ap (λ (l : List ℕ). table_line d.name ++ 10 ∷ l) (ended_is (offset_line d.offset) (joined 10 field_line d.fields))

small_by : (fields : List Field) (offset : ℕ) → 0 < length fields → AreFields fields → offset + length (image_of fields) ≤ 16384 → offset < 16384
small_by [] offset some good fits = absurd (omega (arith, some))
small_by (f ∷ fields) offset some good fits = omega (arith, fits, some_more f good.0, length-append (field_bytes f) (image_of fields))

pub offset_small : (d : Description) → IsDescription d → d.offset < 16384
offset_small d h = small_by d.fields d.offset h.some h.are_fields h.fits

-- what follows the first two lines, for a description that begins so
pub same_heads : (name after rest : List ℕ) (offset : ℕ) (d : Description) (tail text : List ℕ)
    → ReadsTable text name rest → ReadsOffset rest after offset
    → is_full_name d.name ≡ true → d.offset < 16384
    → text ≡ table_line d.name ++ 10 ∷ (offset_line d.offset ++ 10 ∷ tail)
    → (name ≡ d.name) × (offset ≡ d.offset) × (after ≡ tail)
same_heads name after rest offset d tail text table at good small e =
    let first = one_split 10 (table_line name) (table_line d.name) rest (offset_line d.offset ++ 10 ∷ tail) (table_line_lacks name table.is_name) (table_line_lacks d.name good) (sym table.text_is ∙ e) in
    let second = one_split 10 (offset_line offset) (offset_line d.offset) after tail (offset_line_lacks offset at.fits) (offset_line_lacks d.offset small) (sym at.text_is ∙ first.1) in
    (table_name name d.name first.0, offset_number offset d.offset at.fits small second.0, second.1)

-- ---- the first lines of a description

pub peel : (l : List ℕ) (ls first others : List (List ℕ)) → l ∷ ls ≡ first ++ others → 0 < length first → (more : List (List ℕ)) × (first ≡ l ∷ more) × (ls ≡ more ++ others)
peel l ls [] others e h = absurd (omega (arith, h))
peel l ls (x ∷ more) others e h = let same : l ≡ x = cc in let left : ls ≡ more ++ others = cc in (more, ap (λ y. y ∷ more) (sym same), left)

pub peel_text : (l text rest : List ℕ) (first more : List (List ℕ)) → first ≡ l ∷ more → text ≡ flat_map ended first ++ rest → text ≡ l ++ 10 ∷ (flat_map ended more ++ rest)
peel_text l text rest first more e is =
    is ∙ ap (λ ls. flat_map ended ls ++ rest) e ∙ append_assoc (ended l) (flat_map ended more) rest ∙ ended_is l (flat_map ended more ++ rest)

pub map_split : (fields : List Field) (a b : List (List ℕ)) → map field_line fields ≡ a ++ b → (ys : List Field) × (zs : List Field) × (fields ≡ ys ++ zs) × (map field_line ys ≡ a)
map_split fields [] b e = ([], fields, refl, refl)
map_split [] (x ∷ a) b e = absurd (cc)
map_split (f ∷ fields) (x ∷ a) b e =
    let line : field_line f ≡ x = cc in
    let left : map field_line fields ≡ a ++ b = cc in
    let rest = map_split fields a b left in
    (f ∷ rest.0, rest.1, ap (λ l. f ∷ l) rest.2, λ i. line i ∷ rest.3 i)

-- a text that begins with all lines of a list begins with the first so many
pub begins : (text : List ℕ) (d : Description) → IsDescription d → (first others : List (List ℕ)) → lines_of d ≡ first ++ others → (rest : List ℕ) → text ≡ flat_map ended first ++ rest → (m : ℕ) → m ≤ length first → BeginsOne text m
begins text d h first others lines rest is m le =
    let parted : take m first ++ drop m first ≡ first = take-append-drop m first in
    record {
      description = d;
      is_description = h;
      first = take m first;
      others = drop m first ++ others;
      lines = lines ∙ ap (λ l. l ++ others) (sym parted) ∙ append_assoc (take m first) (drop m first) others;
      count_is = omega (arith, length-take m first);
      rest = flat_map ended (drop m first) ++ rest;
      text_is =
          is ∙ ap (λ l. flat_map ended l ++ rest) (sym parted)
          ∙ ap (λ l. l ++ rest) (flat_map-append ended (take m first) (drop m first))
          ∙ append_assoc (flat_map ended (take m first)) (flat_map ended (drop m first)) rest;
    }

-- ---- what is made

pub made_of : (text name rest after image file : List ℕ) (offset : ℕ) → ReadsTable text name rest → ReadsOffset rest after offset → ReadsFields after image (16384 - offset)
    → file ≡ table_file made_header (record { offset = offset; name = name; image = image }) → IsMadeOf text file
unfolding file_of
made_of text name rest after image file offset table at read is =
    let d : Description = record { name = name; offset = offset; fields = read.fields } in
    let len : length image ≡ length (image_of read.fields) = ap length read.image_is in
    record {
      description = d;
      is_description = record { name = table.is_name; some = read.some; are_fields = read.are_fields; fits = omega (arith, at.fits, read.fits, len) };
      text_is =
          table.text_is ∙ ap (λ (l : List ℕ). table_line name ++ 10 ∷ l) (at.text_is ∙ ap (λ (l : List ℕ). offset_line offset ++ 10 ∷ l) read.text_is)
          ∙ sym (text_parts d);
      file_is = is ∙ ap (λ bytes. table_file made_header (record { offset = offset; name = name; image = bytes })) read.image_is;
    }
