-- Which line of a text is the first bad one.
use Rattle.std.proofs.Common.{◌≡◌, ℕ, ◌+◌, ◌-◌, ◌<◌, ◌≤◌, inl, inr, List, [], ◌∷◌, ◌++◌, length, map, true, refl, sym, ap, ◌∙◌, subst, arith, append_assoc}
use Rattle.std.specs.Prelude.{Result, Ok, Err, IfOk, IfErr, codes}
use Rattle.std.specs.List.{flat_map}
use Rattle.std.proofs.lemmas.List.{length-append, append-nil, length-map}
use Rattle.std.proofs.lemmas.Grind.{flat_map-append}
use Rattle.std.proofs.lemmas.Bool.{cases_lt}
use Rattle.tbl_kinds.specs.Buffers.{Buffer}
use Rattle.tbl_maker.specs.Names.{is_full_name}
use Rattle.tbl_maker.specs.Values.{hex}
use Rattle.tbl_maker.specs.Fields.{Field, IsField, AreFields, field_line, field_bytes, image_of}
use Rattle.tbl_maker.specs.Descriptions.{Description, IsDescription, table_line, offset_line, lines_of, ended, text_of, file_of}
use Rattle.tbl_maker.specs.Making.{IsMadeOf, BeginsOne, IsLeastBadLine, TellsLine, Makes}
use Rattle.tbl_maker.specs.Parts.{ReadsTable, IsNoTable, ReadsOffset, IsNoOffset, AddsNone, StopsAfter, StopsAt}
use Rattle.tbl_maker.specs.declared.making.MakeFault.{MakeFault}
use Rattle.tbl_maker.specs.declared.making.MakeFault.TheVariants.{Line, Memory}
use Rattle.tbl_maker.proofs.Parting.{one_split, joined, agree, All-front, All-after}
use Rattle.tbl_maker.proofs.Fields.{line_lacks, field_unique}
use Rattle.tbl_maker.proofs.Makes.{text_parts, offset_small, same_heads, peel, peel_text, map_split, begins, ended_is, table_line_lacks}

-- ---- some descriptions

-- a field of one byte
abbrev filler : Field
filler = record { name = 97 ∷ []; value = hex (0 ∷ []) }

filler_good : IsField filler
filler_good = record { name = refl; value = record { some = omega arith; few = omega arith; are_bytes = (omega arith, tt) } }

abbrev filled : List ℕ → ℕ → Description
filled name offset = record { name = name; offset = offset; fields = filler ∷ [] }

filled_good : (name : List ℕ) (offset : ℕ) → is_full_name name ≡ true → offset < 16384 → IsDescription (filled name offset)
filled_good name offset good small = record { name = good; some = omega arith; are_fields = (filler_good, tt); fits = omega (arith, small) }

-- each text begins with no line of a description
begins_none : (text : List ℕ) → BeginsOne text 0
begins_none text = begins text (filled (codes "A.T") 0) (filled_good (codes "A.T") 0 refl (omega arith)) [] (lines_of (filled (codes "A.T") 0)) refl text refl 0 (omega arith)

below_one : (n : ℕ) → n < 1 → n ≡ 0
below_one n h = omega (arith, h)

-- ---- the first line

begins_table : (text : List ℕ) (n : ℕ) → 0 < n → (b : BeginsOne text n) → (after : List ℕ) × (text ≡ table_line b.description.name ++ 10 ∷ after)
begins_table text n some b =
    let found = peel (table_line b.description.name) _ b.first b.others b.lines (omega (arith, b.count_is, some)) in
    (flat_map ended found.0 ++ b.rest, peel_text (table_line b.description.name) text b.rest b.first found.0 found.1 b.text_is)

pub first_bad : (text : List ℕ) → IsNoTable text → IsLeastBadLine text 1
first_bad text none = record {
  no_description = λ d h e. none d.name (offset_line d.offset ++ 10 ∷ joined 10 field_line d.fields) h.name (e ∙ text_parts d);
  bad = λ b. let found = begins_table text 1 (omega arith) b in none b.description.name found.0 b.is_description.name found.1;
  least = λ n h. subst (BeginsOne text) (sym (below_one n h)) (begins_none text);
}

-- ---- the second line

begins_two : (text : List ℕ) (n : ℕ) → 1 < n → (b : BeginsOne text n)
    → (more : List (List ℕ)) × (text ≡ table_line b.description.name ++ 10 ∷ (offset_line b.description.offset ++ 10 ∷ (flat_map ended more ++ b.rest)))
    × (map field_line b.description.fields ≡ more ++ b.others) × (length more + 2 ≡ n)
begins_two text n some b =
    let one = peel (table_line b.description.name) _ b.first b.others b.lines (omega (arith, b.count_is, some)) in
    let len : length b.first ≡ length (table_line b.description.name ∷ one.0) = ap length one.1 in
    let two = peel (offset_line b.description.offset) _ one.0 b.others one.2 (omega (arith, b.count_is, some, len)) in
    let lens : length one.0 ≡ length (offset_line b.description.offset ∷ two.0) = ap length two.1 in
    let after : flat_map ended one.0 ++ b.rest ≡ offset_line b.description.offset ++ 10 ∷ (flat_map ended two.0 ++ b.rest) = peel_text (offset_line b.description.offset) (flat_map ended one.0 ++ b.rest) b.rest one.0 two.0 two.1 refl in (
      two.0,
      peel_text (table_line b.description.name) text b.rest b.first one.0 one.1 b.text_is ∙ ap (λ (l : List ℕ). table_line b.description.name ++ 10 ∷ l) after,
      two.2,
      omega (arith, b.count_is, len, lens),
    )

no_offset : (text name rest : List ℕ) (d : Description) (tail : List ℕ) → ReadsTable text name rest → IsNoOffset rest → IsDescription d → text ≡ table_line d.name ++ 10 ∷ (offset_line d.offset ++ 10 ∷ tail) → ⊥
no_offset text name rest d tail table none h e =
    let first = one_split 10 (table_line name) (table_line d.name) rest (offset_line d.offset ++ 10 ∷ tail) (table_line_lacks name table.is_name) (table_line_lacks d.name h.name) (sym table.text_is ∙ e) in
    none d.offset tail (offset_small d h) first.1

table_only : (text name rest : List ℕ) → ReadsTable text name rest → (n : ℕ) → n < 2 → BeginsOne text n
table_only text name rest table n h =
    begins text (filled name 0) (filled_good name 0 table.is_name (omega arith)) (table_line name ∷ []) (offset_line 0 ∷ field_line filler ∷ []) refl rest
    (table.text_is ∙ sym (ended_is (table_line name) rest) ∙ ap (λ l. l ++ rest) (sym (append-nil (ended (table_line name))))) n (omega (arith, h))

pub second_bad : (text name rest : List ℕ) → ReadsTable text name rest → IsNoOffset rest → IsLeastBadLine text 2
second_bad text name rest table none = record {
  no_description = λ d h e. no_offset text name rest d (joined 10 field_line d.fields) table none h (e ∙ text_parts d);
  bad = λ b. let found = begins_two text 2 (omega arith) b in no_offset text name rest b.description (flat_map ended found.0 ++ b.rest) table none b.is_description found.1;
  least = table_only text name rest table;
}

-- ---- a further line

image_parts : (xs ys zs : List Field) → length (image_of ((xs ++ ys) ++ zs)) ≡ length (image_of xs) + length (image_of ys) + length (image_of zs)
image_parts xs ys zs =
    ap length (flat_map-append field_bytes (xs ++ ys) zs ∙ ap (λ l. l ++ image_of zs) (flat_map-append field_bytes xs ys))
    ∙ length-append (image_of xs ++ image_of ys) (image_of zs) ∙ ap (λ n. n + length (image_of zs)) (length-append (image_of xs) (image_of ys))

next_is : (rest tail : List ℕ) (used room : ℕ) (more : List Field) → AreFields more → 0 < length more → rest ≡ joined 10 field_line more ++ tail → AddsNone rest used room → used + length (image_of more) ≤ room → ⊥
next_is rest tail used room [] good some e none fits = omega (arith, some)
next_is rest tail used room (g ∷ more) good some e none fits =
    none g (joined 10 field_line more ++ tail) good.0 (e ∙ append_assoc (ended (field_line g)) (joined 10 field_line more) tail ∙ ended_is (field_line g) (joined 10 field_line more ++ tail))
    (omega (arith, fits, length-append (field_bytes g) (image_of more)))

no_lines : (more : List Field) (rest : List ℕ) → [] ≡ joined 10 field_line more ++ rest → more ≡ []
no_lines [] rest e = refl
no_lines (g ∷ more) rest e =
    let len : 0 ≡ length (field_line g ++ 10 ∷ (joined 10 field_line more ++ rest)) = ap length (e ∙ append_assoc (ended (field_line g)) (joined 10 field_line more) rest ∙ ended_is (field_line g) (joined 10 field_line more ++ rest)) in
    absurd (omega (arith, len, length-append (field_line g) (10 ∷ (joined 10 field_line more ++ rest))))

ends_here : (ds fs more : List Field) (rest : List ℕ) (count : ℕ) → 0 < length ds → length fs ≡ count → fs ≡ ds ++ more → [] ≡ joined 10 field_line more ++ rest → (rest ≡ [] → count ≡ 0) → ⊥
ends_here ds fs more rest count some same parted e none =
    let gone : more ≡ [] = no_lines more rest e in
    let left : [] ≡ rest = e ∙ ap (λ xs. joined 10 field_line xs ++ rest) gone in
    let zero : count ≡ 0 = none (sym left) in
    let len : length fs ≡ length ds + length more = ap length parted ∙ length-append ds more in
    omega (arith, some, same, zero, len)

-- no field's line stands where the fields stop
no_more : (after : List ℕ) (offset count : ℕ) (d : Description) (ys zs : List Field) (tail : List ℕ) → (stops : StopsAfter after count (16384 - offset)) → IsDescription d → offset ≡ d.offset
    → d.fields ≡ ys ++ zs → after ≡ joined 10 field_line ys ++ tail → count < length ys → ⊥
no_more after offset count d ys zs tail stops h same parted e longer =
    let good : AreFields ys = All-front IsField ys zs (subst AreFields parted h.are_fields) in
    let found = agree field_line IsField 10 line_lacks field_unique stops.fields ys stops.rest tail stops.are_fields good (sym stops.text_is ∙ e) (omega (arith, stops.count_is, longer)) in
    let image : length (image_of d.fields) ≡ length (image_of stops.fields) + length (image_of found.0) + length (image_of zs) =
    ap (λ fields. length (image_of fields)) (parted ∙ ap (λ fields. fields ++ zs) found.1) ∙ image_parts stops.fields found.0 zs in
    let len : length ys ≡ length stops.fields + length found.0 = ap length found.1 ∙ length-append stops.fields found.0 in
    next_is stops.rest tail (length (image_of stops.fields)) (16384 - offset) found.0
    (All-after IsField stops.fields found.0 (subst AreFields found.1 good)) (omega (arith, len, stops.count_is, longer)) found.2 stops.no_further
    (omega (arith, image, h.fits, same, offset_small d h))

all_short : (after : List ℕ) (offset count : ℕ) (d : Description) → (stops : StopsAfter after count (16384 - offset)) → IsDescription d → after ≡ joined 10 field_line d.fields → length d.fields ≤ count → ⊥
all_short after offset count d stops h e shorter =
    let found = agree field_line IsField 10 line_lacks field_unique d.fields stops.fields [] stops.rest h.are_fields stops.are_fields (append-nil (joined 10 field_line d.fields) ∙ sym e ∙ stops.text_is) (omega (arith, stops.count_is, shorter)) in
    ends_here d.fields stops.fields found.0 stops.rest count h.some stops.count_is found.1 found.2 stops.ends_at_none

-- all fields of a description, and then nothing, isn't where they stop
not_all : (after : List ℕ) (offset count : ℕ) (d : Description) → (stops : StopsAfter after count (16384 - offset)) → IsDescription d → offset ≡ d.offset
    → after ≡ joined 10 field_line d.fields → ⊥
not_all after offset count d stops h same e =
    elim (cases_lt count (length d.fields)) [
      | inl longer ↦ no_more after offset count d d.fields [] [] stops h same (sym (append-nil d.fields)) (e ∙ sym (append-nil (joined 10 field_line d.fields))) longer
      | inr shorter ↦ all_short after offset count d stops h e shorter
    ]

two_lines : (a b x rest : List ℕ) → (ended a ++ (ended b ++ x)) ++ rest ≡ a ++ 10 ∷ (b ++ 10 ∷ (x ++ rest))
two_lines a b x rest =
    append_assoc (ended a) (ended b ++ x) rest ∙ ended_is a ((ended b ++ x) ++ rest)
    ∙ ap (λ (l : List ℕ). a ++ 10 ∷ l) (append_assoc (ended b) x rest ∙ ended_is b (x ++ rest))

lines_so_far : (text name rest after : List ℕ) (offset : ℕ) (fields : List Field) (tail : List ℕ) → ReadsTable text name rest → ReadsOffset rest after offset → after ≡ joined 10 field_line fields ++ tail
    → text ≡ flat_map ended (table_line name ∷ offset_line offset ∷ map field_line fields) ++ tail
lines_so_far text name rest after offset fields tail table at is =
    table.text_is ∙ ap (λ (l : List ℕ). table_line name ++ 10 ∷ l) (at.text_is ∙ ap (λ (l : List ℕ). offset_line offset ++ 10 ∷ l) is)
    ∙ sym (two_lines (table_line name) (offset_line offset) (joined 10 field_line fields) tail)

least_by : (text name rest after : List ℕ) (offset : ℕ) (fields : List Field) (tail : List ℕ) → ReadsTable text name rest → ReadsOffset rest after offset → after ≡ joined 10 field_line fields ++ tail
    → AreFields fields → length (image_of fields) ≤ 16384 - offset → (n : ℕ) → n < length fields + 3 → BeginsOne text n
least_by text name rest after offset [] tail table at is good fits n h =
    begins text (filled name offset) (filled_good name offset table.is_name at.fits) (table_line name ∷ offset_line offset ∷ []) (field_line filler ∷ []) refl tail
    (lines_so_far text name rest after offset [] tail table at is) n (omega (arith, h))
least_by text name rest after offset (f ∷ fields) tail table at is good fits n h =
    let d : Description = record { name = name; offset = offset; fields = f ∷ fields } in
    let right : IsDescription d = record { name = table.is_name; some = omega arith; are_fields = good; fits = omega (arith, fits, at.fits) } in
    begins text d right (lines_of d) [] (sym (append-nil (lines_of d))) tail
    (lines_so_far text name rest after offset (f ∷ fields) tail table at is) n (omega (arith, h, length-map (f ∷ fields) field_line))

pub third_bad : (text name rest after : List ℕ) (offset count : ℕ) → ReadsTable text name rest → ReadsOffset rest after offset → StopsAfter after count (16384 - offset) → IsLeastBadLine text (count + 3)
third_bad text name rest after offset count table at stops = record {
  no_description = λ d h e.
      let same = same_heads name after rest offset d (joined 10 field_line d.fields) text table at h.name (offset_small d h) (e ∙ text_parts d) in
      not_all after offset count d stops h same.1 same.2;
  bad = λ b.
      let d = b.description in
      let two = begins_two text (count + 3) (omega arith) b in
      let same = same_heads name after rest offset d (flat_map ended two.0 ++ b.rest) text table at b.is_description.name (offset_small d b.is_description) two.1 in
      let parts = map_split d.fields two.0 b.others two.2 in
      let len : length parts.0 ≡ length two.0 = sym (length-map parts.0 field_line) ∙ ap length parts.3 in
      no_more after offset count d parts.0 parts.1 b.rest stops b.is_description same.1 parts.2
      (same.2 ∙ ap (λ ls. flat_map ended ls ++ b.rest) (sym parts.3)) (omega (arith, len, two.3));
  least = λ n h. least_by text name rest after offset stops.fields stops.rest table at stops.text_is stops.are_fields stops.fits n (omega (arith, h, stops.count_is));
}

-- ---- the answers of the calls

pub tells_line : (text name rest after : List ℕ) (offset : ℕ) → ReadsTable text name rest → ReadsOffset rest after offset → (fault : MakeFault) → StopsAt after (16384 - offset) fault → TellsLine text fault
tells_line text name rest after offset table at (Line number) stops = subst (IsLeastBadLine text) (sym stops.1) (third_bad text name rest after offset stops.0 table at stops.2)
tells_line text name rest after offset table at Memory stops = tt

-- ---- one description of a text

fields_unique : (xs ys : List Field) → AreFields xs → AreFields ys → length xs ≤ length ys → joined 10 field_line xs ≡ joined 10 field_line ys → xs ≡ ys
fields_unique xs ys gx gy le e =
    let found = agree field_line IsField 10 line_lacks field_unique xs ys [] [] gx gy (append-nil (joined 10 field_line xs) ∙ e ∙ sym (append-nil (joined 10 field_line ys))) le in
    let gone : found.0 ≡ [] = no_lines found.0 [] found.2 in
    sym (found.1 ∙ ap (λ more. xs ++ more) gone ∙ append-nil xs)

same_fields : (xs ys : List Field) → AreFields xs → AreFields ys → joined 10 field_line xs ≡ joined 10 field_line ys → xs ≡ ys
same_fields xs ys gx gy e =
    elim (cases_lt (length ys) (length xs)) [
      | inl longer ↦ sym (fields_unique ys xs gy gx (omega (arith, longer)) (sym e))
      | inr shorter ↦ fields_unique xs ys gx gy shorter e
    ]

pub text_unique : (d e : Description) → IsDescription d → IsDescription e → text_of d ≡ text_of e → d ≡ e
text_unique d e hd he same =
    let table : ReadsTable (text_of d) d.name (offset_line d.offset ++ 10 ∷ joined 10 field_line d.fields) = record { is_name = hd.name; text_is = text_parts d } in
    let at : ReadsOffset (offset_line d.offset ++ 10 ∷ joined 10 field_line d.fields) (joined 10 field_line d.fields) d.offset = record { fits = offset_small d hd; text_is = refl } in
    let found = same_heads d.name (joined 10 field_line d.fields) (offset_line d.offset ++ 10 ∷ joined 10 field_line d.fields) d.offset e (joined 10 field_line e.fields) (text_of d) table at he.name (offset_small e he) (same ∙ text_parts e) in
    let fields = same_fields d.fields e.fields hd.are_fields he.are_fields found.2 in
    λ i. record { name = found.0 i; offset = found.1 i; fields = fields i }

pub makes : (result : Result Buffer MakeFault) (text : List ℕ) → IfOk result (λ file. IsMadeOf text file.list) → IfErr result (λ fault. TellsLine text fault) → (d : Description) → IsDescription d → text ≡ text_of d → Makes result (file_of d)
makes (Ok made) text ok err d h e = ok.file_is ∙ ap file_of (text_unique ok.description d ok.is_description h (sym ok.text_is ∙ e))
makes (Err (Line number)) text ok err d h e = err.no_description d h e
makes (Err Memory) text ok err d h e = tt
