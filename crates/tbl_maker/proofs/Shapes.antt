-- Shapes: the one form of a word, and the one shape.
use Rattle.std.proofs.Common.{◌≡◌, ◌≢◌, ℕ, ◌+◌, ◌<◌, ◌≤◌, ◌^◌, inl, inr, List, [], ◌∷◌, ◌++◌, length, true, false, refl, sym, ap, ◌∙◌, subst, arith, append_assoc}
use Rattle.std.specs.Prelude.{codes, nat_lt, nat_le, ◌&&◌}
use Rattle.std.specs.Fmt.{decimal}
use Rattle.std.specs.List.{AllByRecursion, list_all}
use Rattle.std.proofs.lemmas.List.{length-append, append-nil}
use Rattle.std.proofs.lemmas.List.Sums.{sum_by-append, sum_by-cons}
use Rattle.std.proofs.lemmas.List.Folds.{list_all-append}
use Rattle.std.proofs.lemmas.Bool.{and_parts, and_from, leb-true, ltb-true, cases_lt}
use Rattle.std.proofs.lemmas.Fmt.{decimal_injective}
use Rattle.tbl_maker.specs.Names.{is_field_name}
use Rattle.tbl_maker.specs.Types.{sign_letter, width_digits, sized_word}
use Rattle.tbl_maker.specs.Shapes.{is_type, is_form, form_size, form_word, shape_size, is_shape, shape_word}
use Rattle.tbl_maker.specs.Lines.{Lacks, IsSplit}
use Rattle.tbl_maker.specs.Parts.{IsNoCount}
use Rattle.tbl_maker.specs.Words.{IsNoType, IsNoForm, AddsNoForm, IsNoShape}
use Rattle.tbl_maker.specs.declared.form.Form.{Form}
use Rattle.tbl_maker.specs.declared.field_type.Sign.{Sign}
use Rattle.tbl_maker.specs.declared.field_type.Sign.TheVariants.{Unsigned, Signed}
use Rattle.tbl_maker.specs.declared.field_type.Width.{Width}
use Rattle.tbl_maker.specs.declared.field_type.Width.TheVariants.{One, Two, Four}
use Rattle.tbl_maker.specs.declared.field_type.FieldType.{FieldType}
use Rattle.tbl_maker.specs.declared.field_type.FieldType.TheVariants.{Number, Hex}
use Rattle.tbl_maker.proofs.Parting.{All-both, All-after, Lacks-all, All-test, one_split, no_split, joined, agree, regroup}
use Rattle.tbl_maker.proofs.Digits.{IsGraphic, IsDecimalDigit, decimal_digits, digits_graphic}
use Rattle.tbl_maker.proofs.Values.{sign_letter_injective, width_digits_injective, letter_not_h, letter_graphic, width_graphic}
use Rattle.tbl_maker.proofs.Fields.{field_name_lacks}

-- ---- the word of a type

hex_parts : (len : ℕ) → is_type (Hex len) ≡ true → (0 < len) × (len ≤ 64)
hex_parts len good = let parts = and_parts (nat_lt 0 len) (nat_le len 64) good in (ltb-true 0 len parts.0, leb-true len 64 parts.1)

word_graphic : (kind : FieldType) → is_type kind ≡ true → AllByRecursion IsGraphic (sized_word kind)
word_graphic (Number sign width) good = (letter_graphic sign, width_graphic width)
word_graphic (Hex len) good =
    let few : len < 2 ^ 64 = omega (arith, (hex_parts len good).1) in
    (omega arith, (omega arith, (omega arith, digits_graphic (decimal len) (decimal_digits len few))))

not_colon : (width : Width) → Lacks 58 (width_digits width)
not_colon One = (omega arith, tt)
not_colon Two = (omega arith, (omega arith, tt))
not_colon Four = (omega arith, (omega arith, tt))

letter_no_colon : (sign : Sign) → sign_letter sign ≢ 58
letter_no_colon Unsigned e = omega (arith, e)
letter_no_colon Signed e = omega (arith, e)

pub word_lacks : (kind : FieldType) → is_type kind ≡ true → Lacks 58 (sized_word kind)
word_lacks (Number sign width) good = (letter_no_colon sign, not_colon width)
word_lacks (Hex len) good =
    let few : len < 2 ^ 64 = omega (arith, (hex_parts len good).1) in
    let digits : Lacks 58 (decimal len) = Lacks-all IsDecimalDigit 58 (λ (d : IsDecimalDigit 58). omega (arith, d.1)) (decimal len) (decimal_digits len few) in
    (omega arith, (omega arith, (omega arith, digits)))

pub kind_unique : (a b : FieldType) → is_type a ≡ true → is_type b ≡ true → sized_word a ≡ sized_word b → a ≡ b
kind_unique (Number s v) (Number t w) ga gb e =
    let letters : sign_letter s ≡ sign_letter t = cc in
    let digits : width_digits v ≡ width_digits w = cc in
    let signs : s ≡ t = sign_letter_injective s t letters in
    let widths : v ≡ w = width_digits_injective v w digits in
    cc
kind_unique (Number s v) (Hex n) ga gb e = let first : sign_letter s ≡ 104 = cc in absurd (letter_not_h s first)
kind_unique (Hex m) (Number t w) ga gb e = let first : sign_letter t ≡ 104 = cc in absurd (letter_not_h t first)
kind_unique (Hex m) (Hex n) ga gb e =
    let digits : decimal m ≡ decimal n = cc in
    ap Hex (decimal_injective m n (omega (arith, (hex_parts m ga).1)) (omega (arith, (hex_parts n gb).1)) digits)

-- a word that begins with hex
pub no_hex_type : (word digits : List ℕ) → word ≡ codes "hex" ++ digits → IsNoCount digits 65 → IsNoType word
no_hex_type word digits is none (Number sign width) good e = let first : sign_letter sign ≡ 104 = cc in letter_not_h sign first
no_hex_type word digits is none (Hex len) good e = let same : digits ≡ decimal len = cc in none len (omega (arith, (hex_parts len good).1)) same

pub zero_hex : (word digits : List ℕ) → word ≡ codes "hex" ++ digits → digits ≡ decimal 0 → IsNoType word
zero_hex word digits is zero (Number sign width) good e = let first : sign_letter sign ≡ 104 = cc in letter_not_h sign first
zero_hex word digits is zero (Hex len) good e =
    let same : decimal 0 ≡ decimal len = cc in
    let none : 0 ≡ len = decimal_injective 0 len (omega arith) (omega (arith, (hex_parts len good).1)) same in
    omega (arith, none, (hex_parts len good).0)

-- ---- the word of a form

form_parts : (form : Form) → is_form form ≡ true → (is_type form.kind ≡ true) × (is_field_name form.name ≡ true)
form_parts form good = and_parts (is_type form.kind) (is_field_name form.name) good

pub no_colon : (word : List ℕ) → Lacks 58 word → IsNoForm word
no_colon word lacks form good e = no_split 58 word (sized_word form.kind) form.name lacks e

cut : (word kind name : List ℕ) (form : Form) → IsSplit 58 word kind name → is_form form ≡ true → word ≡ form_word form → (kind ≡ sized_word form.kind) × (name ≡ form.name)
cut word kind name form split good e = one_split 58 kind (sized_word form.kind) name form.name split.first (word_lacks form.kind (form_parts form good).0) (sym split.parts ∙ e)

pub no_kind : (word kind name : List ℕ) → IsSplit 58 word kind name → IsNoType kind → IsNoForm word
no_kind word kind name split none form good e = none form.kind (form_parts form good).0 (cut word kind name form split good e).0

pub no_name : (word kind name : List ℕ) → IsSplit 58 word kind name → is_field_name name ≡ false → IsNoForm word
no_name word kind name split bad form good e =
    let same : is_field_name name ≡ true = ap is_field_name (cut word kind name form split good e).1 ∙ (form_parts form good).1 in
    cc

pub form_unique : (a b : Form) → is_form a ≡ true → is_form b ≡ true → form_word a ≡ form_word b → a ≡ b
form_unique a b ga gb e =
    let pa = form_parts a ga in
    let pb = form_parts b gb in
    let parts = one_split 58 (sized_word a.kind) (sized_word b.kind) a.name b.name (word_lacks a.kind pa.0) (word_lacks b.kind pb.0) e in
    let kinds = kind_unique a.kind b.kind pa.0 pb.0 parts.0 in
    λ i. record { kind = kinds i; name = parts.1 i }

pub adds_no_room : (word : List ℕ) (form : Form) (room : ℕ) → word ≡ form_word form → is_form form ≡ true → room < form_size form → AddsNoForm word room
adds_no_room word form room is good over other right e fits =
    let same : form ≡ other = form_unique form other good right (sym is ∙ e) in
    omega (arith, over, fits, ap form_size same)

-- ---- the word of a shape

abbrev IsGood : Form → Type 0
IsGood form = is_form form ≡ true

comma_lacks : (form : Form) → is_form form ≡ true → Lacks 44 (form_word form)
comma_lacks form good =
    let parts = form_parts form good in
    let low : (xs : List ℕ) → AllByRecursion IsGraphic xs → Lacks 44 xs = Lacks-all IsGraphic 44 (λ (h : 44 < 44). omega (arith, h)) in
    All-both (λ b. b ≢ 44) (sized_word form.kind) (58 ∷ form.name) (low (sized_word form.kind) (word_graphic form.kind parts.0)) (omega arith, field_name_lacks 44 refl form.name parts.1)

-- with a comma after it, each form is ended by one
join_ended : (shape : List Form) → 0 < length shape → shape_word shape ++ 44 ∷ [] ≡ joined 44 form_word shape
join_ended [] some = absurd (omega (arith, some))
join_ended (form ∷ []) some = sym (append-nil (form_word form ++ 44 ∷ []))
join_ended (form ∷ next ∷ shape) some =
    append_assoc (form_word form) (44 ∷ shape_word (next ∷ shape)) (44 ∷ [])
    ∙ ap (λ (l : List ℕ). form_word form ++ 44 ∷ l) (join_ended (next ∷ shape) (omega arith))
    ∙ sym (append_assoc (form_word form) (44 ∷ []) (joined 44 form_word (next ∷ shape)))

-- the last form has none
pub join_last : (forms : List Form) (form : Form) → joined 44 form_word forms ++ form_word form ≡ shape_word (forms ++ form ∷ [])
join_last [] form = refl
join_last (first ∷ []) form = regroup (form_word first) 44 [] (form_word form)
join_last (first ∷ next ∷ forms) form =
    regroup (form_word first) 44 (joined 44 form_word (next ∷ forms)) (form_word form)
    ∙ ap (λ (l : List ℕ). form_word first ++ 44 ∷ l) (join_last (next ∷ forms) form)

size_parts : (xs ys : List Form) → shape_size (xs ++ ys) ≡ shape_size xs + shape_size ys
size_parts xs ys = sum_by-append form_size xs ys

shape_parts : (shape : List Form) → is_shape shape ≡ true → (0 < length shape) × (list_all is_form shape ≡ true) × (shape_size shape ≤ 16384)
shape_parts shape good =
    let sized = and_parts (nat_lt 0 (length shape) && list_all is_form shape) (nat_le (shape_size shape) 16384) good in
    let some = and_parts (nat_lt 0 (length shape)) (list_all is_form shape) sized.0 in
    (ltb-true 0 (length shape) some.0, some.1, leb-true (shape_size shape) 16384 sized.1)

next_form : (more : List Form) (rest piece tail : List ℕ) (room : ℕ) → AllByRecursion IsGood more → rest ++ 44 ∷ [] ≡ joined 44 form_word more ++ [] → rest ++ 44 ∷ [] ≡ piece ++ 44 ∷ tail → Lacks 44 piece
    → AddsNoForm piece room → shape_size more ≤ room → ⊥
next_form [] rest piece tail room good e is lacks none fits =
    let len : length (rest ++ 44 ∷ []) ≡ 0 = ap length e in
    omega (arith, len, length-append rest (44 ∷ []))
next_form (form ∷ more) rest piece tail room good e is lacks none fits =
    let parts = one_split 44 piece (form_word form) tail (joined 44 form_word more ++ []) lacks (comma_lacks form good.0) (sym is ∙ e ∙ regroup (form_word form) 44 (joined 44 form_word more) []) in
    none form good.0 parts.0 (omega (arith, fits, sum_by-cons form_size form more))

none_short : (forms shape : List Form) (rest : List ℕ) → AllByRecursion IsGood forms → AllByRecursion IsGood shape → joined 44 form_word forms ++ (rest ++ 44 ∷ []) ≡ joined 44 form_word shape ++ [] → length shape ≤ length forms → ⊥
none_short forms shape rest gf gs e le =
    let found = agree form_word IsGood 44 comma_lacks form_unique shape forms [] (rest ++ 44 ∷ []) gs gf (sym e) le in
    let len : 0 ≡ length (joined 44 form_word found.0 ++ (rest ++ 44 ∷ [])) = ap length found.2 in
    omega (arith, len, length-append (joined 44 form_word found.0) (rest ++ 44 ∷ []), length-append rest (44 ∷ []))

-- where no form stands next, the word is no shape's
pub stops : (word : List ℕ) (forms : List Form) (rest piece tail : List ℕ) (room : ℕ) → list_all is_form forms ≡ true → word ≡ joined 44 form_word forms ++ rest → shape_size forms + room ≡ 16384
    → rest ++ 44 ∷ [] ≡ piece ++ 44 ∷ tail → Lacks 44 piece → AddsNoForm piece room → IsNoShape word
stops word forms rest piece tail room good is sizes parted lacks none shape right e =
    let parts = shape_parts shape right in
    let gf = All-test is_form forms good in
    let gs = All-test is_form shape parts.1 in
    let whole : joined 44 form_word forms ++ (rest ++ 44 ∷ []) ≡ joined 44 form_word shape ++ [] =
    sym (append_assoc (joined 44 form_word forms) rest (44 ∷ [])) ∙ ap (λ (l : List ℕ). l ++ 44 ∷ []) (sym is ∙ e) ∙ join_ended shape parts.0 ∙ sym (append-nil (joined 44 form_word shape)) in
    elim (cases_lt (length forms) (length shape)) [
      | inl longer ↦
          let found = agree form_word IsGood 44 comma_lacks form_unique forms shape (rest ++ 44 ∷ []) [] gf gs whole (omega (arith, longer)) in
          let more_good : AllByRecursion IsGood found.0 = All-after IsGood forms found.0 (subst (AllByRecursion IsGood) found.1 gs) in
          next_form found.0 rest piece tail room more_good found.2 parted lacks none
          (omega (arith, sizes, parts.2, ap shape_size found.1, size_parts forms found.0))
      | inr shorter ↦ none_short forms shape rest gf gs whole shorter
    ]

-- ---- the shape that is read

pub forms_push : (forms : List Form) (form : Form) → list_all is_form forms ≡ true → is_form form ≡ true → list_all is_form (forms ++ form ∷ []) ≡ true
forms_push forms form good one = list_all-append is_form forms (form ∷ []) ∙ and_from (list_all is_form forms) (list_all is_form (form ∷ [])) good (and_from (is_form form) true one refl)

-- ---- one word, one shape

no_more : (more : List Form) → [] ≡ joined 44 form_word more ++ [] → more ≡ []
no_more [] e = refl
no_more (form ∷ more) e =
    let len : 0 ≡ length (joined 44 form_word (form ∷ more) ++ []) = ap length e in
    absurd (omega (arith, len, length-append (joined 44 form_word (form ∷ more)) [], length-append (form_word form ++ 44 ∷ []) (joined 44 form_word more), length-append (form_word form) (44 ∷ [])))

same_shorter : (a b : List Form) → AllByRecursion IsGood a → AllByRecursion IsGood b → joined 44 form_word a ≡ joined 44 form_word b → length a ≤ length b → a ≡ b
same_shorter a b ga gb e le =
    let found = agree form_word IsGood 44 comma_lacks form_unique a b [] [] ga gb (ap (λ (l : List ℕ). l ++ []) e) le in
    sym (found.1 ∙ ap (λ (l : List Form). a ++ l) (no_more found.0 found.2) ∙ append-nil a)

-- no two shapes have one word
pub shape_unique : (a b : List Form) → is_shape a ≡ true → is_shape b ≡ true → shape_word a ≡ shape_word b → a ≡ b
shape_unique a b right_a right_b e =
    let pa = shape_parts a right_a in
    let pb = shape_parts b right_b in
    let ga = All-test is_form a pa.1 in
    let gb = All-test is_form b pb.1 in
    let same : joined 44 form_word a ≡ joined 44 form_word b = sym (join_ended a pa.0) ∙ ap (λ (l : List ℕ). l ++ 44 ∷ []) e ∙ join_ended b pb.0 in
    elim (cases_lt (length a) (length b)) [
      | inl longer ↦ same_shorter a b ga gb same (omega (arith, longer))
      | inr shorter ↦ sym (same_shorter b a gb ga (sym same) shorter)
    ]
