-- Fields: the parts of a line, and the one field of a line.
use Rattle.std.proofs.Common.{◌≡◌, ◌≢◌, ℕ, ◌<◌, ◌≤◌, List, ◌∷◌, ◌++◌, true, false, refl, sym, ap, ◌∙◌, arith}
use Rattle.std.specs.List.{AllByRecursion, list_all}
use Rattle.std.proofs.lemmas.Bool.{and_parts}
use Rattle.tbl_maker.specs.Names.{is_field_byte, is_field_name}
use Rattle.tbl_maker.specs.Types.{type_word}
use Rattle.tbl_maker.specs.Values.{Value, type_of, value_text}
use Rattle.tbl_maker.specs.Fields.{Field, IsField, field_line}
use Rattle.tbl_maker.specs.Lines.{Lacks, IsSplit}
use Rattle.tbl_maker.specs.Parts.{ReadsValue, IsNoValue, ReadsField, IsNoField}
use Rattle.tbl_maker.proofs.Parting.{All-both, Lacks-all, Lacks-test, one_split, no_split}
use Rattle.tbl_kinds.specs.Names.{name_in}
use Rattle.tbl_maker.proofs.Digits.{IsGraphic}
use Rattle.tbl_maker.proofs.FullNames.{lacks_no_zero}
use Rattle.tbl_maker.proofs.Values.{word_graphic, text_graphic, value_unique}

-- ---- what a line's parts lack

pub field_name_lacks : (c : ℕ) → is_field_byte c ≡ false → (name : List ℕ) → is_field_name name ≡ true → Lacks c name
field_name_lacks c not name e = Lacks-test is_field_byte c not name (and_parts _ (list_all is_field_byte name) e).1

graphic_lacks : (c : ℕ) → c ≤ 44 → (xs : List ℕ) → AllByRecursion IsGraphic xs → Lacks c xs
graphic_lacks c low = Lacks-all IsGraphic c (λ (h : 44 < c). omega (arith, h, low))

word_lacks : (c : ℕ) → c ≤ 44 → (v : Value) → Lacks c (type_word (type_of v))
word_lacks c low v = graphic_lacks c low (type_word (type_of v)) (word_graphic (type_of v))

pub line_lacks : (f : Field) → IsField f → Lacks 10 (field_line f)
line_lacks f h =
    let low : 10 ≤ 44 = omega arith in
    let space : 32 ≢ 10 = omega arith in
    let word = word_lacks 10 low f.value in
    let name = field_name_lacks 10 refl f.name h.name in
    let text = graphic_lacks 10 low (value_text f.value) (text_graphic f.value h.value) in
    let P : ℕ → Type 0 = λ b. b ≢ 10 in
    All-both P (type_word (type_of f.value)) (32 ∷ (f.name ++ (32 ∷ value_text f.value))) word (space, All-both P f.name (32 ∷ value_text f.value) name (space, text))

-- ---- one field

-- a line that is parted at its first space, and at its second
pub word_part : (f : Field) (line word rest : List ℕ) → IsSplit 32 line word rest → line ≡ field_line f → (word ≡ type_word (type_of f.value)) × (rest ≡ f.name ++ (32 ∷ value_text f.value))
word_part f line word rest split e =
    one_split 32 word (type_word (type_of f.value)) rest (f.name ++ (32 ∷ value_text f.value)) split.first (word_lacks 32 (omega arith) f.value) (sym split.parts ∙ e)

pub name_part : (f : Field) (rest name text : List ℕ) → IsField f → IsSplit 32 rest name text → rest ≡ f.name ++ (32 ∷ value_text f.value) → (name ≡ f.name) × (text ≡ value_text f.value)
name_part f rest name text h split e = one_split 32 name f.name text (value_text f.value) split.first (field_name_lacks 32 refl f.name h.name) (sym split.parts ∙ e)

pub field_unique : (f g : Field) → IsField f → IsField g → field_line f ≡ field_line g → f ≡ g
field_unique f g hf hg e =
    let words = one_split 32 (type_word (type_of f.value)) (type_word (type_of g.value)) (f.name ++ (32 ∷ value_text f.value)) (g.name ++ (32 ∷ value_text g.value)) (word_lacks 32 (omega arith) f.value) (word_lacks 32 (omega arith) g.value) e in
    let names = one_split 32 f.name g.name (value_text f.value) (value_text g.value) (field_name_lacks 32 refl f.name hf.name) (field_name_lacks 32 refl g.name hg.name) words.1 in
    let values = value_unique f.value g.value hf.value hg.value words.0 names.1 in
    λ i. record { name = names.0 i; value = values i }

-- ---- reading a line

pub reads_field : (line word rest name text bytes : List ℕ) → IsSplit 32 line word rest → IsSplit 32 rest name text → is_field_name name ≡ true → ReadsValue word text bytes → ReadsField line bytes
reads_field line word rest name text bytes first second good read = record {
  field = record { name = name; value = read.value };
  is_field = record { name = good; value = read.is_value };
  line_is = first.parts ∙ ap (λ (l : List ℕ). word ++ 32 ∷ l) second.parts ∙ ap (λ (l : List ℕ). l ++ 32 ∷ (name ++ 32 ∷ text)) read.word_is ∙ ap (λ (l : List ℕ). type_word (type_of read.value) ++ 32 ∷ (name ++ 32 ∷ l)) read.text_is;
  bytes_are = read.bytes_are;
}

pub no_space : (line : List ℕ) → Lacks 32 line → IsNoField line
no_space line lacks f h e = no_split 32 line (type_word (type_of f.value)) (f.name ++ (32 ∷ value_text f.value)) lacks e

pub no_second_space : (line word rest : List ℕ) → IsSplit 32 line word rest → Lacks 32 rest → IsNoField line
no_second_space line word rest split lacks f h e = no_split 32 rest f.name (value_text f.value) lacks (word_part f line word rest split e).1

pub no_name : (line word rest name text : List ℕ) → IsSplit 32 line word rest → IsSplit 32 rest name text → is_field_name name ≡ false → IsNoField line
no_name line word rest name text first second bad f h e =
    let same = (name_part f rest name text h second (word_part f line word rest first e).1).0 in
    let good : is_field_name name ≡ true = ap is_field_name same ∙ h.name in
    cc

pub no_value : (line word rest name text : List ℕ) → IsSplit 32 line word rest → IsSplit 32 rest name text → IsNoValue word text → IsNoField line
no_value line word rest name text first second none f h e =
    let words = word_part f line word rest first e in
    none f.value h.value words.0 (name_part f rest name text h second words.1).1

-- a field's name has no zero byte
pub field_reads : (name : List ℕ) → is_field_name name ≡ true → name_in name ≡ name
field_reads name e = lacks_no_zero name (field_name_lacks 0 refl name e)
