-- Lines of fields, and their image.
use Rattle.std.proofs.Common.{◌≡◌, ℕ, ◌+◌, ◌<◌, List, [], ◌∷◌, ◌++◌, length, sym, ap, ◌∙◌, arith}
use Rattle.std.proofs.lemmas.List.{length-append, append-nil}
use Rattle.std.proofs.lemmas.Grind.{flat_map-append}
use Rattle.tbl_maker.specs.Fields.{Field, IsField, field_line, field_bytes, image_of}
use Rattle.tbl_maker.specs.Lines.{Lacks, IsSplit}
use Rattle.tbl_maker.specs.Parts.{ReadsField, IsNoField, AddsNone}
use Rattle.tbl_maker.proofs.Parting.{one_split, no_split, joined, joined_push}
use Rattle.tbl_maker.proofs.Values.{some_bytes}
use Rattle.tbl_maker.proofs.Fields.{line_lacks, field_unique}

-- ---- one line more

pub adds_no_line : (text : List ℕ) (used room : ℕ) → Lacks 10 text → AddsNone text used room
adds_no_line text used room lacks f rest h e fits = no_split 10 text (field_line f) rest lacks e

pub adds_no_field : (text line rest : List ℕ) (used room : ℕ) → IsSplit 10 text line rest → IsNoField line → AddsNone text used room
adds_no_field text line rest used room split none f after h e fits =
    none f h (one_split 10 line (field_line f) rest after split.first (line_lacks f h) (sym split.parts ∙ e)).0

pub adds_no_room : (text line rest bytes : List ℕ) (used room : ℕ) → IsSplit 10 text line rest → ReadsField line bytes → room < used + length bytes → AddsNone text used room
adds_no_room text line rest bytes used room split read over f after h e fits =
    let lines = (one_split 10 line (field_line f) rest after split.first (line_lacks f h) (sym split.parts ∙ e)).0 in
    let same : read.field ≡ f = field_unique read.field f read.is_field h (sym read.line_is ∙ lines) in
    let len : length bytes ≡ length (field_bytes f) = ap length read.bytes_are ∙ ap (λ g. length (field_bytes g)) same in
    omega (arith, over, fits, len)

-- ---- lines so far

pub image_push : (fields : List Field) (f : Field) → image_of (fields ++ f ∷ []) ≡ image_of fields ++ field_bytes f
image_push fields f = flat_map-append field_bytes fields (f ∷ []) ∙ ap (λ l. image_of fields ++ l) (append-nil (field_bytes f))

pub length-push : (fields : List Field) (f : Field) → length (fields ++ f ∷ []) ≡ length fields + 1
length-push fields f = length-append fields (f ∷ [])

pub text_push : (fields : List Field) (f : Field) (text rest after : List ℕ) → text ≡ joined 10 field_line fields ++ rest → rest ≡ field_line f ++ 10 ∷ after → text ≡ joined 10 field_line (fields ++ f ∷ []) ++ after
text_push fields f text rest after so_far here = so_far ∙ ap (λ l. joined 10 field_line fields ++ l) here ∙ joined_push 10 field_line fields f after

pub some_more : (f : Field) → IsField f → 0 < length (field_bytes f)
some_more f h = some_bytes f.value h.value
