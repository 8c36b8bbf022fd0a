-- What `make` and `describe` answer, by the input that was read.
use Rattle.std.specs.Prelude.{◌≡◌, ◌≢◌, ◌⊎◌, ℕ, ◌+◌, ◌≤◌, List, [], ◌++◌, length, codes, Option, Some, None}
use Rattle.std.specs.Fmt.{decimal}
use Rattle.std.specs.Io.KnownBytes.{append_known, prepend_known, IsAtEnd}
use Rattle.tbl_outside.specs.Counts.{Rose}
use Rattle.tbl_outside.specs.Streams.{TakesFront, ReadsToEnd}
use Rattle.tbl_outside.specs.declared.stream.HowFar.{HowFar}
use Rattle.tbl_outside.specs.declared.stream.Sink.{Ghosts as SinkGhosts}
use Rattle.tbl_outside.specs.declared.stream.Source.{Ghosts as SourceGhosts}
use Rattle.tbl_kinds.specs.TableFiles.{table_file_in}
use Rattle.tbl_maker.specs.Descriptions.{Description, IsDescription, text_of, shape_of, contents_of, file_of}
use Rattle.tbl_maker.specs.Describing.{describe_fault, count_in, IsDescribedBy}
use Rattle.tbl_maker.specs.Making.{IsMadeOf, IsLeastBadLine}
use Rattle.tbl_maker.specs.Shapes.{shape_size}
use Rattle.tbl_maker.specs.declared.form.Form.{Form}
use Rattle.tbl_maker.specs.declared.describing.DescribeFault.TheVariants.{File, Length}
use Rattle.maker_words.specs.Inputs.{most_input}

-- what a source or a sink tells: the bytes that are left or were taken, where it tells them, and how often it has failed
pub record Told : Type 0 where
  pub bytes : Option (List ℕ)
  pub faults : ℕ

abbrev pub source_told : {S : Type 0} → SourceGhosts S → S → Told
source_told g source = record { bytes = g.left source; faults = g.faults source }

abbrev pub sink_told : {K : Type 0} → SinkGhosts K → K → Told
sink_told g sink = record { bytes = g.taken sink; faults = g.faults sink }

-- what a source told before a call and after it, and how far it was read; and what a sink told
pub record Gave : Type 0 where
  pub before : Told
  pub after : Told
  pub far : HowFar
  pub far_then : HowFar

pub record Took : Type 0 where
  pub before : Told
  pub after : Told

abbrev pub gave : {S : Type 0} → SourceGhosts S → S → S → Gave
gave g old new = record { before = source_told g old; after = source_told g new; far = g.how_far old; far_then = g.how_far new }

abbrev pub took : {K : Type 0} → SinkGhosts K → K → K → Took
took g old new = record { before = sink_told g old; after = sink_told g new }

-- ---- what comes of an input

-- the line that tells of a bad one
abbrev pub bad_line : ℕ → List ℕ
bad_line number = codes "line " ++ (decimal number ++ codes "\n")

-- `make`: the file of the description that the text is, with 0; or the number of its first bad line, with 9
abbrev pub ComesOfText : List ℕ → ℕ → List ℕ → Type 0
ComesOfText text status bytes = ((status ≡ 0) × IsMadeOf text bytes) ⊎ ((status ≡ 9) × (number : ℕ) × IsLeastBadLine text number × (bytes ≡ bad_line number))

-- `describe`: the description of this shape that tells what the file tells, with 0; or nothing, with 10 where the file can't be
-- described, and with 11 where the shape has another length
abbrev pub ComesOfFile : List Form → List ℕ → ℕ → List ℕ → Type 0
ComesOfFile shape file status bytes =
    ((status ≡ 0) × (describe_fault shape file ≡ None) × IsDescribedBy shape file bytes)
    ⊎ ((status ≡ 10) × (describe_fault shape file ≡ Some File) × (bytes ≡ []))
    ⊎ ((status ≡ 11) × (describe_fault shape file ≡ Some (Length (shape_size shape) (count_in file))) × (bytes ≡ []))

-- ---- what is answered

-- the sink took the bytes with this status; or, where they are written, it failed, which is 4, and took a front of them
abbrev pub Writes : ℕ → List ℕ → ℕ → Told → Told → Type 0
Writes answer bytes status before after =
    ((status ≡ answer) × (after.bytes ≡ append_known before.bytes bytes))
    ⊎ ((status ≡ 4) × ((answer ≡ 0) ⊎ (answer ≡ 9)) × Rose before.faults after.faults × TakesFront before.bytes after.bytes bytes)

-- what comes of an input is answered
pub record Answered (comes : ℕ → List ℕ → Type 0) (status : ℕ) (before after : Told) : Type 0 where
  pub answer : ℕ
  pub bytes : List ℕ
  pub right : comes answer bytes
  pub written : Writes answer bytes status before after

-- or memory ran out for it, and nothing was written
abbrev pub Tells : (ℕ → List ℕ → Type 0) → ℕ → Told → Told → Type 0
Tells comes status before after = Answered comes status before after ⊎ ((status ≡ 1) × (after.bytes ≡ before.bytes))

-- the same of a bad line
abbrev pub TellsLine : ℕ → ℕ → Told → Told → Type 0
TellsLine number status before after = Writes 9 (bad_line number) status before after ⊎ ((status ≡ 1) × (after.bytes ≡ before.bytes))

-- or nothing is written: 12 after one byte more than an input may have, 3 where a read failed, 1 where memory ran out
pub record Unanswered (status read : ℕ) (read_failed : Type 0) (before after : Told) : Type 0 where
  pub cause : ((status ≡ 12) × (read ≡ most_input + 1)) ⊎ ((status ≡ 3) × (read ≤ most_input) × read_failed) ⊎ ((status ≡ 1) × (read ≤ most_input))
  pub silent : after.bytes ≡ before.bytes

-- An input was read, and what comes of it was answered, where it was read to its end.
pub record Answers (comes : List ℕ → ℕ → List ℕ → Type 0) (status : ℕ) (source source_then sink sink_then : Told) : Type 0 where
  pub read : List ℕ
  pub came : source.bytes ≡ prepend_known read source_then.bytes
  pub ends : Unanswered status (length read) (Rose source.faults source_then.faults) sink sink_then
      ⊎ (IsAtEnd source_then.bytes × (length read ≤ most_input) × Answered (comes read) status sink sink_then)

-- ---- what 0 tells

-- the source gave these bytes, and has no more
abbrev pub GaveAll : Told → Told → List ℕ → Type 0
GaveAll source source_then bytes = (source.bytes ≡ prepend_known bytes source_then.bytes) × IsAtEnd source_then.bytes

-- `make` answers 0 only where the input is the text of a description, and then the sink took that description's file
abbrev pub MakesOnly : ℕ → Told → Told → Told → Told → Type 0
MakesOnly status source source_then sink sink_then =
    status ≡ 0 → (d : Description) × IsDescription d × GaveAll source source_then (text_of d) × (sink_then.bytes ≡ append_known sink.bytes (file_of d))

-- `describe` answers 0 only where the input is a file of which a description of this shape tells the name, the offset and the image,
-- and then the sink took that description's text
abbrev pub DescribesOnly : List Form → ℕ → Told → Told → Told → Told → Type 0
DescribesOnly shape status source source_then sink sink_then =
    status ≡ 0
    → (d : Description) × IsDescription d × (shape_of d ≡ shape)
    × (file : List ℕ) × GaveAll source source_then file × (describe_fault shape file ≡ None) × (contents_of d ≡ table_file_in file)
    × (sink_then.bytes ≡ append_known sink.bytes (text_of d))

-- ---- what failed

-- a read that failed is told by 3, and a write that failed by 4
pub record TellsFailures (status : ℕ) (source source_then sink sink_then : Told) : Type 0 where
  pub reads : (status ≢ 3) → source_then.faults ≡ source.faults
  pub writes : (status ≢ 4) → sink_then.faults ≡ sink.faults

-- ---- what is never given up early

-- the counts of faults stood still
abbrev pub IsCalm : Told → Told → Type 0
IsCalm before after = ¬ Rose before.faults after.faults

-- a description's file is made, unless something outside failed or memory ran out
abbrev pub MakesThrough : ℕ → Told → Told → Told → Told → Type 0
MakesThrough status source source_then sink sink_then =
    (d : Description) → IsDescription d → source.bytes ≡ Some (text_of d) → IsCalm source source_then → IsCalm sink sink_then → (status ≡ 0) ⊎ (status ≡ 1)

-- and so is a file described that can be, by a shape of its length
abbrev pub DescribesThrough : List Form → ℕ → Told → Told → Told → Told → Type 0
DescribesThrough shape status source source_then sink sink_then =
    (file : List ℕ) → source.bytes ≡ Some file → length file ≤ most_input → describe_fault shape file ≡ None → IsCalm source source_then → IsCalm sink sink_then → (status ≡ 0) ⊎ (status ≡ 1)

-- ---- what each call promises

-- bytes were written with a status, what comes of an input, or a bad line; and a write fails only with 4
pub record PutsBytes (answer : ℕ) (bytes : List ℕ) (status : ℕ) (sink : Took) : Type 0 where
  pub written : Writes answer bytes status sink.before sink.after
  pub calm : (status ≢ 4) → sink.after.faults ≡ sink.before.faults

pub record PutsFor (comes : ℕ → List ℕ → Type 0) (status : ℕ) (sink : Took) : Type 0 where
  pub tells : Tells comes status sink.before sink.after
  pub calm : (status ≢ 4) → sink.after.faults ≡ sink.before.faults

pub record PutsLine (number status : ℕ) (sink : Took) : Type 0 where
  pub tells : TellsLine number status sink.before sink.after
  pub calm : (status ≢ 4) → sink.after.faults ≡ sink.before.faults

-- `make`: what was read, what comes of it, and what was written of that. Nothing is read after the end of the input, nor after a read that
-- failed.
pub record MakesInput (status : ℕ) (source : Gave) (sink : Took) : Type 0 where
  pub answers : Answers ComesOfText status source.before source.after sink.before sink.after
  pub made : MakesOnly status source.before source.after sink.before sink.after
  pub failures : TellsFailures status source.before source.after sink.before sink.after
  pub once : ReadsToEnd source.far source.far_then
  pub complete : MakesThrough status source.before source.after sink.before sink.after

-- `describe`, by a shape
pub record DescribesInput (shape : List Form) (status : ℕ) (source : Gave) (sink : Took) : Type 0 where
  pub answers : Answers (ComesOfFile shape) status source.before source.after sink.before sink.after
  pub described : DescribesOnly shape status source.before source.after sink.before sink.after
  pub failures : TellsFailures status source.before source.after sink.before sink.after
  pub once : ReadsToEnd source.far source.far_then
  pub complete : DescribesThrough shape status source.before source.after sink.before sink.after
