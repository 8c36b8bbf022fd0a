-- Runs that make a table file of a description, or describe one by a shape.
use Rattle.std.specs.Prelude.{◌≡◌, List}
use Rattle.tbl_session.specs.Session.{Ran}
use Rattle.tbl_maker.specs.declared.form.Form.{Form}
use Rattle.maker_words.specs.Answers.{Told, ComesOfText, ComesOfFile, Answers, MakesOnly, DescribesOnly, TellsFailures, MakesThrough, DescribesThrough}

-- what the source and the sink showed, before the run and after it
abbrev pub source_of : {B : Type 0} → Ran B → Told
source_of r = record { bytes = r.left; faults = r.unread }

abbrev pub source_after : {B : Type 0} → Ran B → Told
source_after r = record { bytes = r.left_then; faults = r.unread_then }

abbrev pub sink_of : {B : Type 0} → Ran B → Told
sink_of r = record { bytes = r.taken; faults = r.unwritten }

abbrev pub sink_after : {B : Type 0} → Ran B → Told
sink_after r = record { bytes = r.taken_then; faults = r.unwritten_then }

-- `make` answers what comes of the text that was read, and 0 only if that is a description. The bank isn't touched.
pub record MakesFile {B : Type 0} (bank : B) (r : Ran B) : Type 0 where
  pub answers : Answers ComesOfText r.status (source_of r) (source_after r) (sink_of r) (sink_after r)
  pub made : MakesOnly r.status (source_of r) (source_after r) (sink_of r) (sink_after r)
  pub failures : TellsFailures r.status (source_of r) (source_after r) (sink_of r) (sink_after r)
  pub untouched : r.bank_then ≡ bank

-- `describe` answers what comes of the file that was read, and 0 only if the shape describes it. The bank isn't touched.
pub record DescribesFile {B : Type 0} (shape : List Form) (bank : B) (r : Ran B) : Type 0 where
  pub answers : Answers (ComesOfFile shape) r.status (source_of r) (source_after r) (sink_of r) (sink_after r)
  pub described : DescribesOnly shape r.status (source_of r) (source_after r) (sink_of r) (sink_after r)
  pub failures : TellsFailures r.status (source_of r) (source_after r) (sink_of r) (sink_after r)
  pub untouched : r.bank_then ≡ bank

-- each does so always, unless something outside failed or memory ran out
abbrev pub MakesAlways : {B : Type 0} → Ran B → Type 0
MakesAlways r = MakesThrough r.status (source_of r) (source_after r) (sink_of r) (sink_after r)

abbrev pub DescribesAlways : {B : Type 0} → List Form → Ran B → Type 0
DescribesAlways shape r = DescribesThrough shape r.status (source_of r) (source_after r) (sink_of r) (sink_after r)
