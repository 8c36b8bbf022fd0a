-- What comes of an input, and what it comes to where nothing outside fails.
use Rattle.std.proofs.Common.{◌≡◌, ◌≢◌, ℕ, ◌+◌, ◌≤◌, ◌⊎◌, inl, inr, List, [], ◌++◌, length, Option, Some, None, refl, sym, ap, ◌∙◌, subst, arith}
use Rattle.std.specs.Prelude.{IfSome, Bool, true, false, ◌==◌, if◌then◌else◌}
use Rattle.std.specs.Io.KnownBytes.{prepend_known, append_known, IsAtEnd}
use Rattle.std.proofs.lemmas.List.{length-append}
use Rattle.tbl_outside.specs.Counts.{Rose}
use Rattle.tbl_outside.proofs.Streams.{read_front, read_all, append_known-nil}
use Rattle.tbl_kinds.specs.TableFiles.{table_file_in}
use Rattle.tbl_maker.specs.Descriptions.{Description, IsDescription, text_of, shape_of, contents_of, file_of}
use Rattle.tbl_maker.specs.Describing.{is_describable, count_in, describe_fault, IsFault}
use Rattle.tbl_maker.specs.Shapes.{shape_size}
use Rattle.tbl_maker.specs.declared.form.Form.{Form}
use Rattle.tbl_maker.specs.declared.describing.DescribeFault.{DescribeFault}
use Rattle.tbl_maker.specs.declared.describing.DescribeFault.TheVariants.{File, Length}
use Rattle.maker_words.specs.Inputs.{BreaksOff, most_input, status_of}
use Rattle.maker_words.specs.Answers.{Told, ComesOfText, ComesOfFile, Writes, Answered, Unanswered, Answers, Tells, TellsLine, IsCalm, GaveAll, MakesOnly, DescribesOnly, MakesThrough, DescribesThrough, bad_line}
use Rattle.tbl_maker.specs.Making.{IsLeastBadLine}
use Rattle.maker_words.specs.declared.inputs.InputFault.{InputFault}
use Rattle.maker_words.specs.declared.inputs.InputFault.TheVariants.{TooLong, Failed, Memory}
use Rattle.maker_words.proofs.Lengths.{text_short}

pub prepend_nothing : (left : Option (List ℕ)) → left ≡ prepend_known [] left
prepend_nothing None = refl
prepend_nothing (Some xs) = refl

-- a count that rose since then rose since an earlier time
pub rose_later : (first next last : ℕ) → first ≤ next → Rose next last → Rose first last
rose_later first next last le (inl rose) = inl (omega (arith, le, rose))
rose_later first next last le (inr top) = inr top

-- a reading that broke off with another status than 3 didn't fail
pub not_failed : (fault : InputFault) → status_of fault ≢ 3 → fault ≢ Failed
not_failed fault other failed = other (ap status_of failed)

-- ---- the end of a reading

-- where the reading broke off
pub broke_off : (fault : InputFault) (count : ℕ) (read_failed : Type 0) (before after : Told) → after.bytes ≡ before.bytes → (fault ≡ Failed → read_failed) → BreaksOff fault count → Unanswered (status_of fault) count read_failed before after
broke_off TooLong count read_failed before after silent failed off = record { cause = inl (refl, off); silent = silent }
broke_off Failed count read_failed before after silent failed off = record { cause = inr (inl (refl, off, failed refl)); silent = silent }
broke_off Memory count read_failed before after silent failed off = record { cause = inr (inr (refl, off)); silent = silent }

-- where all was read
pub tells_all : (comes : List ℕ → ℕ → List ℕ → Type 0) (text read : List ℕ) (status : ℕ) (read_failed at_end : Type 0) (before after : Told) → text ≡ read → length read ≤ most_input → at_end → Tells (comes text) status before after
    → Unanswered status (length read) read_failed before after ⊎ (at_end × (length read ≤ most_input) × Answered (comes read) status before after)
tells_all comes text read status read_failed at_end before after same few end (inl answered) = inr (end, few, subst (λ input. Answered (comes input) status before after) same answered)
tells_all comes text read status read_failed at_end before after same few end (inr none) = inl (record { cause = inr (inr (none.0, few)); silent = none.1 })

-- all was read, and what comes of it was told
pub answers_read : (comes : List ℕ → ℕ → List ℕ → Type 0) (text : List ℕ) (status : ℕ) (source source_then sink sink_then : Told)
    → (read : List ℕ) × (source.bytes ≡ prepend_known read source_then.bytes) × ((text ≡ read) × (length read ≤ most_input) × IsAtEnd source_then.bytes) → Tells (comes text) status sink sink_then
    → Answers comes status source source_then sink sink_then
answers_read comes text status source source_then sink sink_then was tells = record {
  read = was.0;
  came = was.1;
  ends = tells_all comes text was.0 status (Rose source.faults source_then.faults) (IsAtEnd source_then.bytes) sink sink_then was.2.0 was.2.1 was.2.2 tells;
}

-- the reading broke off
pub answers_broke : (comes : List ℕ → ℕ → List ℕ → Type 0) (fault : InputFault) (source source_then sink : Told)
    → (read : List ℕ) × (source.bytes ≡ prepend_known read source_then.bytes) × BreaksOff fault (length read) → (fault ≡ Failed → Rose source.faults source_then.faults)
    → Answers comes (status_of fault) source source_then sink sink
answers_broke comes fault source source_then sink was failed = record {
  read = was.0;
  came = was.1;
  ends = inl (broke_off fault (length was.0) (Rose source.faults source_then.faults) sink sink refl failed was.2);
}

-- ---- what a text comes to

pub tells_line : (text : List ℕ) (number status : ℕ) (before after : Told) → IsLeastBadLine text number → TellsLine number status before after → Tells (ComesOfText text) status before after
tells_line text number status before after least (inl writes) = inl (record { answer = 9; bytes = bad_line number; right = inr (refl, number, least, refl); written = writes })
tells_line text number status before after least (inr none) = inr none

-- ---- what a file comes to

choice : (describable fits : Bool) (size count need have : ℕ) → (if describable then (if fits then None else Some (Length size count)) else Some File) ≡ Some (Length need have)
    → (if describable then (if fits then None else Some (Length size count)) else Some File) ≡ Some (Length size count)
choice true true size count need have e = absurd (cc)
choice true false size count need have e = refl
choice false fits size count need have e = absurd (cc)

-- the lengths are those of the shape and of the image
other_length : (shape : List Form) (file : List ℕ) (need have : ℕ) → describe_fault shape file ≡ Some (Length need have) → describe_fault shape file ≡ Some (Length (shape_size shape) (count_in file))
other_length shape file need have e = choice (is_describable file) (shape_size shape == count_in file) (shape_size shape) (count_in file) need have e

tells_nothing : (comes : ℕ → List ℕ → Type 0) (answer : ℕ) (sink : Told) → comes answer [] → Tells comes answer sink sink
tells_nothing comes answer sink right = inl (record { answer = answer; bytes = []; right = right; written = inl (refl, sym (append_known-nil sink.bytes)) })

pub tells_no_file : (shape : List Form) (file : List ℕ) (sink : Told) (fault : DescribeFault) → fault ≡ File → IsFault (describe_fault shape file) fault → Tells (ComesOfFile shape file) 10 sink sink
tells_no_file shape file sink fault is told =
    let fault_is : describe_fault shape file ≡ Some File = subst (IsFault (describe_fault shape file)) is told in
    tells_nothing (ComesOfFile shape file) 10 sink (inr (inl (refl, fault_is, refl)))

pub tells_other_length : (shape : List Form) (file : List ℕ) (sink : Told) (fault : DescribeFault) (need have : ℕ) → fault ≡ Length need have → IsFault (describe_fault shape file) fault → Tells (ComesOfFile shape file) 11 sink sink
tells_other_length shape file sink fault need have is told =
    let fault_is : describe_fault shape file ≡ Some (Length need have) = subst (IsFault (describe_fault shape file)) is told in
    tells_nothing (ComesOfFile shape file) 11 sink (inr (inr (refl, other_length shape file need have fault_is, refl)))

-- ---- what isn't given up

too_long : (input read : List ℕ) (left left_then : Option (List ℕ)) → left ≡ Some input → left ≡ prepend_known read left_then → length input ≤ most_input → length read ≡ most_input + 1 → ⊥
too_long input read left left_then is came short long =
    let front : (rest : List ℕ) × (left_then ≡ Some rest) × (input ≡ read ++ rest) = subst (λ o. IfSome o (λ xs. (rest : List ℕ) × (left_then ≡ Some rest) × (xs ≡ read ++ rest))) is (read_front left left_then read came) in
    let len : length input ≡ length read + length front.0 = ap length front.2 ∙ length-append read front.0 in
    omega (arith, len, short, long)

all_read : (input read : List ℕ) (left left_then : Option (List ℕ)) → left ≡ Some input → left ≡ prepend_known read left_then → IsAtEnd left_then → read ≡ input
all_read input read left left_then is came end =
    let same : input ≡ read = subst (λ o. IfSome o (λ xs. xs ≡ read)) is (read_all left left_then read came end) in
    sym same

-- where nothing outside failed, what comes of the input is answered whole, or memory ran out
pub answers_all : (comes : List ℕ → ℕ → List ℕ → Type 0) (status : ℕ) (source source_then sink sink_then : Told) (input : List ℕ) → source.bytes ≡ Some input → length input ≤ most_input
    → IsCalm source source_then → IsCalm sink sink_then → Answers comes status source source_then sink sink_then → (status ≡ 1) ⊎ ((bytes : List ℕ) × comes input status bytes)
answers_all comes status source source_then sink sink_then input is short calm_source calm_sink answers = by answers.ends where
  wrote : (answered : Answered (comes answers.read) status sink sink_then) → IsAtEnd source_then.bytes → Writes answered.answer answered.bytes status sink sink_then → (status ≡ 1) ⊎ ((bytes : List ℕ) × comes input status bytes)
  wrote answered end (inl whole) =
      let read : answers.read ≡ input = all_read input answers.read source.bytes source_then.bytes is answers.came end in
      inr (answered.bytes, subst (λ n. comes input n answered.bytes) (sym whole.0) (subst (λ xs. comes xs answered.answer answered.bytes) read answered.right))
  wrote answered end (inr broken) = absurd (calm_sink broken.2)

  by : Unanswered status (length answers.read) (Rose source.faults source_then.faults) sink sink_then ⊎ (IsAtEnd source_then.bytes × (length answers.read ≤ most_input) × Answered (comes answers.read) status sink sink_then)
      → (status ≡ 1) ⊎ ((bytes : List ℕ) × comes input status bytes)
  by (inl none) = cause none.cause where
    cause : ((status ≡ 12) × (length answers.read ≡ most_input + 1)) ⊎ ((status ≡ 3) × (length answers.read ≤ most_input) × Rose source.faults source_then.faults) ⊎ ((status ≡ 1) × (length answers.read ≤ most_input))
        → (status ≡ 1) ⊎ ((bytes : List ℕ) × comes input status bytes)
    cause (inl long) = absurd (too_long input answers.read source.bytes source_then.bytes is answers.came short long.1)
    cause (inr (inl failed)) = absurd (calm_source failed.2)
    cause (inr (inr memory)) = inl memory.0
  by (inr whole) = wrote whole.2 whole.0 whole.2.written

pub makes_through : (status : ℕ) (source source_then sink sink_then : Told) → Answers ComesOfText status source source_then sink sink_then → MakesThrough status source source_then sink sink_then
makes_through status source source_then sink sink_then answers d h is calm_source calm_sink = by (answers_all ComesOfText status source source_then sink sink_then (text_of d) is (text_short d h) calm_source calm_sink answers) where
  by : (status ≡ 1) ⊎ ((bytes : List ℕ) × ComesOfText (text_of d) status bytes) → (status ≡ 0) ⊎ (status ≡ 1)
  by (inl one) = inr one
  by (inr (bytes, inl made)) = inl made.0
  by (inr (bytes, inr bad)) = absurd (bad.2.no_description d h refl)

pub describes_through : (shape : List Form) (status : ℕ) (source source_then sink sink_then : Told) → Answers (ComesOfFile shape) status source source_then sink sink_then → DescribesThrough shape status source source_then sink sink_then
describes_through shape status source source_then sink sink_then answers file is short good calm_source calm_sink = by (answers_all (ComesOfFile shape) status source source_then sink sink_then file is short calm_source calm_sink answers) where
  by : (status ≡ 1) ⊎ ((bytes : List ℕ) × ComesOfFile shape file status bytes) → (status ≡ 0) ⊎ (status ≡ 1)
  by (inl one) = inr one
  by (inr (bytes, inl described)) = inl described.0
  by (inr (bytes, inr (inl other))) = let clash : describe_fault shape file ≡ Some File = other.1 in absurd (cc)
  by (inr (bytes, inr (inr other))) = let clash = other.1 in absurd (cc)

-- ---- what 0 tells

-- of an input that was read to its end comes 0, and the sink took the bytes
pub done_of : (comes : List ℕ → ℕ → List ℕ → Type 0) (status : ℕ) (source source_then sink sink_then : Told) → Answers comes status source source_then sink sink_then → status ≡ 0
    → (read : List ℕ) × GaveAll source source_then read × (bytes : List ℕ) × comes read 0 bytes × (sink_then.bytes ≡ append_known sink.bytes bytes)
done_of comes status source source_then sink sink_then answers zero = by answers.ends where
  wrote : (answered : Answered (comes answers.read) status sink sink_then) → IsAtEnd source_then.bytes → Writes answered.answer answered.bytes status sink sink_then
      → (read : List ℕ) × GaveAll source source_then read × (bytes : List ℕ) × comes read 0 bytes × (sink_then.bytes ≡ append_known sink.bytes bytes)
  wrote answered end (inl whole) = (answers.read, (answers.came, end), answered.bytes, subst (λ n. comes answers.read n answered.bytes) (sym whole.0 ∙ zero) answered.right, whole.1)
  wrote answered end (inr broken) = absurd (omega (arith, zero, broken.0))

  by : Unanswered status (length answers.read) (Rose source.faults source_then.faults) sink sink_then ⊎ (IsAtEnd source_then.bytes × (length answers.read ≤ most_input) × Answered (comes answers.read) status sink sink_then)
      → (read : List ℕ) × GaveAll source source_then read × (bytes : List ℕ) × comes read 0 bytes × (sink_then.bytes ≡ append_known sink.bytes bytes)
  by (inl none) = absurd (cause none.cause) where
    cause : ((status ≡ 12) × (length answers.read ≡ most_input + 1)) ⊎ ((status ≡ 3) × (length answers.read ≤ most_input) × Rose source.faults source_then.faults) ⊎ ((status ≡ 1) × (length answers.read ≤ most_input)) → ⊥
    cause (inl long) = omega (arith, zero, long.0)
    cause (inr (inl failed)) = omega (arith, zero, failed.0)
    cause (inr (inr memory)) = omega (arith, zero, memory.0)
  by (inr whole) = wrote whole.2 whole.0 whole.2.written

pub makes_only : (status : ℕ) (source source_then sink sink_then : Told) → Answers ComesOfText status source source_then sink sink_then → MakesOnly status source source_then sink sink_then
makes_only status source source_then sink sink_then answers zero =
    let done = done_of ComesOfText status source source_then sink sink_then answers zero in
    by done.0 done.1 done.2 done.3 done.4 where
      by : (read : List ℕ) → GaveAll source source_then read → (bytes : List ℕ) → ComesOfText read 0 bytes → sink_then.bytes ≡ append_known sink.bytes bytes
          → (d : Description) × IsDescription d × GaveAll source source_then (text_of d) × (sink_then.bytes ≡ append_known sink.bytes (file_of d))
      by read gave bytes (inl made) took = (made.1.description, made.1.is_description, subst (GaveAll source source_then) made.1.text_is gave, took ∙ ap (append_known sink.bytes) made.1.file_is)
      by read gave bytes (inr bad) took = absurd (omega (arith, bad.0))

pub describes_only : (shape : List Form) (status : ℕ) (source source_then sink sink_then : Told) → Answers (ComesOfFile shape) status source source_then sink sink_then → DescribesOnly shape status source source_then sink sink_then
describes_only shape status source source_then sink sink_then answers zero =
    let done = done_of (ComesOfFile shape) status source source_then sink sink_then answers zero in
    by done.0 done.1 done.2 done.3 done.4 where
      by : (file : List ℕ) → GaveAll source source_then file → (bytes : List ℕ) → ComesOfFile shape file 0 bytes → sink_then.bytes ≡ append_known sink.bytes bytes
          → (d : Description) × IsDescription d × (shape_of d ≡ shape) × (file : List ℕ) × GaveAll source source_then file × (describe_fault shape file ≡ None) × (contents_of d ≡ table_file_in file) × (sink_then.bytes ≡ append_known sink.bytes (text_of d))
      by file gave bytes (inl made) took = (
        made.2.description,
        made.2.is_description,
        made.2.shape_is,
        file,
        gave,
        made.1,
        made.2.contents_are,
        took ∙ ap (append_known sink.bytes) made.2.text_is,
      )
      by file gave bytes (inr (inl other)) took = absurd (omega (arith, other.0))
      by file gave bytes (inr (inr other)) took = absurd (omega (arith, other.0))

-- ---- no status is that of faulty words

-- what comes of an input is one of these
abbrev IsAnswer : ℕ → Type 0
IsAnswer answer = (answer ≡ 0) ⊎ (9 ≤ answer)

not_usage : (comes : List ℕ → ℕ → List ℕ → Type 0) → ((read : List ℕ) (answer : ℕ) (bytes : List ℕ) → comes read answer bytes → IsAnswer answer)
    → (status : ℕ) (source source_then sink sink_then : Told) → Answers comes status source source_then sink sink_then → status ≢ 2
not_usage comes is status source source_then sink sink_then answers two = by answers.ends where
  other : (answer : ℕ) → IsAnswer answer → status ≡ answer → ⊥
  other answer (inl zero) same = omega (arith, zero, same, two)
  other answer (inr high) same = omega (arith, high, same, two)

  wrote : (answered : Answered (comes answers.read) status sink sink_then) → Writes answered.answer answered.bytes status sink sink_then → ⊥
  wrote answered (inl whole) = other answered.answer (is answers.read answered.answer answered.bytes answered.right) whole.0
  wrote answered (inr broken) = omega (arith, two, broken.0)

  by : Unanswered status (length answers.read) (Rose source.faults source_then.faults) sink sink_then ⊎ (IsAtEnd source_then.bytes × (length answers.read ≤ most_input) × Answered (comes answers.read) status sink sink_then) → ⊥
  by (inl none) = cause none.cause where
    cause : ((status ≡ 12) × (length answers.read ≡ most_input + 1)) ⊎ ((status ≡ 3) × (length answers.read ≤ most_input) × Rose source.faults source_then.faults) ⊎ ((status ≡ 1) × (length answers.read ≤ most_input)) → ⊥
    cause (inl long) = omega (arith, two, long.0)
    cause (inr (inl failed)) = omega (arith, two, failed.0)
    cause (inr (inr memory)) = omega (arith, two, memory.0)
  by (inr whole) = wrote whole.2 whole.2.written

text_answer : (read : List ℕ) (answer : ℕ) (bytes : List ℕ) → ComesOfText read answer bytes → IsAnswer answer
text_answer read answer bytes (inl made) = inl made.0
text_answer read answer bytes (inr bad) = inr (omega (arith, bad.0))

file_answer : (shape : List Form) (read : List ℕ) (answer : ℕ) (bytes : List ℕ) → ComesOfFile shape read answer bytes → IsAnswer answer
file_answer shape read answer bytes (inl made) = inl made.0
file_answer shape read answer bytes (inr (inl other)) = inr (omega (arith, other.0))
file_answer shape read answer bytes (inr (inr other)) = inr (omega (arith, other.0))

pub makes_not_usage : (status : ℕ) (source source_then sink sink_then : Told) → Answers ComesOfText status source source_then sink sink_then → status ≢ 2
makes_not_usage = not_usage ComesOfText text_answer

pub describes_not_usage : (shape : List Form) (status : ℕ) (source source_then sink sink_then : Told) → Answers (ComesOfFile shape) status source source_then sink sink_then → status ≢ 2
describes_not_usage shape = not_usage (ComesOfFile shape) (file_answer shape)
