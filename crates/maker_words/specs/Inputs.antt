-- An input that is read to its end before anything is made of it.
use Rattle.std.specs.Prelude.{◌≡◌, ◌≢◌, ℕ, ◌+◌, ◌<◌, ◌≤◌, List, [], ◌++◌, length, Bool, true, false, Result, Ok, Err, OnOk, IfErr}
use Rattle.std.specs.Io.KnownBytes.{prepend_known, IsAtEnd}
use Rattle.tbl_kinds.specs.Buffers.{Buffer}
use Rattle.tbl_outside.specs.Counts.{Rose}
use Rattle.tbl_outside.specs.Streams.{ReadsOn, ReadsToEnd}
use Rattle.tbl_outside.specs.declared.stream.Source.{Ghosts as SourceGhosts}
use Rattle.maker_words.specs.declared.inputs.InputFault.{InputFault}
use Rattle.maker_words.specs.declared.inputs.InputFault.TheVariants.{TooLong, Failed, Memory}

-- the most bytes of an input
abbrev pub most_input : ℕ
most_input = 1048576

-- how much was read where the reading broke off: of an input that is too long one byte more than it may have
abbrev pub BreaksOff : InputFault → ℕ → Type 0
BreaksOff TooLong count = count ≡ most_input + 1
BreaksOff Failed count = count ≤ most_input
BreaksOff Memory count = count ≤ most_input

-- all of the input was read, or the reading broke off
abbrev pub ReadsInput : Result Buffer InputFault → List ℕ → Type 0 → Type 0
ReadsInput (Ok input) read at_end = (input.list ≡ read) × (length read ≤ most_input) × at_end
ReadsInput (Err fault) read at_end = BreaksOff fault (length read)

-- a piece more was read, a byte or more; or the input is at its end; or the reading broke off
abbrev pub ReadsPiece : Result Bool InputFault → List ℕ → List ℕ → List ℕ → Type 0 → Type 0
ReadsPiece (Ok true) old new read at_end = (new ≡ old ++ read) × (0 < length read) × (length new ≤ most_input)
ReadsPiece (Ok false) old new read at_end = (new ≡ old) × (read ≡ []) × at_end
ReadsPiece (Err fault) old new read at_end = BreaksOff fault (length old + length read)

-- a piece was kept, or there is too much, or no memory for it
abbrev pub KeepsPiece : Result Unit InputFault → List ℕ → List ℕ → List ℕ → Type 0
KeepsPiece (Ok done) old new piece = (new ≡ old ++ piece) × (length new ≤ most_input)
KeepsPiece (Err fault) old new piece = BreaksOff fault (length old + length piece)

-- the status where an input wasn't read to its end
abbrev pub status_of : InputFault → ℕ
status_of TooLong = 12
status_of Failed = 3
status_of Memory = 1

-- so many bytes may come next
pub record IsRoom (len room : ℕ) : Type 0 where
  pub some : 0 < room
  pub few : room ≤ 4096
  pub fits : len + room ≤ most_input + 1

-- a piece was kept or not, and no read failed
pub record KeepsAll (result : Result Unit InputFault) (old new piece : List ℕ) : Type 0 where
  pub kept : KeepsPiece result old new piece
  pub cause : IfErr result (λ fault. fault ≢ Failed)

-- a source gave a piece of an input; its failures are told, and nothing is read after its end
pub record TakesPiece {S : Type 0} (g : SourceGhosts S) (source source_then : S) (input input_then : List ℕ) (result : Result Bool InputFault) : Type 0 where
  pub reads : (read : List ℕ) × (g.left source ≡ prepend_known read (g.left source_then)) × ReadsPiece result input input_then read (IsAtEnd (g.left source_then))
  pub failed : IfErr result (λ fault. fault ≡ Failed → Rose (g.faults source) (g.faults source_then))
  pub still : OnOk result (g.faults source_then ≡ g.faults source)
  pub other : IfErr result (λ fault. (fault ≢ Failed) → g.faults source_then ≡ g.faults source)
  pub count : g.faults source ≤ g.faults source_then
  pub goes_on : result ≡ Ok true → ReadsOn (g.how_far source) (g.how_far source_then)
  pub once : ReadsToEnd (g.how_far source) (g.how_far source_then)

-- it gave the input
pub record TakesInput {S : Type 0} (g : SourceGhosts S) (source source_then : S) (result : Result Buffer InputFault) : Type 0 where
  pub reads : (read : List ℕ) × (g.left source ≡ prepend_known read (g.left source_then)) × ReadsInput result read (IsAtEnd (g.left source_then))
  pub failed : IfErr result (λ fault. fault ≡ Failed → Rose (g.faults source) (g.faults source_then))
  pub still : OnOk result (g.faults source_then ≡ g.faults source)
  pub other : IfErr result (λ fault. (fault ≢ Failed) → g.faults source_then ≡ g.faults source)
  pub once : ReadsToEnd (g.how_far source) (g.how_far source_then)
