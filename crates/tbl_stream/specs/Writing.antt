-- What a sink took.
use Rattle.std.specs.Prelude.{◌≡◌, ℕ, List, Option, Some, None}
use Rattle.std.specs.Io.KnownBytes.{append_known}
use Rattle.tbl_outside.specs.Counts.{Rose}
use Rattle.tbl_outside.specs.Streams.{TakesFront}
use Rattle.tbl_outside.specs.declared.stream.Sink.{Ghosts as SinkGhosts}
use Rattle.tbl_stream.specs.declared.standing.Standing.{Standing}
use Rattle.tbl_stream.specs.declared.standing.Standing.TheVariants.{SinkFailed, Unwritten}

-- what a sink had taken, if it shows it, and how often it had failed
abbrev pub Taken : Type 0
Taken = Option (List ℕ) × ℕ

abbrev pub taken_of : {K : Type 0} → SinkGhosts K → K → Taken
taken_of k sink = (k.taken sink, k.faults sink)

-- a piece was written; or the sink failed within it, or memory ran out before
abbrev pub Wrote : Option Standing → List ℕ → Taken → Taken → Type 0
Wrote None piece before after = (after.0 ≡ append_known before.0 piece) × (after.1 ≡ before.1)
Wrote (Some SinkFailed) piece before after = TakesFront before.0 after.0 piece × Rose before.1 after.1
Wrote (Some Unwritten) piece before after = (after.0 ≡ before.0) × (after.1 ≡ before.1)
Wrote (Some _) piece before after = ⊥
