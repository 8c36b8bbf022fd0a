-- What a sink had taken, and what it has taken once an entry was written to it.
use Rattle.std.specs.Prelude.{◌≡◌, ℕ, ◌≤◌, List, Option, Result, OnOk, OnErr, IfErr}
use Rattle.std.specs.Io.KnownBytes.{append_known}
use Rattle.tbl_outside.specs.Counts.{Rose}
use Rattle.tbl_outside.specs.Streams.{TakesFront}
use Rattle.tbl_outside.specs.declared.stream.Sink.{Ghosts as SinkGhosts}
use Rattle.entry_output.specs.declared.writing.WriteFault.{WriteFault}
use Rattle.entry_output.specs.declared.writing.WriteFault.TheVariants.{Sink, Memory}

-- the bytes that a sink had taken, if it tells them, and how often it had failed
abbrev pub Taken : Type 0
Taken = Option (List ℕ) × ℕ

abbrev pub taken_of : {K : Type 0} → SinkGhosts K → K → Taken
taken_of g sink = (g.taken sink, g.faults sink)

-- it took these bytes, and didn't fail
abbrev pub Takes : List ℕ → Taken → Taken → Type 0
Takes bytes before after = (after.0 ≡ append_known before.0 bytes) × (after.1 ≡ before.1)

-- it failed, and took a front of them; or memory ran out, and it took none
abbrev pub Breaks : WriteFault → List ℕ → Taken → Taken → Type 0
Breaks Sink bytes before after = TakesFront before.0 after.0 bytes × Rose before.1 after.1
Breaks Memory bytes before after = (after.0 ≡ before.0) × (after.1 ≡ before.1)

-- it took these bytes in several pieces, or failed and took a front of them
pub record TakesWhole {V : Type 0} {E : Type 0} (bytes : List ℕ) (before after : Taken) (result : Result V E) : Type 0 where
  pub ok : OnOk result (after.0 ≡ append_known before.0 bytes)
  pub front : OnErr result (TakesFront before.0 after.0 bytes)
  pub still : OnOk result (after.1 ≡ before.1)
  pub cause : OnErr result (Rose before.1 after.1)
  pub count : before.1 ≤ after.1

-- an entry of these bytes was written to it, or it is told why not
pub record Writes {V : Type 0} (bytes : List ℕ) (before after : Taken) (result : Result V WriteFault) : Type 0 where
  pub takes : OnOk result (Takes bytes before after)
  pub breaks : IfErr result (λ fault. Breaks fault bytes before after)
  pub count : before.1 ≤ after.1
