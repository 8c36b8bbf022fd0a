-- What is told of a session that was played before its first entry was written.
use Rattle.std.specs.Prelude.{◌≡◌, ◌⊎◌, ℕ, List, Option, Some, None}
use Rattle.tbl_outside.specs.Counts.{Rose}
use Rattle.tbl_outside.specs.Streams.{TakesFront}
use Rattle.tbl_core.specs.Service.{CoreView}
use Rattle.tbl_core.specs.declared.service.StepFault.{StepFault}
use Rattle.tbl_core.specs.declared.service.StepFault.TheVariants.{Memory as NoMemory, BootFault as Faulted, BootStopped as Stopped}
use Rattle.tbl_kinds.specs.declared.entry.Entry.{Entry}
use Rattle.tbl_stream.specs.Places.{told_from}
use Rattle.tbl_stream.specs.Standing.{FrontBy, IsWritten, TellsBoot, TellsCause, way_of}
use Rattle.tbl_stream.specs.Writing.{Taken}
use Rattle.tbl_stream.specs.declared.standing.Standing.{Standing}
use Rattle.tbl_stream.specs.declared.standing.Standing.TheVariants.{Memory, BootFault, BootStopped, SinkFailed, Unwritten}

-- all entries were written; or the sink failed within one, or memory ran out for one
abbrev pub WroteAll : Option Standing → List Entry → Taken → Taken → Type 0
WroteAll None entries before after = IsWritten 0 entries before.0 after.0 × (after.1 ≡ before.1)
WroteAll (Some SinkFailed) entries before after = TakesFront before.0 after.0 (told_from 0 entries) × Rose before.1 after.1
WroteAll (Some Unwritten) entries before after = TakesFront before.0 after.0 (told_from 0 entries) × (after.1 ≡ before.1)
WroteAll (Some _) entries before after = ⊥

-- the standing of a session after what its crew played: a fault that a step answered has precedence over what was read
abbrev pub standing_behind : Option StepFault → Standing → Standing
standing_behind None read = read
standing_behind (Some NoMemory) read = Memory
standing_behind (Some Faulted) read = BootFault
standing_behind (Some Stopped) read = BootStopped

-- the telling stopped: the sink failed, or memory ran out for a spelling
abbrev pub IsCut : Standing → Type 0
IsCut SinkFailed = Unit {0}
IsCut Unwritten = Unit {0}
IsCut _ = ⊥

-- and such a stop has precedence over both
abbrev pub StandsBehind : Option StepFault → Standing → Standing → Type 0
StandsBehind fault read standing = (standing ≡ standing_behind fault read) ⊎ IsCut standing

-- The entries of a crew were told, after this fault and what was read, and this is the standing then.
pub record TellsCrew {B C : Type 0} (fault : Option StepFault) (read standing : Standing) (core : CoreView B C) (before after : Taken) : Type 0 where
  pub behind : StandsBehind fault read standing
  -- the sink took the spellings of the entries, or a front of them if it failed or memory ran out
  pub front : FrontBy (way_of standing) core.entries before.0 after.0
  -- a boot that ended the service is in the last entry, and is reported
  pub boot : TellsBoot standing core.state.ended core.entries
  -- a write failed only if the standing says so
  pub cause : TellsCause standing before.1 after.1
