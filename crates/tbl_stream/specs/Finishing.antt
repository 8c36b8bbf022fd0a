-- The end of a stream.
use Rattle.std.specs.Prelude.{◌≡◌, ◌⊎◌, ℕ, ◌%◌, ◌^◌, List, Bool, if◌then◌else◌}
use Rattle.std.specs.Io.KnownBytes.{append_known}
use Rattle.tbl_kinds.specs.Transcript.{end_bytes}
use Rattle.tbl_outside.specs.Counts.{Rose}
use Rattle.tbl_outside.specs.Streams.{TakesFront}
use Rattle.tbl_core.specs.declared.service.StartFault.{StartFault}
use Rattle.tbl_core.specs.declared.service.StartFault.TheVariants.{Memory as NoMemory, BootFault as FirstFault, BootStopped as FirstStopped}
use Rattle.tbl_stream.specs.Places.{place_of}
use Rattle.tbl_stream.specs.Playing.{Played}
use Rattle.tbl_stream.specs.Standing.{Way, all_written, not_taken, not_spelled, way_of}
use Rattle.tbl_stream.specs.Writing.{Taken}
use Rattle.tbl_stream.specs.declared.standing.Standing.{Standing}
use Rattle.tbl_stream.specs.declared.standing.Standing.TheVariants.{Open, Bad, TooMany, Full, BootFault, BootStopped, SinkFailed, Memory, Unwritten}

-- the status of an end, by whether a read failed and whether no byte is left after the records that were played
abbrev pub status_of : Standing → Bool → Bool → ℕ
status_of Open failed whole = if failed then 3 else if whole then 0 else 5
status_of Bad failed whole = 5
status_of TooMany failed whole = 6
status_of Full failed whole = 13
status_of BootFault failed whole = 7
status_of BootStopped failed whole = 8
status_of SinkFailed failed whole = 4
status_of Memory failed whole = 1
status_of Unwritten failed whole = 1

-- these bytes were written, or the sink failed inside them
abbrev pub WritesEnd : ℕ → ℕ → List ℕ → Taken → Taken → Type 0
WritesEnd status result bytes before after =
    ((result ≡ status) × (after.0 ≡ append_known before.0 bytes) × (after.1 ≡ before.1))
    ⊎ ((result ≡ 4) × TakesFront before.0 after.0 bytes × Rose before.1 after.1)

-- the status of a stream whose service didn't begin
abbrev pub unbegun_status : StartFault → ℕ
unbegun_status NoMemory = 1
unbegun_status FirstFault = 7
unbegun_status FirstStopped = 8

-- its end: only the end record, unless memory ran out
abbrev pub FinishesUnbegun : StartFault → ℕ → Taken → Taken → Type 0
FinishesUnbegun NoMemory result before after = (result ≡ 1) × (after.0 ≡ before.0) × (after.1 ≡ before.1)
FinishesUnbegun FirstFault result before after = WritesEnd 7 result (end_bytes 7 0 0) before after
FinishesUnbegun FirstStopped result before after = WritesEnd 8 result (end_bytes 8 0 0) before after

-- the end record of what was played so far
abbrev pub end_at : {B C : Type 0} → Played B C → ℕ → List ℕ
end_at p status = end_bytes status (place_of p.place) (p.offset % 2 ^ 32)

-- how the writing ended: with this end record, unless an entry wasn't written whole
abbrev pub FinishesBy : Way → ℕ → ℕ → List ℕ → Taken → Taken → Type 0
FinishesBy all_written status result bytes before after = WritesEnd status result bytes before after
FinishesBy not_taken status result bytes before after = (result ≡ 4) × (after.0 ≡ before.0)
FinishesBy not_spelled status result bytes before after = (result ≡ 1) × (after.0 ≡ before.0) × (after.1 ≡ before.1)

-- the end record has the status that this standing says
abbrev pub FinishesAs : Standing → Bool → Bool → ℕ → (ℕ → List ℕ) → Taken → Taken → Type 0
FinishesAs standing failed whole result end before after =
    let status = status_of standing failed whole in FinishesBy (way_of standing) status result (end status) before after
