-- How a request is reported: its packets, and what it adds to the running numbers.
use Rattle.std.specs.Prelude.{◌≡◌, ℕ, List}
use Rattle.tbl_kinds.specs.declared.entry.Answer.{Answer}
use Rattle.tbl_kinds.specs.declared.note.BankNote.{BankNote}
use Rattle.tbl_kinds.specs.declared.request.Request.{Request}
use Rattle.tbl_model.specs.State.{Tables}
use Rattle.tbl_model.specs.Counts.{Told, Counts}
use Rattle.tbl_model.specs.CountsAfter.{tally_of, counts_after}
use Rattle.tbl_model.specs.Replies.{packets_by}
use Rattle.request_effects.specs.Reports.{Reported}
use Rattle.request_effects.specs.Effects.{Effect, reported_effect, told_at}
use Rattle.request_effects.specs.declared.clock.Clock.{Clock}

-- it is counted, and these are its packets
pub record Tells (old new : Counts) (t : Told) (sent : List ℕ) : Type 0 where
  pub counts : new ≡ counts_after old (tally_of t)
  pub packets : sent ≡ packets_by old new t

-- what a request with this answer and this report did, by the reply's bytes and the note
abbrev pub reported : Answer → Reported → List ℕ → BankNote → Effect
reported answer report bytes note = reported_effect answer bytes report note

-- it is told of the request, at this time and with these tables, whatever the reply's bytes and the note are: telemetry reports neither
abbrev pub TellsAt : Clock → Tables → (List ℕ → BankNote → Effect) → Request → Counts → Counts → List ℕ → Type 0
TellsAt clock tables did request old new sent = (bytes : List ℕ) (note : BankNote) → Tells old new (told_at clock.seconds clock.sub tables request (did bytes note)) sent
