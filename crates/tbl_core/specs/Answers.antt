-- What becomes of an entry, from its request to its packets.
use Rattle.std.specs.Prelude.{◌≡◌, ◌≤◌, ℕ, List, false, [], Option, None, Result, Ok, Err, IfOk, OnErr}
use Rattle.tbl_kinds.specs.Buffers.{Buffer}
use Rattle.tbl_kinds.specs.Given.{nothing_given}
use Rattle.tbl_kinds.specs.GroundCommands.{GroundCommand, command_in}
use Rattle.tbl_kinds.specs.Requests.{Fits}
use Rattle.tbl_kinds.specs.declared.entry.Answer.{Answer}
use Rattle.tbl_kinds.specs.declared.entry.Entry.{Entry}
use Rattle.tbl_kinds.specs.declared.entry.Reply.{Reply}
use Rattle.tbl_kinds.specs.declared.note.BankNote.{BankNote}
use Rattle.tbl_kinds.specs.declared.note.Outcome.TheVariants.{Stopped}
use Rattle.tbl_kinds.specs.declared.request.Actor.{Actor}
use Rattle.tbl_kinds.specs.declared.request.Actor.TheVariants.{Ground}
use Rattle.tbl_kinds.specs.declared.request.Request.TheVariants as ask
use Rattle.tbl_model.specs.Commands.{read_command_in}
use Rattle.tbl_model.specs.Counts.{Counts, is_reset}
use Rattle.tbl_model.specs.Dispatch.{effect_of}
use Rattle.tbl_model.specs.Effects as model
use Rattle.tbl_model.specs.Given.{Given}
use Rattle.tbl_model.specs.State.{State}
use Rattle.tbl_outside.specs.declared.bank.Bank.{Ghosts}
use Rattle.tbl_outside.specs.declared.validator.Validator.{Ghosts as ValidatorGhosts}
use Rattle.request_effects.specs.Effects.{Effect, HasRoom, IsWithin, quiet_effect, told_at}
use Rattle.request_effects.specs.Reports.{Reported, most_events, nothing_reported}
use Rattle.request_effects.specs.declared.clock.Clock.{Clock}
use Rattle.store_requests.specs.Called.{NoBoot}
use Rattle.store_requests.specs.Copying.{told_in}
use Rattle.reply_packets.specs.Counters.{counts_view}
use Rattle.reply_packets.specs.Telling.{Tells}
use Rattle.tbl_core.specs.Log.{IsSmall}
use Rattle.tbl_core.specs.Made.{IsMade}
use Rattle.tbl_core.specs.Making.{Step, step_of, Does, LeadsTo, Makes, Meets}
use Rattle.tbl_core.specs.Numbers.{AreCounts}
use Rattle.tbl_core.specs.Ready.{AreReady}
use Rattle.tbl_core.specs.Views.{PartsView, parts_view}
use Rattle.tbl_core.specs.declared.parts.Parts.{Parts}
use Rattle.tbl_core.specs.declared.parts.Telemetry.{Telemetry}

-- ---- an entry

-- it has no bytes and no packets yet, and there is room for one event packet
pub record IsEmptyReply (reply : Reply) : Type 0 where
  pub no_bytes : reply.bytes.list ≡ []
  pub no_packets : reply.packets.list ≡ []
  pub one_packet : 24 ≤ reply.packets.spare

-- nothing is answered to its request yet
pub record IsBegun (e : Entry) : Type 0 where
  pub reply : IsEmptyReply e.reply
  pub nothing : e.given ≡ nothing_given

-- the effect that an entry and its report have
abbrev pub effect_in : Entry → Reported → Effect
effect_in e report = record {
  answer = record { status = e.reply.status; detail = e.reply.detail };
  bytes = e.reply.bytes.list;
  table = report.table;
  events = report.events;
  shown = report.shown;
  notice = report.notice;
  note = e.given.note;
  verdicts = e.given.verdicts;
}

-- ---- a request

-- the parts of the service, what is counted and reported, and an entry, before a request or after it
pub record Moment (B C : Type 0) : Type 0 where
  pub parts : PartsView B C
  pub counts : Counts
  pub report : Reported
  pub entry : Entry

abbrev pub moment_at : {B C : Type 0} → PartsView B C → Counts → Reported → Entry → Moment B C
moment_at parts counts report entry = record { parts = parts; counts = counts; report = report; entry = entry }

abbrev pub moment_of : {B C : Type 0} → Parts B C → Telemetry → Entry → Moment B C
moment_of parts telemetry entry = moment_at (parts_view parts) (counts_view telemetry.counters) telemetry.report entry

-- the request of the entry can be answered: its actor may make it, nothing is answered to it and reported of it yet, the parts are ready, and
-- no running number is too great
pub record CanAnswer {B C : Type 0} (v : ValidatorGhosts C) (now : Moment B C) : Type 0 where
  pub fits : Fits now.entry.actor now.entry.request
  pub begun : IsBegun now.entry
  pub nothing : now.report ≡ nothing_reported
  pub ready : AreReady v now.parts
  pub numbers : AreCounts now.counts

-- the request of the entry was made, and the entry has what it did and how it is reported
pub record Answers {B C : Type 0} (g : Ghosts B) (v : ValidatorGhosts C) (old new : Moment B C) : Type 0 where
  pub actor_is : new.entry.actor ≡ old.entry.actor
  pub request_is : new.entry.request ≡ old.entry.request
  pub made : IsMade g v (step_of old.parts new.parts new.entry.request) (λ s given. effect_of s new.entry.actor new.entry.request given) (effect_in new.entry new.report)
  pub told : Tells old.counts new.counts (told_at old.parts.seconds old.parts.sub new.parts.tables new.entry.request (effect_in new.entry new.report)) new.entry.reply.packets.list
  pub small : IsSmall new.entry

-- and if memory ran out, the parts and what is counted are as they were
abbrev pub Answered : {B C E : Type 0} → Ghosts B → ValidatorGhosts C → Moment B C → Moment B C → Result Unit E → Type 0
Answered g v old new (Ok x) = Answers g v old new
Answered g v old new (Err e) = (new.parts ≡ old.parts) × (new.counts ≡ old.counts)

-- a request that isn't reported was made so, whatever is counted
abbrev pub AnswersAlone : {B C : Type 0} → Ghosts B → ValidatorGhosts C → PartsView B C → PartsView B C → Entry → Entry → Type 0
AnswersAlone g v old new begun entry = (counts : Counts) → AreCounts counts → Answers g v (moment_at old counts nothing_reported begun) (moment_at new counts nothing_reported entry)

abbrev pub AnsweredAlone : {B C E : Type 0} → Ghosts B → ValidatorGhosts C → PartsView B C → PartsView B C → Entry → Entry → Result Unit E → Type 0
AnsweredAlone g v old new begun entry (Ok x) = AnswersAlone g v old new begun entry
AnsweredAlone g v old new begun entry (Err e) = new ≡ old

-- ---- what was done, before the boot after a stop of it

-- a request of this actor was made
pub record WasMade {B C : Type 0} (g : Ghosts B) (v : ValidatorGhosts C) (step : Step B C) (actor : Actor) (done : Effect) : Type 0 where
  pub makes : Makes g v step.request step.old step.new done
  pub meets : Meets g v step (λ s given. effect_of s actor step.request given) done

-- or memory ran out, and the parts are as they were
pub record Tries {B C E : Type 0} (g : Ghosts B) (v : ValidatorGhosts C) (step : Step B C) (actor : Actor) (result : Result Effect E) : Type 0 where
  pub made : IfOk result (WasMade g v step actor)
  pub err : OnErr result (step.new ≡ step.old)

-- what a command asks was made, whatever packet it was read from
abbrev pub CommandMade : {B C : Type 0} → Ghosts B → ValidatorGhosts C → PartsView B C → PartsView B C → Result GroundCommand Answer → Effect → Type 0
CommandMade g v old new read done = (packet : Buffer) → read ≡ command_in packet.list → WasMade g v (step_of old new (ask.Command packet)) Ground done

-- what the owner of the table in a row asks for it was made, whoever that is
abbrev pub OwnersMade : {B C : Type 0} → Ghosts B → ValidatorGhosts C → Step B C → ℕ → Effect → Type 0
OwnersMade g v step row done = (actor : Actor) → LeadsTo step.old actor step.request row → WasMade g v step actor done

-- a call was answered so that no packet reports, and that doesn't call the store; or memory ran out
pub record DoesQuietly {B C E : Type 0} (v : ValidatorGhosts C) (old new : PartsView B C) (means : State → Given → Option model.Effect) (bytes : List ℕ) (result : Result Answer E) : Type 0 where
  pub does : IfOk result (λ answer. Does v 0 old new means (quiet_effect answer bytes))
  pub err : OnErr result (new ≡ old)

-- ---- the end of a call

-- it is no command and no reset, nothing came from outside yet, what was done can be reported, and if a call of the store was stopped, no boot
-- has come after it yet and the service goes on
pub record CanEnd {B C : Type 0} (now : Moment B C) (note : BankNote) : Type 0 where
  pub no_command : read_command_in now.entry.request ≡ None
  pub no_reset : is_reset now.entry.request ≡ false
  pub nothing_given_yet : now.entry.given ≡ nothing_given
  pub fresh : note.outcome ≡ Stopped → NoBoot note
  pub live : note.outcome ≡ Stopped → now.parts.ended ≡ false
  pub within : IsWithin most_events (told_in now.entry.reply now.report note)
  pub room : HasRoom 0 now.entry.reply.packets (told_in now.entry.reply now.report note)

-- from whatever parts the request was made, at this time: it is answered from there
abbrev pub EndsCall : {B C : Type 0} → Ghosts B → ValidatorGhosts C → Clock → BankNote → Moment B C → Moment B C → Type 0
EndsCall {B} {C} g v clock note done new = (old : PartsView B C) → old.seconds ≡ clock.seconds → old.sub ≡ clock.sub
    → WasMade g v (step_of old done.parts done.entry.request) done.entry.actor (told_in done.entry.reply done.report note)
    → Answers g v (moment_at old done.counts done.report done.entry) new
