-- The effect of a request as the code has it, and what it represents.
use Rattle.std.specs.Prelude.{◌≡◌, ℕ, ◌+◌, ◌*◌, ◌≤◌, List, [], ◌∷◌, length, Option, None, Some, IfSome}
use Rattle.std.proofs.Common.{ℤ}
use Rattle.tbl_kinds.specs.Admitted.{all_admitted}
use Rattle.tbl_model.specs.State.{State, Tables, first_state}
use Rattle.tbl_model.specs.Effects as model
use Rattle.tbl_model.specs.Telemetry.{Question}
use Rattle.tbl_model.specs.Given.{Given, nothing_given}
use Rattle.tbl_model.specs.Counts.{Told}
use Rattle.tbl_model.specs.History.{told}
use Rattle.tbl_model.specs.Fit.{HasCode}
use Rattle.tbl_model.specs.declared.telemetry.Shown.{Shown}
use Rattle.tbl_model.specs.declared.telemetry.Shown.TheVariants.{Nothing, Housekeeping, Registry}
use Rattle.tbl_kinds.specs.declared.telemetry.Event.{Event}
use Rattle.tbl_kinds.specs.declared.request.Actor.TheVariants.{Ground}
use Rattle.tbl_kinds.specs.declared.request.Request.{Request}
use Rattle.tbl_kinds.specs.declared.entry.Answer.{Answer}
use Rattle.tbl_kinds.specs.declared.note.BankNote.{BankNote}
use Rattle.tbl_kinds.specs.Notes.{untouched}
use Rattle.tbl_kinds.specs.Buffers.{Buffer}
use Rattle.tbl_model.specs.declared.telemetry.Named.{Named}
use Rattle.tbl_model.specs.declared.telemetry.Notice.{Notice}
use Rattle.tbl_model.specs.declared.telemetry.TelemetryEvent.{TelemetryEvent}
use Rattle.request_effects.specs.Reports.{Reported, nothing_reported}

-- ---- what a request did

-- once it is done: its answer and the reply's bytes, what is reported of it, and how its calls of the store went
pub record Effect : Type 0 where
  pub answer : Answer
  pub bytes : List ℕ
  pub table : Option Named
  pub events : List TelemetryEvent
  pub shown : Shown
  pub notice : Option Notice
  pub note : BankNote
  pub verdicts : List (Option ℤ)

abbrev pub reported_effect : Answer → List ℕ → Reported → BankNote → Effect
reported_effect answer bytes report note = record {
  answer = answer;
  bytes = bytes;
  table = report.table;
  events = report.events;
  shown = report.shown;
  notice = report.notice;
  note = note;
  verdicts = report.verdicts;
}

-- only the answer is reported
abbrev pub noted_effect : Answer → List ℕ → BankNote → Effect
noted_effect answer bytes note = reported_effect answer bytes nothing_reported note

abbrev pub quiet_effect : Answer → List ℕ → Effect
quiet_effect answer bytes = noted_effect answer bytes untouched

-- it called nothing of the store
abbrev pub told_effect : Answer → List ℕ → Reported → Effect
told_effect answer bytes report = reported_effect answer bytes report untouched

-- ---- what it represents

-- it is this effect, which asks validation functions these questions, calls nothing of the store, and leaves this state
pub record IsEffect (done : Effect) (asks : List Question) (after : State) (e : model.Effect) : Type 0 where
  pub status : e.status ≡ done.answer.status
  pub detail : e.detail ≡ done.answer.detail
  pub bytes : e.bytes ≡ done.bytes
  pub table : e.table ≡ done.table
  pub events : e.events ≡ done.events
  pub shown : e.shown ≡ done.shown
  pub questions : e.questions ≡ asks
  pub calls : e.calls ≡ []
  pub notice : e.notice ≡ done.notice
  pub next : e.next ≡ after

-- it is this effect, which asks what it asks and leaves this state
abbrev pub IsEffectAsking : Effect → State → model.Effect → Type 0
IsEffectAsking done after e = IsEffect done e.questions after e

-- the effect as it is reported, which is without the calls of the store
abbrev pub uncalled : model.Effect → model.Effect
uncalled e = record e { calls = [] }

-- what came from the outside in it
abbrev pub given_of : Effect → Given
given_of done = record { note = done.note; verdicts = done.verdicts }

-- ---- what is reported of it

-- the same without images, questions and calls, which telemetry doesn't report
abbrev pub without_images : Effect → State → model.Effect
without_images done next = record {
  status = done.answer.status;
  detail = done.answer.detail;
  bytes = done.bytes;
  table = done.table;
  events = done.events;
  images = [];
  questions = [];
  calls = [];
  shown = done.shown;
  notice = done.notice;
  next = next;
}

-- a state of which telemetry reports the same: it has the time and the tables
abbrev pub seen_at : ℕ → ℕ → Tables → State
seen_at seconds sub tables = record (first_state [] [] all_admitted) { tables = tables; seconds = seconds; sub = sub }

-- what telemetry reports of a request with this effect, at this time, which leaves these tables
abbrev pub told_at : ℕ → ℕ → Tables → Request → Effect → Told
told_at seconds sub tables request done = told (seen_at seconds sub tables) Ground request (without_images done (seen_at seconds sub tables))

abbrev pub seen : Effect → model.Effect
seen done = without_images done (first_state [] [] all_admitted)

abbrev pub listed : Option Event → List Event
listed None = []
listed (Some event) = event ∷ []

-- ---- how much it reports

-- the length of the packet after the events
abbrev pub shown_len : Shown → ℕ
shown_len Nothing = 0
shown_len Housekeeping = 290
shown_len (Registry row) = 156

-- and of a notice
abbrev pub notice_len : Option Notice → ℕ
notice_len None = 0
notice_len (Some notice) = 12

-- no packet is there yet, and there is room for those that report the effect, and for so many bytes more
pub record HasRoom (more : ℕ) (packets : Buffer) (done : Effect) : Type 0 where
  pub none : packets.list ≡ []
  pub room : more + 24 * length done.events + shown_len done.shown + notice_len done.notice ≤ packets.spare

-- a reply has at most this many bytes, and its packets too
abbrev pub reply_limit : ℕ
reply_limit = 66000

-- it has so many events at most, its notice can be sent, and its reply isn't too long
pub record IsWithin (most : ℕ) (done : Effect) : Type 0 where
  pub events : length done.events ≤ most
  pub notice : IfSome done.notice HasCode
  pub bytes : length done.bytes ≤ reply_limit

-- it answers, with a reply that is not too long, and only the table that it names is reported besides
pub record IsQuiet (done : Effect) : Type 0 where
  pub events : done.events ≡ []
  pub shown : done.shown ≡ Nothing
  pub notice : done.notice ≡ None
  pub given : given_of done ≡ nothing_given
  pub bytes : length done.bytes ≤ reply_limit
