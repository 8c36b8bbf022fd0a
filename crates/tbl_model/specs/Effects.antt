-- The effect of a request: its answer, its events, and the state that it leaves.
use Rattle.std.specs.Prelude.{ℕ, List, [], Bool, Option, None}
use Rattle.std.specs.Option.{option_map}
use Rattle.tbl_kinds.specs.StoreCalls.{StoreCall}
use Rattle.tbl_model.specs.State.{State, Tables}
use Rattle.tbl_model.specs.Telemetry.{Question}
use Rattle.tbl_model.specs.declared.telemetry.TelemetryEvent.{TelemetryEvent}
use Rattle.tbl_model.specs.declared.telemetry.Named.{Named}
use Rattle.tbl_model.specs.declared.telemetry.Notice.{Notice}
use Rattle.tbl_model.specs.declared.telemetry.Shown.{Shown}
use Rattle.tbl_model.specs.declared.telemetry.Shown.TheVariants.{Nothing}
use Rattle.tbl_kinds.specs.declared.entry.Answer.{Answer}
use Rattle.tbl_kinds.specs.declared.status.Status.{Status}

pub record Effect : Type 0 where
  pub status : Status
  pub detail : ℕ
  pub bytes : List ℕ  -- the reply's bytes
  pub table : Option Named  -- the table that a command names or a load fills
  pub events : List TelemetryEvent  -- what is done that telemetry tells of, in order
  pub images : List (Option (List ℕ))  -- the image that each event is about, none where it is about no image
  pub questions : List Question  -- what validation functions are asked, in order
  pub calls : List StoreCall  -- the calls of the store, in order
  pub shown : Shown  -- the packet after the events
  pub notice : Option Notice
  pub next : State

-- an answer that leaves the state and does nothing
abbrev pub answered : State → Status → ℕ → Effect
answered s status detail = record {
  status = status;
  detail = detail;
  bytes = [];
  table = None;
  events = [];
  images = [];
  questions = [];
  calls = [];
  shown = Nothing;
  notice = None;
  next = s;
}

-- the answer, the state that is left, and nothing else
abbrev pub answered_left : State → Answer → State → Effect
answered_left s answer next = record (answered s answer.status answer.detail) { next = next }

-- the answer, the state with these tables, and nothing else
abbrev pub answered_with : State → Answer → Tables → Effect
answered_with s answer tables = answered_left s answer (record s { tables = tables })

-- the state with these tables and pending validations
abbrev pub left_with : State → Tables → List (ℕ × Bool) → State
left_with s tables pending = record s { tables = tables; pending = pending }

-- the table of this full name, in the row where it was found
abbrev pub named : List ℕ → Option ℕ → Option Named
named name row = option_map (λ row. record { row = row; name = name }) row
