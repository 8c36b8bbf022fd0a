-- What telemetry reports of a request.
use Rattle.std.specs.Prelude.{ℕ, List, [], ◌∷◌, Option, None}
use Rattle.std.proofs.Common.{ℤ}
use Rattle.tbl_model.specs.declared.telemetry.Named.{Named}
use Rattle.tbl_model.specs.declared.telemetry.Notice.{Notice}
use Rattle.tbl_model.specs.declared.telemetry.Shown.{Shown}
use Rattle.tbl_model.specs.declared.telemetry.Shown.TheVariants.{Nothing}
use Rattle.tbl_model.specs.declared.telemetry.TelemetryEvent.{TelemetryEvent}

-- the table that a command names or a load fills, what was done, the packet after the events, the packet that notifies an application of
-- pending work, and what validation functions answered
pub record Reported : Type 0 where
  pub table : Option Named
  pub events : List TelemetryEvent
  pub shown : Shown
  pub notice : Option Notice
  pub verdicts : List (Option ℤ)

abbrev pub nothing_reported : Reported
nothing_reported = record { table = None; events = []; shown = Nothing; notice = None; verdicts = None ∷ None ∷ [] }

-- no request has more events, besides a command's own
abbrev pub most_events : ℕ
most_events = 8
