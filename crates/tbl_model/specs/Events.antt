-- The event packets of a request.
use Rattle.std.specs.Prelude.{ℕ, List, [], ◌∷◌, ◌++◌, map, not, if◌then◌else◌, Option, unwrap_or, is_some}
use Rattle.std.specs.Option.{option_map}
use Rattle.std.proofs.Common.{ℤ}
use Rattle.tbl_kinds.specs.Statuses.{is_success}
use Rattle.tbl_model.specs.Telemetry.{verdict_bits, is_good}
use Rattle.tbl_model.specs.Effects.{Effect}
use Rattle.tbl_model.specs.Commands.{ReadCommand, read_command_in, asks_housekeeping, command_code}
use Rattle.tbl_model.specs.declared.telemetry.TelemetryEvent.{TelemetryEvent}
use Rattle.tbl_model.specs.declared.telemetry.TelemetryEvent.TheVariants.{Finished, Judged, Activated, CopyFailed, Dumped, NotDumped}
use Rattle.tbl_model.specs.declared.telemetry.Named.{Named}
use Rattle.tbl_kinds.specs.declared.request.Request.{Request}
use Rattle.tbl_kinds.specs.declared.status.Status.{Status}
use Rattle.tbl_kinds.specs.declared.status.TheConstants.Status.{SUCCESS, ERR_VALIDATION_FAILED, ERR_CDS_FAULT, ERR_DRAWER_FULL}
use Rattle.tbl_kinds.specs.declared.telemetry.Event.{Event}

-- the row field of an event: the row, or FFFF for none
abbrev pub row_field : Option ℕ → ℕ
row_field row = unwrap_or row 0xFFFF

abbrev pub event : ℕ → Status → ℕ → ℕ → Event
event number status row detail = record { number = number; status = status; row = row; detail = detail }

-- 3: a verdict came
abbrev pub verdict_event : ℕ → ℤ → Event
verdict_event row verdict = event 3 (if is_good verdict then SUCCESS else ERR_VALIDATION_FAILED) row (verdict_bits verdict)

-- 5: an image went active; 6: a copy to the store failed; 7, 8: a dump file was written, or wasn't
abbrev pub sent_event : TelemetryEvent → Event
sent_event (Finished row active check verdict name) = verdict_event row verdict
sent_event (Judged row verdict) = verdict_event row verdict
sent_event (Activated row count name) = event 5 SUCCESS row count
sent_event (CopyFailed row slot) = event 6 ERR_CDS_FAULT row slot
sent_event (Dumped row file len) = event 7 SUCCESS (row_field row) len
sent_event (NotDumped row) = event 8 ERR_DRAWER_FULL row 0

-- the table that the command's event tells
abbrev pub table_field : Option Named → ℕ
table_field table = row_field (option_map (λ (t : Named). t.row) table)

-- 1: a command was accepted, but for a housekeeping request; 2: a command was refused
abbrev pub command_events : ReadCommand → Effect → List Event
command_events command effect =
    if not (is_some command) then []
    else (if not (is_success effect.status) then event 2 effect.status (table_field effect.table) effect.detail ∷ []
    else (if asks_housekeeping command then []
    else event 1 SUCCESS (table_field effect.table) (command_code command) ∷ []))

-- the command's own event, and then those of what was done, in order
abbrev pub events_of : Request → Effect → List Event
events_of request effect = command_events (read_command_in request) effect ++ map sent_event effect.events
