-- Filled dumps come to their end in two parts: their files are written, while no dump has ended yet, and then all end.
use Rattle.std.specs.Prelude.{◌≡◌, ℕ, ◌+◌, ◌*◌, ◌≤◌, List, length, count_by, Option, Result, Ok, Err, if◌then◌else◌}
use Rattle.std.specs.List.{fold}
use Rattle.tbl_kinds.specs.Drawer.{File}
use Rattle.tbl_model.specs.State.{State, Tables}
use Rattle.tbl_model.specs.Tables.{table_at}
use Rattle.tbl_model.specs.TableSteps.{end_dump}
use Rattle.tbl_model.specs.Dumps.{Ended, then_end, is_filled}
use Rattle.tbl_model.specs.declared.telemetry.TelemetryEvent.{TelemetryEvent}
use Rattle.request_effects.specs.Reports.{Reported}
use Rattle.desk.specs.Rows.{rows_in}
use Rattle.desk.specs.declared.desk.Desk.{Desk}

-- what was written so far: the drawer, the bytes of all files, and what is reported of them
pub record Written : Type 0 where
  pub drawer : List File
  pub bytes : List ℕ
  pub events : List TelemetryEvent

abbrev pub written : List File → List ℕ → List TelemetryEvent → Written
written drawer bytes events = record { drawer = drawer; bytes = bytes; events = events }

-- with these files, in this state
abbrev pub with_files : State → Written → Ended
with_files s w = record { state = record s { drawer = w.drawer }; bytes = w.bytes; events = w.events }

abbrev pub files_of : Ended → Written
files_of e = written e.state.drawer e.bytes e.events

-- the file of the dump in this row, as it is written when the dump ends
abbrev pub then_write : State → Written → ℕ → Written
then_write s w row = files_of (then_end (with_files s w) row)

-- the dump in this row is over, if it is filled
abbrev pub then_finish : Tables → ℕ → Tables
then_finish tables row = if is_filled (table_at tables row) then end_dump row tables else tables

-- how many of the tables in these rows have a filled dump
abbrev pub filled_count : Tables → List ℕ → ℕ
filled_count tables rows = count_by (λ row. is_filled (table_at tables row)) rows

-- ---- how files are written

-- the desk, the bytes of all files so far, and what is reported of them
pub record Filing (C : Type 0) : Type 0 where
  pub desk : Desk C
  pub bytes : List ℕ
  pub report : Reported

abbrev pub filing : {C : Type 0} → Desk C → List ℕ → Reported → Filing C
filing desk bytes report = record { desk = desk; bytes = bytes; report = report }

-- the files of the filled dumps in these rows were written, in their order: no dump has ended yet, and nothing else is reported
pub record Files {C : Type 0} (places : List (Option ℕ)) (old new : Filing C) : Type 0 where
  pub effect : (s : State) → s.tables ≡ old.desk.tables → s.seconds ≡ old.desk.clock.seconds → s.sub ≡ old.desk.clock.sub
      → fold (then_write s) (written old.desk.drawer old.bytes old.report.events) (rows_in places) ≡ written new.desk.drawer new.bytes new.report.events
  pub events : length new.report.events ≤ length old.report.events + filled_count old.desk.tables (rows_in places)
  pub bytes : length new.bytes ≤ length old.bytes + 16500 * length places
  pub alone : new.report ≡ record old.report { events = new.report.events }
  pub drawer : new.desk ≡ record old.desk { drawer = new.desk.drawer }

-- or memory ran out, and the desk is as it was
abbrev pub Filed : {C X E : Type 0} → List (Option ℕ) → Filing C → Filing C → Result X E → Type 0
Filed places old new (Ok x) = Files places old new
Filed places old new (Err e) = new.desk ≡ old.desk
