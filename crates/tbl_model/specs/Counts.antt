-- What telemetry counts over the history, and from which entry each of its "last" fields is read.
use Rattle.std.specs.Prelude.{ℕ, ◌==◌, ◌%◌, List, [], length, Bool, true, false, not, ◌&&◌, ◌||◌, if◌then◌else◌, count_by, sum_by, Option, Some, None, unwrap_or, is_some}
use Rattle.std.specs.List.{after_last, fold}
use Rattle.std.specs.Option.{option_map, option_or}
use Rattle.std.proofs.Common.{ℤ, pos}
use Rattle.tbl_model.specs.State.{State}
use Rattle.tbl_kinds.specs.Statuses.{is_success}
use Rattle.tbl_model.specs.Effects.{Effect}
use Rattle.tbl_model.specs.Commands.{ReadCommand, read_command_in, asks_housekeeping, asks_reset_counters, asks_validate, file_of_load}
use Rattle.tbl_model.specs.Telemetry.{is_good}
use Rattle.tbl_model.specs.Events.{events_of}
use Rattle.tbl_model.specs.declared.telemetry.TelemetryEvent.{TelemetryEvent}
use Rattle.tbl_model.specs.declared.telemetry.TelemetryEvent.TheVariants.{Finished, Activated, Dumped}
use Rattle.tbl_model.specs.declared.telemetry.Named.{Named}
use Rattle.tbl_model.specs.declared.telemetry.Shown.{Shown}
use Rattle.tbl_model.specs.declared.telemetry.Shown.TheVariants.{Housekeeping, Registry}
use Rattle.tbl_kinds.specs.declared.request.Actor.{Actor}
use Rattle.tbl_kinds.specs.declared.request.Request.{Request}
use Rattle.tbl_kinds.specs.declared.request.Request.TheVariants as ask
use Rattle.tbl_kinds.specs.declared.status.TheConstants.Status.{INFO_STOPPED}

-- an entry of the history as telemetry sees it: who requested what, the state before it, and its effect
pub record Told : Type 0 where
  pub actor : Actor
  pub request : Request
  pub before : State
  pub effect : Effect

-- ---- commands

-- an accepted command counts, but for a housekeeping request and RESET_COUNTERS
abbrev pub adds_accepted : ReadCommand → Effect → Bool
adds_accepted command effect = is_some command && is_success effect.status && not (asks_housekeeping command) && not (asks_reset_counters command)

abbrev pub adds_refused : ReadCommand → Effect → Bool
adds_refused command effect = is_some command && not (is_success effect.status)

-- an accepted VALIDATE
abbrev pub adds_request : ReadCommand → Effect → Bool
adds_request command effect = is_success effect.status && asks_validate command

-- ---- what clears

abbrev pub is_reset : Request → Bool
is_reset (ask.Reset kind) = true
is_reset _ = false

-- a stop inside the request
abbrev pub is_stopped : Effect → Bool
is_stopped effect = effect.status.0 == INFO_STOPPED.0

-- the service began anew: a reset, or a stop
abbrev pub restarts : Told → Bool
restarts t = is_reset t.request || is_stopped t.effect

-- an accepted RESET_COUNTERS
abbrev pub resets_counters : ReadCommand → Effect → Bool
resets_counters command effect = is_success effect.status && asks_reset_counters command

abbrev pub clears_counters : Told → Bool
clears_counters t = restarts t || resets_counters (read_command_in t.request) t.effect

-- ---- events

abbrev pub is_finished : TelemetryEvent → Bool
is_finished (Finished row active check verdict name) = true
is_finished _ = false

abbrev pub is_finished_well : TelemetryEvent → Bool
is_finished_well (Finished row active check verdict name) = is_good verdict
is_finished_well _ = false

abbrev pub is_finished_badly : TelemetryEvent → Bool
is_finished_badly (Finished row active check verdict name) = not (is_good verdict)
is_finished_badly _ = false

-- so many events of the entry pass
abbrev pub events_by : (TelemetryEvent → Bool) → Told → ℕ
events_by test t = count_by test t.effect.events

-- ---- the latest

-- what the latest that has one tells, none where none does
abbrev pub latest : {X Y : Type 0} → (X → Option Y) → List X → Option Y
latest pick xs = fold (λ known x. option_or (pick x) known) None xs

-- a finished validation: the image's check word, the verdict, whether of the active image, the table's name
pub record Validation : Type 0 where
  pub check : ℕ
  pub verdict : ℤ
  pub active : ℕ
  pub name : List ℕ

abbrev pub no_validation : Validation
no_validation = record { check = 0; verdict = pos 0; active = 0; name = [] }

abbrev pub validation_of : TelemetryEvent → Option Validation
validation_of (Finished row active check verdict name) = Some (record { check = check; verdict = verdict; active = if active then 1 else 0; name = name })
validation_of _ = None

abbrev pub validation_in : Told → Option Validation
validation_in t = latest validation_of t.effect.events

-- an image that went active: when, and the table's name
pub record Update : Type 0 where
  pub seconds : ℕ
  pub sub : ℕ
  pub name : List ℕ

abbrev pub no_update : Update
no_update = record { seconds = 0; sub = 0; name = [] }

-- the name of the table whose image went active
abbrev pub updated_name : TelemetryEvent → Option (List ℕ)
updated_name (Activated row count name) = Some name
updated_name _ = None

-- at the service's time
abbrev pub update_in : Told → Option Update
update_in t = option_map (λ name. record { seconds = t.before.seconds; sub = t.before.sub; name = name }) (latest updated_name t.effect.events)

abbrev pub dump_of : TelemetryEvent → Option (List ℕ)
dump_of (Dumped row file len) = Some file
dump_of _ = None

abbrev pub dump_in : Told → Option (List ℕ)
dump_in t = latest dump_of t.effect.events

-- LOAD, LoadImage and LoadFile fill a load, or a table through it
abbrev pub asks_load : Request → ReadCommand → Bool
asks_load (ask.LoadImage handle image) command = true
asks_load (ask.LoadFile handle name) command = true
asks_load _ command = is_some (file_of_load command)

-- the name of the table that an accepted one filled
abbrev pub loaded_in : Told → Option (List ℕ)
loaded_in t = if is_success t.effect.status && asks_load t.request (read_command_in t.request) then option_map (λ (table : Named). table.name) t.effect.table else None

-- the file that LOAD or LoadFile names
abbrev pub load_file_of : Request → ReadCommand → Option (List ℕ)
load_file_of (ask.LoadFile handle name) command = Some name
load_file_of _ command = file_of_load command

-- the file of an accepted load from a file
abbrev pub loaded_file_in : Told → Option (List ℕ)
loaded_file_in t = if is_success t.effect.status then load_file_of t.request (read_command_in t.request) else None

-- ---- the packets that an entry sends

abbrev pub is_housekeeping : Shown → Bool
is_housekeeping Housekeeping = true
is_housekeeping _ = false

abbrev pub is_registry : Shown → Bool
is_registry (Registry row) = true
is_registry _ = false

abbrev pub events_in : Told → ℕ
events_in t = length (events_of t.request t.effect)

-- ---- all of it

pub record Counts : Type 0 where
  pub accepted : ℕ  -- since the counters were cleared
  pub refused : ℕ
  pub finished : ℕ
  pub good : ℕ
  pub bad : ℕ
  pub requests : ℕ
  pub events : ℕ  -- packets of each kind since the service began anew
  pub housekeepings : ℕ
  pub registries : ℕ
  pub notices : ℕ
  pub validation : Validation  -- the latest since then
  pub update : Update
  pub loaded : List ℕ
  pub loaded_file : List ℕ
  pub dumped_file : List ℕ

-- one byte, two bytes, and the 14 bits of a sequence count
unfoldable pub counts_of : List Told → Counts
counts_of past =
    let counted = after_last clears_counters past in
    let sent = after_last restarts past in
    record {
      accepted = count_by (λ t. adds_accepted (read_command_in t.request) t.effect) counted % 256;
      refused = count_by (λ t. adds_refused (read_command_in t.request) t.effect) counted % 256;
      finished = sum_by (events_by is_finished) counted % 65536;
      good = sum_by (events_by is_finished_well) counted % 256;
      bad = sum_by (events_by is_finished_badly) counted % 256;
      requests = count_by (λ t. adds_request (read_command_in t.request) t.effect) counted % 256;
      events = sum_by events_in sent % 16384;
      housekeepings = count_by (λ t. is_housekeeping t.effect.shown) sent % 16384;
      registries = count_by (λ t. is_registry t.effect.shown) sent % 16384;
      notices = count_by (λ t. is_some t.effect.notice) sent % 16384;
      validation = unwrap_or (latest validation_in sent) no_validation;
      update = unwrap_or (latest update_in sent) no_update;
      loaded = unwrap_or (latest loaded_in sent) [];
      loaded_file = unwrap_or (latest loaded_file_in sent) [];
      dumped_file = unwrap_or (latest dump_in sent) [];
    }

abbrev pub no_counts : Counts
no_counts = record {
  accepted = 0;
  refused = 0;
  finished = 0;
  good = 0;
  bad = 0;
  requests = 0;
  events = 0;
  housekeepings = 0;
  registries = 0;
  notices = 0;
  validation = no_validation;
  update = no_update;
  loaded = [];
  loaded_file = [];
  dumped_file = [];
}
