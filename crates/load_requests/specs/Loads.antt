-- Loads that the owner of a table asks for.
use Rattle.std.specs.Prelude.{◌≡◌, ◌≤◌, ℕ, List, [], ◌∷◌, length, if◌then◌else◌, Option, Some, None, is_some}
use Rattle.std.specs.Option.{ForSome}
use Rattle.std.proofs.Common.{ℤ}
use Rattle.tbl_kinds.specs.Admitted.{Admitted}
use Rattle.tbl_kinds.specs.TableFiles.{TableFile}
use Rattle.tbl_kinds.specs.declared.entry.Answer.{Answer}
use Rattle.tbl_kinds.specs.declared.entry.Reply.{Reply}
use Rattle.tbl_kinds.specs.declared.status.TheConstants.Status.{ERR_VALIDATION_FAILED}
use Rattle.tbl_model.specs.State.{State, Table, Tables}
use Rattle.tbl_model.specs.Tables.{table_at}
use Rattle.tbl_model.specs.TableSteps.{locker, set_file}
use Rattle.tbl_model.specs.Effects.{Effect, answered}
use Rattle.tbl_model.specs.Subjects.{if_file}
use Rattle.tbl_model.specs.Given.{Given}
use Rattle.tbl_model.specs.Telemetry.{is_good, verdict_bits}
use Rattle.tbl_model.specs.AppLoads.{activate_effect, by_function, load_image_of, named_file_of}
use Rattle.tbl_model.specs.declared.telemetry.TelemetryEvent.{TelemetryEvent}
use Rattle.tbl_model.specs.declared.telemetry.TelemetryEvent.TheVariants.{Judged}
use Rattle.tbl_outside.specs.declared.validator.Validator.{Ghosts as ValidatorGhosts}
use Rattle.tbl_outside.specs.declared.validator.KitEntry.{KitEntry}
use Rattle.validation.specs.Asked.{WasAsked, asks}
use Rattle.desk.specs.Requests.{Meaning, for_row}
use Rattle.desk.specs.Rooms.{copy_room, load_room}

-- ---- the requests

-- a load of the table in the row: it reports a verdict and an image at most, and a copy may follow
abbrev pub load_for : ℕ → (State → Given → Table → Effect) → Meaning
load_for row effect = for_row row effect 2 (λ tables. copy_room (table_at tables row))

-- of an image, and of the file of this name
abbrev pub image_load : ℕ → List ℕ → Meaning
image_load row image = load_for row (λ s given t. load_image_of s image given row t)

abbrev pub file_load : ℕ → List ℕ → Meaning
file_load row name = load_for row (λ s given t. named_file_of s name given row t)

-- ---- an image that nothing refuses but the verdict on it

-- the tables in which the last load of the row's table is from this file, if it is from one
abbrev pub with_file : ℕ → Option (List ℕ) → Tables → Tables
with_file row None tables = tables
with_file row (Some name) tables = set_file row name tables

-- the image is active, and from this file, if it is from one
abbrev pub active_effect : State → ℕ → Table → List ℕ → Option (List ℕ) → Effect
active_effect s row t image file =
    let active = activate_effect s row t image in
    record active { next = record active.next { tables = with_file row file active.next.tables } }

abbrev pub admission : ℕ → List ℕ → Option (List ℕ) → Meaning
admission row image file = load_for row (λ s given t. by_function s row image t.validator given (active_effect s row t image file))

-- an image that may be the next one of the table
pub record FitsIn (tables : Tables) (row : ℕ) (t : Table) (image : List ℕ) : Type 0 where
  pub unlocked : locker tables row t ≡ None
  pub no_load : t.load ≡ None
  pub size : length image ≡ t.size

-- nothing is answered yet, and there is room for the rows that use the buffers, and for what a load of the table can report
pub record IsRoomy (tables : Tables) (row : ℕ) (reply : Reply) : Type 0 where
  pub bytes : reply.bytes.list ≡ []
  pub users : 4 ≤ reply.bytes.spare
  pub packets : reply.packets.list ≡ []
  pub room : ForSome (table_at tables row) (λ t. load_room t ≤ reply.packets.spare)

-- ---- verdicts

-- why an image isn't taken, by the verdict of the table's function on it, if the table has one
abbrev pub verdict_refusal : Option ℤ → Option Answer
verdict_refusal None = None
verdict_refusal (Some verdict) = if is_good verdict then None else Some (record { status = ERR_VALIDATION_FAILED; detail = verdict_bits verdict })

-- that a verdict came, if one did
abbrev pub verdict_events : ℕ → Option ℤ → List TelemetryEvent
verdict_events row None = []
verdict_events row (Some verdict) = Judged row verdict ∷ []

-- the function of this number, if there is one, was asked about the image, and gave this verdict
pub record WasJudged {C : Type 0} (v : ValidatorGhosts C) (number : Option ℕ) (image : List ℕ) (verdict : Option ℤ) (old new : List (Option (KitEntry C))) : Type 0 where
  pub told : is_some verdict ≡ is_some number
  pub asked : WasAsked v.verdict v.asked old new (asks number image) (verdict ∷ None ∷ [])

-- ---- uplinked files

-- what an effect of the file of this name comes to: one of this file
abbrev pub LeadsToFile : List (List ℕ × List ℕ) → Admitted → List ℕ → TableFile → Type 0
LeadsToFile drawer admit name file = (s : State) (effect : TableFile → Effect) → s.drawer ≡ drawer → s.admit ≡ admit → if_file s name effect ≡ effect file

-- or to this answer alone
abbrev pub IsNoFile : List (List ℕ × List ℕ) → Admitted → List ℕ → Answer → Type 0
IsNoFile drawer admit name answer = (s : State) (effect : TableFile → Effect) → s.drawer ≡ drawer → s.admit ≡ admit → if_file s name effect ≡ answered s answer.status answer.detail
