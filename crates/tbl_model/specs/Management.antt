-- CFE_TBL_Manage: an owner has all done that is pending for its table. CFE_TBL_GetStatus: what is pending.
use Rattle.std.specs.Prelude.{ℕ, ◌+◌, List, [], ◌∷◌, ◌++◌, length, Bool, true, false, not, ◌||◌, if◌then◌else◌, Option, Some, is_some}
use Rattle.std.specs.Option.{option_map_or}
use Rattle.std.proofs.Common.{ℤ}
use Rattle.tbl_model.specs.State.{State, Table, Tables, Dump, quiet, requested, filled}
use Rattle.tbl_model.specs.Tables.{table_at, is_quiet}
use Rattle.tbl_model.specs.TableSteps.{locker, load_image, activate, set_time, fill_dump}
use Rattle.tbl_model.specs.Pending.{is_pending}
use Rattle.tbl_model.specs.Telemetry.{Question, activated, finished}
use Rattle.tbl_model.specs.Effects.{Effect, answered}
use Rattle.tbl_model.specs.Given.{Given, verdict_at}
use Rattle.tbl_model.specs.Refusals.{update_refusal}
use Rattle.tbl_model.specs.Validations.{judged_image, questions, judged}
use Rattle.tbl_model.specs.Subjects.{if_its_table, if_owner}
use Rattle.tbl_model.specs.Copies.{then_copy}
use Rattle.tbl_model.specs.declared.telemetry.TelemetryEvent.{TelemetryEvent}
use Rattle.tbl_kinds.specs.declared.entry.Answer.{Answer}
use Rattle.tbl_kinds.specs.declared.status.Status.{Status}
use Rattle.tbl_kinds.specs.declared.status.TheConstants.Status.{SUCCESS, INFO_UPDATED, INFO_UPDATE_PENDING, INFO_VALIDATION_PENDING, INFO_DUMP_PENDING, INFO_TABLE_LOCKED}

-- ---- what is done, one thing after another

-- what was done so far: the state that it left, and a bit for each of the four things that can be pending
pub record Done : Type 0 where
  pub state : State
  pub events : List TelemetryEvent
  pub images : List (Option (List ℕ))
  pub questions : List Question
  pub bits : ℕ

abbrev pub nothing_done : State → Done
nothing_done s = record { state = s; events = []; images = []; questions = []; bits = 0 }

abbrev pub with_table_of : ℕ → Done → (Table → Done) → Done
with_table_of row d next = option_map_or next (table_at d.state.tables row) d

-- the validation of the last image, or of the load's, came to its end with this verdict
abbrev pub with_validation : ℕ → Bool → ℤ → Done → Table → Done
with_validation row active verdict d t = record {
  state = judged d.state row active verdict;
  events = d.events ++ finished row active t (judged_image t active) verdict ∷ [];
  images = d.images ++ Some (judged_image t active) ∷ [];
  questions = d.questions ++ questions t (judged_image t active);
  bits = d.bits + (if active then 1 else 2);
}

abbrev pub then_validate : ℕ → Bool → Given → Done → Done
then_validate row active given d = with_table_of row d (λ t.
    if not (is_pending row active d.state.pending) then d
    else with_validation row active (verdict_at (length d.questions) given) d t)

-- the load's image went active
abbrev pub with_update : ℕ → Done → Table → Done
with_update row d t = record d {
  state = record d.state { tables = set_time row d.state.seconds d.state.sub (activate row d.state.tables) };
  events = d.events ++ activated row t ∷ [];
  images = d.images ++ Some (load_image t) ∷ [];
  bits = d.bits + 4;
}

-- the update, where nothing is in its way
abbrev pub then_update : ℕ → Done → Done
then_update row d = with_table_of row d (λ t. if is_some (update_refusal d.state.tables row t) then d else with_update row d t)

abbrev pub is_requested : Dump → Bool
is_requested quiet = false
is_requested (requested file) = true
is_requested (filled file image) = false

-- the dump is filled
abbrev pub with_fill : ℕ → Done → Done
with_fill row d = record d { state = record d.state { tables = fill_dump row d.state.tables }; bits = d.bits + 8 }

-- the filling of the dump
abbrev pub then_fill : ℕ → Done → Done
then_fill row d = with_table_of row d (λ t. if not (is_requested t.dump) then d else with_fill row d)

abbrev pub all_done : State → Given → ℕ → Done
all_done s given row = then_fill row (then_update row (then_validate row false given (then_validate row true given (nothing_done s))))

-- ---- what is answered

-- the update was locked by this handle, it was made, or there was none
abbrev pub manage_answer : Tables → ℕ → Table → Answer
manage_answer tables row t =
    if not t.activation then record { status = SUCCESS; detail = 0 }
    else option_map_or (λ handle. record { status = INFO_TABLE_LOCKED; detail = handle }) (locker tables row t) (record { status = INFO_UPDATED; detail = 0 })

abbrev pub managed_effect : State → Answer → Done → Effect
managed_effect s answer d = record (answered s answer.status answer.detail) {
  bytes = d.bits ∷ [];
  events = d.events;
  images = d.images;
  questions = d.questions;
  next = d.state;
}

-- all that is pending for the table in this row is done, and answered by what was in the way of its update
abbrev pub manage_of : State → Given → ℕ → Table → Effect
manage_of s given row t = managed_effect s (manage_answer s.tables row t) (all_done s given row)

unfoldable pub manage_effect : State → ℕ → ℕ → Given → Effect
manage_effect s app handle given = if_owner s app handle (λ row t. then_copy row given.note (manage_of s given row t))

-- ---- what is pending

abbrev pub pending_status : List (ℕ × Bool) → ℕ → Table → Status
pending_status pending row t =
    if is_pending row true pending || is_pending row false pending then INFO_VALIDATION_PENDING
    else (if t.activation then INFO_UPDATE_PENDING
    else (if not (is_quiet t.dump) then INFO_DUMP_PENDING
    else SUCCESS))

unfoldable pub get_status_effect : State → ℕ → ℕ → Effect
get_status_effect s app handle = if_its_table s app handle false (λ row t. answered s (pending_status s.pending row t) 0)
