-- Loads go active, and are dropped: ACTIVATE, CFE_TBL_Update, ABORT_LOAD.
use Rattle.std.specs.Prelude.{ℕ, List, [], ◌∷◌, false, if◌then◌else◌, Some, is_some}
use Rattle.tbl_model.specs.State.{State, Table}
use Rattle.tbl_model.specs.TableSteps.{load_image, ask, activate, close_load, set_time}
use Rattle.tbl_model.specs.Pending.{without_pair}
use Rattle.tbl_model.specs.Telemetry.{activated}
use Rattle.tbl_model.specs.Effects.{Effect, answered, named}
use Rattle.tbl_model.specs.Refusals.{by_answer, activation_refusal, update_refusal}
use Rattle.tbl_model.specs.Subjects.{if_table, if_owner}
use Rattle.tbl_model.specs.Copies.{then_copy}
use Rattle.tbl_kinds.specs.declared.note.BankNote.{BankNote}
use Rattle.tbl_kinds.specs.declared.status.TheConstants.Status.{SUCCESS, ERR_NO_LOAD}

-- the activation is requested, and the owner is told
abbrev pub ask_effect : State → ℕ → Table → Effect
ask_effect s row t = record (answered s SUCCESS 0) { notice = t.notice; next = record s { tables = ask row s.tables } }

-- the same, unless something refuses it
abbrev pub activation_of : State → ℕ → Table → Effect
activation_of s row t = by_answer s (activation_refusal s.pending row t) (ask_effect s row t)

unfoldable pub activate_command_effect : State → List ℕ → Effect
activate_command_effect s name = if_table s name (activation_of s)

-- the load's image becomes the table's last one, at the service's time, and the load is closed
abbrev pub updated_effect : State → ℕ → Table → Effect
updated_effect s row t = record (answered s SUCCESS 0) {
  table = named t.name (Some row);
  events = activated row t ∷ [];
  images = Some (load_image t) ∷ [];
  next = record s { tables = set_time row s.seconds s.sub (activate row s.tables) };
}

-- the same, unless something refuses it
abbrev pub update_of : State → ℕ → Table → Effect
update_of s row t = by_answer s (update_refusal s.tables row t) (updated_effect s row t)

unfoldable pub update_effect : State → ℕ → ℕ → BankNote → Effect
update_effect s app handle note = if_owner s app handle (λ row t. then_copy row note (update_of s row t))

-- the load is dropped, with its activation and its validation, and nothing else
abbrev pub aborted_effect : State → ℕ → Effect
aborted_effect s row = record (answered s SUCCESS 0) { next = record s { tables = close_load row s.tables; pending = without_pair row false s.pending } }

-- the same, where a load is open
abbrev pub abort_of : State → ℕ → Table → Effect
abort_of s row t = if is_some t.load then aborted_effect s row else answered s ERR_NO_LOAD 0

unfoldable pub abort_effect : State → List ℕ → Effect
abort_effect s name = if_table s name (abort_of s)
