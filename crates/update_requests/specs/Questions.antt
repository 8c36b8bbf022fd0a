-- What a request asks of validation functions.
use Rattle.std.specs.Prelude.{◌≡◌, ℕ, List, [], Bool, if◌then◌else◌, Result, IfOk}
use Rattle.std.specs.Option.{ForSome}
use Rattle.tbl_model.specs.State.{State, Table}
use Rattle.tbl_model.specs.Tables.{table_at}
use Rattle.tbl_model.specs.Given.{Given}
use Rattle.tbl_model.specs.Effects.{Effect}
use Rattle.tbl_model.specs.Pending.{is_pending}
use Rattle.tbl_model.specs.Telemetry.{Question}
use Rattle.tbl_model.specs.Validations.{judged_image, questions}
use Rattle.desk.specs.Desk.{Rest, state_at}
use Rattle.desk.specs.Questions.{all_asked}
use Rattle.desk.specs.declared.desk.Desk.{Desk}
use Rattle.desk.specs.declared.questions.Questions.{Questions}

-- what the validation of an image asks, if it is pending
abbrev pub pending_asked : List (ℕ × Bool) → ℕ → Table → Bool → List Question
pending_asked pending row t active = if is_pending row active pending then questions t (judged_image t active) else []

-- this is what a request for the table in a row would ask from this desk, whatever a state has beside it
abbrev pub WouldAsk : {C E : Type 0} → Desk C → ℕ → (State → Given → Table → Effect) → Result Questions E → Type 0
WouldAsk desk row effect asks = IfOk asks (λ it. (rest : Rest) (given : Given) → ForSome (table_at desk.tables row) (λ t. (effect (state_at rest desk) given t).questions ≡ all_asked it))
