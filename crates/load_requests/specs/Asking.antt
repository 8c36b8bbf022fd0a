-- Which function a load of an owner would ask.
use Rattle.std.specs.Prelude.{◌≡◌, ℕ, if◌then◌else◌, Option, None, is_some}
use Rattle.std.specs.Option.{ForSome}
use Rattle.tbl_kinds.specs.declared.entry.Answer.{Answer}
use Rattle.tbl_model.specs.State.{State, Table}
use Rattle.tbl_model.specs.Tables.{table_at}
use Rattle.tbl_model.specs.Effects.{Effect}
use Rattle.tbl_model.specs.Given.{Given}
use Rattle.desk.specs.Desk.{Rest, state_at}
use Rattle.desk.specs.Questions.{all_asked}
use Rattle.desk.specs.declared.desk.Desk.{Desk}
use Rattle.desk.specs.declared.questions.Questions.{Questions}

-- the table's function, if nothing refuses the load
abbrev pub judge_of : Option Answer → Option ℕ → Option ℕ
judge_of refusal validator = if is_some refusal then None else validator

-- a request for the table in a row of this desk asks these questions, whatever a state has beside the desk, and whatever comes from outside
abbrev pub WouldAsk : {C : Type 0} → Desk C → ℕ → (State → Given → Table → Effect) → Questions → Type 0
WouldAsk desk row effect it = (rest : Rest) (given : Given) → ForSome (table_at desk.tables row) (λ t. (effect (state_at rest desk) given t).questions ≡ all_asked it)
