-- The contract of every request about tables: from this desk the model's request was made, and the reply and the report tell it.
use Rattle.std.specs.Prelude.{◌≡◌, ℕ, length, Option, Some, None, Result, Ok, Err}
use Rattle.std.specs.Option.{option_map}
use Rattle.tbl_model.specs.State.{State, Table, Tables}
use Rattle.tbl_model.specs.Tables.{table_at}
use Rattle.tbl_model.specs.Effects as model
use Rattle.tbl_model.specs.Given.{Given}
use Rattle.tbl_kinds.specs.declared.entry.Answer.{Answer}
use Rattle.tbl_outside.specs.declared.validator.Validator.{Ghosts as ValidatorGhosts}
use Rattle.validation.specs.Asked.{WasAsked}
use Rattle.request_effects.specs.Effects.{Effect, IsEffectAsking, IsWithin, HasRoom, given_of, told_effect}
use Rattle.desk.specs.Desk.{Rest, state_at, Output}
use Rattle.desk.specs.declared.desk.Desk.{Desk}

-- what a request means; how many events it reports at most, and how many bytes of packets may come after these
pub record Meaning : Type 0 where
  pub effect : State → Given → Option model.Effect
  pub most : ℕ
  pub more : Tables → ℕ

-- of a request for the table in a row
abbrev pub for_row : ℕ → (State → Given → Table → model.Effect) → ℕ → (Tables → ℕ) → Meaning
for_row row effect most more = record { effect = λ s given. option_map (effect s given) (table_at s.tables row); most = most; more = more }

-- of a command, after whose events the event of the command itself comes
abbrev pub command : (State → model.Effect) → ℕ → Meaning
command effect most = record { effect = λ s given. Some (effect s); most = most; more = λ tables. 24 }

-- what the reply and the report tell
abbrev pub told : Answer → Output → Effect
told answer out = told_effect answer out.reply.bytes.list out.report

-- it had this effect, and the functions of the kit were asked what this asks
pub record Does {C : Type 0} (v : ValidatorGhosts C) (rest : Rest) (old new : Desk C) (done : Effect) (e : model.Effect) : Type 0 where
  pub effect : IsEffectAsking done (state_at rest new) e
  pub asked : WasAsked v.verdict v.asked old.kit new.kit e.questions done.verdicts

abbrev pub Has : {C : Type 0} → ValidatorGhosts C → Rest → Desk C → Desk C → Effect → Option model.Effect → Type 0
Has v rest old new done None = ⊥
Has v rest old new done (Some e) = Does v rest old new done e

-- from the old desk the request was made, whatever a state has beside it
pub record Made {C : Type 0} (v : ValidatorGhosts C) (meaning : Meaning) (old new : Desk C) (out : Output) (answer : Answer) : Type 0 where
  pub done : (rest : Rest) → Has v rest old new (told answer out) (meaning.effect (state_at rest old) (given_of (told answer out)))
  pub two : length out.report.verdicts ≡ 2
  pub within : IsWithin meaning.most (told answer out)
  pub room : HasRoom (meaning.more old.tables) out.reply.packets (told answer out)

-- or memory ran out, and the desk is as it was
abbrev pub Served : {C E : Type 0} → ValidatorGhosts C → Meaning → Desk C → Desk C → Output → Result Answer E → Type 0
Served v meaning old new out (Ok answer) = Made v meaning old new out answer
Served v meaning old new out (Err e) = new ≡ old
