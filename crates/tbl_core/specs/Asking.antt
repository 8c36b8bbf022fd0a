-- What a request would ask of validation functions, before it is played, and functions that are handed in for it.
use Rattle.std.specs.Prelude.{◌≡◌, ℕ, List, [], Bool, true, false, Option, Result, IfOk}
use Rattle.std.specs.Option.{option_map_or}
use Rattle.tbl_model.specs.State.{State}
use Rattle.tbl_model.specs.Effects as model
use Rattle.tbl_model.specs.Given.{Given}
use Rattle.tbl_model.specs.Telemetry.{Question}
use Rattle.tbl_model.specs.Dispatch.{effect_of}
use Rattle.tbl_model.specs.History.{begins_at, run_from}
use Rattle.tbl_session.specs.Verdicts.{questions_in}
use Rattle.tbl_kinds.specs.declared.entry.Entry.{Entry}
use Rattle.tbl_kinds.specs.declared.request.Actor.{Actor}
use Rattle.tbl_kinds.specs.declared.request.Request.{Request}
use Rattle.tbl_kinds.specs.declared.request.Request.TheVariants as ask
use Rattle.tbl_outside.specs.declared.bank.Bank.{Ghosts}
use Rattle.validation.specs.Kits.{Hands}
use Rattle.desk.specs.Questions.{all_asked}
use Rattle.desk.specs.declared.questions.Questions.{Questions}
use Rattle.tbl_core.specs.Service.{PartsView, EngineView, parts_view, IsStateOf, Stands, IsAfter, IsLimit}
use Rattle.tbl_core.specs.declared.parts.Parts.{Parts}

-- requests with which the owner of a table has its function asked
abbrev pub may_ask : Request → Bool
may_ask (ask.LoadImage handle image) = true
may_ask (ask.LoadFile handle name) = true
may_ask (ask.Validate handle) = true
may_ask (ask.Manage handle) = true
may_ask _ = false

abbrev pub asked_in : Option model.Effect → List Question
asked_in effect = option_map_or (λ (e : model.Effect). e.questions) effect []

-- in each state that has these parts the request asks this, whatever is given to it from outside
pub record AsksIn {B C : Type 0} (held : PartsView B C) (actor : Actor) (request : Request) (questions : List Question) : Type 0 where
  pub owners : may_ask request ≡ true → (s : State) → IsStateOf s.store held s → (given : Given) → asked_in (effect_of s actor request given) ≡ questions
  pub others : may_ask request ≡ false → questions ≡ []

-- this was found out of the parts, and nothing was changed
pub record OnlyAsks {B C E : Type 0} (old new : Parts B C) (actor : Actor) (request : Request) (result : Result Questions E) : Type 0 where
  pub asks : IfOk result (λ it. AsksIn (parts_view old) actor request (all_asked it))
  pub same : new ≡ old

-- whatever opening the engine represents, and whatever it has played since: an entry of this request asks this
pub record Asks {B C : Type 0} (g : Ghosts B) (engine : EngineView B C) (actor : Actor) (request : Request) (questions : List Question) : Type 0 where
  pub owners : may_ask request ≡ true → g.tells → (opening : State) (past : List Entry) → Stands g opening past engine
      → (e : Entry) → e.actor ≡ actor → e.request ≡ request → questions_in (run_from (begins_at opening) past) e ≡ questions
  pub others : may_ask request ≡ false → questions ≡ []

-- the engine represents whatever it represented before, over the same bank
pub record StandsOn {B C : Type 0} (g : Ghosts B) (old new : EngineView B C) : Type 0 where
  pub stands : (opening : State) (past : List Entry) → Stands g opening past old → Stands g opening past new
  pub after : (past : List Entry) → IsAfter past old → IsAfter past new
  pub bank : new.state.store ≡ old.state.store
  pub ended : new.state.ended ≡ old.state.ended
  pub played : new.played ≡ old.played

-- the engine has met one of its limits
abbrev pub MeetsLimit : {B C : Type 0} → EngineView B C → Type 0
MeetsLimit engine = (limit : ℕ) × IsLimit engine limit

-- another function has this number, if there was one, and nothing else is changed
pub record HandsIn {B C : Type 0} (number : ℕ) (check : C) (old new : EngineView B C) : Type 0 where
  pub kit : Hands number check old.state.kit new.state.kit
  pub rest : new ≡ record old { state = record old.state { kit = new.state.kit } }
