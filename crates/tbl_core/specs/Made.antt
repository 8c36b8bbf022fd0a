-- What a request did, with the boot after it.
use Rattle.std.specs.Prelude.{◌≡◌, ℕ, suc, List, [], length, not, Option, Some}
use Rattle.tbl_model.specs.State.{State, no_tables}
use Rattle.tbl_model.specs.Fit.{AreFit}
use Rattle.tbl_model.specs.Effects as model
use Rattle.tbl_core.specs.Pins.{HaveImages, PinsGoOn}
use Rattle.tbl_model.specs.Telemetry.{Question}
use Rattle.tbl_model.specs.BankCounts.{HasCause}
use Rattle.tbl_model.specs.StoreNotes.{IsNoteOf, boot_in}
use Rattle.cds_store.specs.StoreBlocks.{StoreParts}
use Rattle.tbl_kinds.specs.declared.note.BankNote.{BankNote}
use Rattle.tbl_kinds.specs.declared.note.Outcome.{Outcome}
use Rattle.tbl_kinds.specs.declared.note.Outcome.TheVariants.{Untouched, Done, Failed, Stopped}
use Rattle.store_requests.specs.Called.{Troubled, Leaving}
use Rattle.tbl_session.specs.Restores.{RestoresHeld}
use Rattle.tbl_core.specs.BankAsked.{BankAsked}
use Rattle.request_effects.specs.Effects.{Effect, IsEffect, uncalled, given_of}
use Rattle.tbl_model.specs.Given.{Given}
use Rattle.tbl_core.specs.Verdicts.{Judged}
use Rattle.tbl_outside.specs.declared.bank.Bank.{Ghosts}
use Rattle.tbl_outside.specs.declared.validator.Validator.{Ghosts as ValidatorGhosts}
use Rattle.tbl_core.specs.Views.{PartsView}
use Rattle.tbl_core.specs.Standing.{state_of, HoldsAll}
use Rattle.tbl_core.specs.Making.{Step, EndsIn}

-- after a call that was stopped no tables are left, and the service has ended if the boot failed
abbrev pub after_stop : {B C : Type 0} → Outcome → BankNote → StoreParts B → PartsView B C → PartsView B C
after_stop Stopped note store held = record held { tables = no_tables; pending = []; store = store; ended = note.ended }
after_stop Untouched note store held = held
after_stop Done note store held = held
after_stop Failed note store held = held

-- in this state its effect was this, and the parts represent the state after it
pub record HadEffect {B C : Type 0} (g : Ghosts B) (v : ValidatorGhosts C) (step : Step B C) (s : State) (done : Effect) (e : model.Effect) : Type 0 where
  pub told : IsEffect done e.questions e.next (uncalled e)
  pub holds : HoldsAll g step.new e.next
  pub judged : Judged v step.old.kit step.new.kit e.questions done.verdicts
  pub noted : IsNoteOf step.request e.calls s.store done.note
  pub gave : RestoresHeld (g.now step.old.store.bank) e.calls s.store done.note
  pub asked : BankAsked g (boot_in step.request done.note.outcome) step.old.store step.new.store e.calls s.store done.note
  pub moments : Leaving g step.old.store step.new.store (EndsIn step.request e.calls s.store)

-- the request was made, and the service booted after it if it was stopped
pub record IsMade {B C : Type 0} (g : Ghosts B) (v : ValidatorGhosts C) (step : Step B C) (means : State → Given → Option model.Effect) (done : Effect) : Type 0 where
  pub effect : g.tells → (s : State) → HoldsAll g step.old s → (e : model.Effect) × (means s (given_of done) ≡ Some e) × HadEffect g v step s done e
  pub fit : (n : ℕ) → AreFit n (state_of step.old) → AreFit (suc n) (state_of step.new)
  pub judged : (questions : List Question) × Judged v step.old.kit step.new.kit questions done.verdicts
  pub two : length done.verdicts ≡ 2
  pub booted : step.new.store.booted ≡ not step.new.ended
  pub ended : step.new.ended ≡ done.note.ended
  pub trouble : Troubled g step.old.store.bank step.new.store.bank done.note
  pub cause : HasCause done.answer.status done.note
  pub pins : HaveImages step.old.tables → HaveImages step.new.tables × PinsGoOn step.old.tables step.new.tables step.request done.answer.status
