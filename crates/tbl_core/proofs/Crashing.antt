-- What a reset inside a step leaves: an entry under way, and each completed copy that its request leaves alone.
use Rattle.std.proofs.Common.{◌≡◌, ℕ, List, [], ◌∷◌, ◌++◌, length, Result, ◌∙◌, sym}
use Rattle.tbl_model.specs.State.{State}
use Rattle.tbl_model.specs.History.{Run, begins_at, run_from}
use Rattle.tbl_session.specs.Crashes.{UnderWay, AfterCrash, calls_in}
use Rattle.tbl_session.specs.Completed.{HasCompleted, LeaveAlone}
use Rattle.tbl_laws.proofs.Crashes.{in_next_entry}
use Rattle.tbl_laws.proofs.CompletedLaws.{completed_stays}
use Rattle.tbl_outside.specs.Bank.{LeavesOnly}
use Rattle.tbl_outside.proofs.Moments.{leaves_among}
use Rattle.cds_layout.specs.Images.{store_of}
use Rattle.tbl_kinds.specs.declared.block.Block.{Block}
use Rattle.tbl_kinds.specs.declared.entry.Entry.{Entry}
use Rattle.tbl_kinds.specs.declared.request.Actor.{Actor}
use Rattle.tbl_kinds.specs.declared.request.Request.{Request}
use Rattle.tbl_kinds.specs.declared.request.Request.TheVariants as ask
use Rattle.tbl_kinds.specs.declared.request.ResetKind.TheVariants.{PowerOn}
use Rattle.tbl_core.specs.Service.{EngineView, Stands, Plays}
use Rattle.tbl_core.specs.declared.service.StepFault.{StepFault}
use Rattle.tbl_outside.specs.declared.bank.Bank.{Ghosts}
use Rattle.tbl_outside.specs.declared.validator.Validator.{Ghosts as ValidatorGhosts}

module _ {B C : Type 0} (g : Ghosts B) (v : ValidatorGhosts C) (old new : EngineView B C) (actor : Actor) (request : Request) (e : Entry) (result : Result Unit StepFault)
    (p : Plays g v old new (actor, request) e result) (opening : State) (past : List Entry) (stood : Stands g opening past old) (tells_both : g.tells_moments → g.tells) where
  abbrev run : Run
  run = run_from (begins_at opening) past

  abbrev Only : (List ℕ → Type 0) → Type 0
  Only IsLeft = LeavesOnly g.clock g.left_since old.state.store.bank new.state.store.bank IsLeft

  pub moments_of : g.tells_moments → Only (λ image. UnderWay run e (store_of image))
  moments_of told = p.moments (tells_both told) run (stood.shows (tells_both told)) told

  pub crash : g.tells_moments → Only (λ image. AfterCrash opening (past ++ e ∷ []) (length past) (store_of image))
  crash told = leaves_among (moments_of told) (λ image under. in_next_entry opening past e (store_of image) under)

  pub completed : g.tells_moments → (slot : ℕ) (block : Block) (copied : List ℕ) → HasCompleted run.state.store slot block copied → LeaveAlone slot (calls_in run e) → ¬ (request ≡ ask.Reset PowerOn) → Only (λ image. HasCompleted (store_of image) slot block copied)
  completed told slot block copied holds alone no_power_on = leaves_among (moments_of told) (λ image under.
      completed_stays run e (store_of image) slot block copied holds alone (λ is. no_power_on (sym p.request_is ∙ is)) under)
