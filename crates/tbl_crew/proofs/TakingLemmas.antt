-- What a step makes of the crew, whether bytes were taken for it before or not.
use Rattle.std.proofs.Common.{◌≡◌, ℕ, ◌<◌, List, ◌∷◌, false, Option, Some, None, Ok, Err, refl, inl}
use Rattle.tbl_kinds.specs.Requests.{Fits}
use Rattle.tbl_kinds.specs.declared.entry.Entry.{Entry}
use Rattle.tbl_kinds.specs.declared.request.Request.{Request}
use Rattle.tbl_outside.specs.declared.bank.Bank.{Ghosts}
use Rattle.tbl_outside.specs.declared.validator.Validator.{Ghosts as ValidatorGhosts}
use Rattle.tbl_session.specs.Actors.{actor_of}
use Rattle.tbl_core.specs.Ended.{OnPlayed}
use Rattle.tbl_core.specs.Service.{CoreView, AddsOne, PinsOnward}
use Rattle.tbl_core.specs.Stepped.{Stepped}
use Rattle.tbl_core.specs.declared.service.StepFault.{StepFault}
use Rattle.tbl_core.specs.declared.service.StepFault.TheVariants.{Memory, BootFault, BootStopped}
use Rattle.tbl_core.proofs.Lending.{pin_stays}
use Rattle.tbl_history.proofs.Laws.{Laws}
use Rattle.tbl_history.proofs.ServingLemmas.{adds_one, played_adds}
use Rattle.tbl_crew.specs.CrewView.{CrewView, MayGoOn, crew_of}
use Rattle.tbl_crew.specs.Reads.{Lends}
use Rattle.tbl_crew.specs.Scripts.{script_of, with_script}
use Rattle.tbl_crew.specs.Turns.{Takes, Breaks, TakesTurn}
use Rattle.tbl_crew.specs.declared.held.Turn.{Turn}
use Rattle.tbl_crew.specs.declared.held.Turn.TheVariants.{Ended}
use Rattle.tbl_crew.proofs.LendingLemmas.{failed, plays_next, pins_broken}
use Rattle.tbl_crew.proofs.TurnLemmas.{may_fit, goes_on_with, goes_on_broken, goes_live, leads_on, leads_broken}

module _ {B C : Type 0} (g : Ghosts B) (core next : CoreView B C) (fault : Option StepFault) (left rest : List (List Request)) (actor : ℕ) (request : Request)
    (goes_on : MayGoOn (crew_of core fault left)) (within : actor < 17)
    (taken : script_of left actor ≡ request ∷ script_of rest actor) (others : rest ≡ with_script left actor (script_of rest actor)) where
  abbrev was : CrewView B C
  was = crew_of core fault left

  takes : (f : Option StepFault) → Takes was (crew_of next f rest) actor request
  takes f = record { next = taken; others = others }

  -- the step may play the request
  pub turn_fits : Fits (actor_of actor) request
  turn_fits = may_fit g was (crew_of next fault rest) actor request goes_on within (takes fault)

  module _ (laws : Laws g) (v : ValidatorGhosts C) (went : fault ≡ None) where
    -- the step answered no fault
    module _ (step : (e : Entry) × Stepped g v core next (actor_of actor, request) e (Ok tt)) where
      adds : AddsOne g core next (actor_of actor) request (Ok tt)
      adds = adds_one g v core next (actor_of actor) request (Ok tt) step

      pub turned : (turn : Turn) → PinsOnward core next → Lends next turn → TakesTurn g v.verdict was (crew_of next fault rest) actor turn
      turned turn onward lends = record {
        turns = plays_next g was (crew_of next fault rest) actor turn request (takes fault) went went adds lends;
        leads = leads_on g laws v was (crew_of next fault rest) actor request goes_on within (takes fault) went went step;
        pins = λ pin is. pin_stays core next step.0 step.1.adds.added onward pin is;
      }

      pub turned_goes_on : next.state.ended ≡ false → MayGoOn (crew_of next fault rest)
      turned_goes_on live = goes_on_with g was (crew_of next fault rest) actor request goes_on within (takes fault) (Ok tt) adds (rw went live)

    -- it answered this one
    module _ (cause : StepFault) (step : OnPlayed (Err cause) ((e : Entry) × Stepped g v core next (actor_of actor, request) e (Err cause))) (same : failed cause ≡ Err Memory → next ≡ core) where
      abbrev now : CrewView B C
      now = crew_of next (Some cause) rest

      played : OnPlayed (Err cause) (AddsOne g core next (actor_of actor) request (Err cause))
      played = played_adds g v core next (actor_of actor) request (Err cause) step

      breaks : (cause' : StepFault) → OnPlayed (Err cause') (AddsOne g core next (actor_of actor) request (Err cause')) → (failed cause' ≡ Err Memory → next ≡ core) → Breaks g core next actor request cause'
      breaks Memory none is = is refl
      breaks BootFault one is = one
      breaks BootStopped one is = one

      pub broken : OnPlayed (Err cause) (PinsOnward core next) → TakesTurn g v.verdict was now actor Ended
      broken onward = record {
        turns = inl (record { request = request; takes = takes (Some cause); went = went; fault = cause; keeps = refl; breaks = breaks cause played same });
        leads = leads_broken g laws v was now actor request goes_on within (takes (Some cause)) went cause refl step same;
        pins = λ pin is. pins_broken g core next actor request cause played onward same pin is;
      }

      pub broken_goes_on : MayGoOn now
      broken_goes_on = goes_on_broken g was now actor request goes_on within (takes (Some cause)) cause refl (goes_live was goes_on went) played same
