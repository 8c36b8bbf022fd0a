-- What a turn leaves of what a crew represents.
use Rattle.std.proofs.Common.{◌≡◌, ℕ, ◌+◌, ◌<◌, ◌≤◌, List, [], ◌∷◌, ◌++◌, length, false, Option, Some, None, Result, Ok, Err, refl, sym, ap, subst, ◌∙◌, arith}
use Rattle.std.specs.Prelude.{◌==◌, is_some}
use Rattle.std.proofs.lemmas.List.{length-append}
use Rattle.tbl_kinds.specs.Records.{record_limit}
use Rattle.tbl_kinds.specs.Requests.{Fits}
use Rattle.tbl_kinds.specs.Transcript.{pairs_of}
use Rattle.tbl_kinds.specs.declared.entry.Entry.{Entry}
use Rattle.tbl_kinds.specs.declared.request.Request.{Request}
use Rattle.tbl_core.specs.Service.{CoreView, AddsOne}
use Rattle.tbl_core.specs.Stepped.{Stepped}
use Rattle.tbl_core.specs.declared.service.StepFault.{StepFault}
use Rattle.tbl_core.specs.declared.service.StepFault.TheVariants.{Memory, BootFault, BootStopped}
use Rattle.tbl_crew.specs.CrewView.{CrewView, MayGoOn, TellsFault}
use Rattle.tbl_crew.specs.Leading.{IsPlayed, ArePlayed, LacksOne, LacksAfter, LeadsFrom}
use Rattle.tbl_session.specs.Openings.{Opening}
use Rattle.tbl_session.specs.Actors.{actor_of, part, HaveActors}
use Rattle.tbl_crew.specs.Scripts.{script_of, request_count}
use Rattle.tbl_crew.specs.Turns.{Takes}
use Rattle.tbl_crew.proofs.ScriptLemmas as scripts
use Rattle.tbl_outside.specs.declared.bank.Bank.{Ghosts}
use Rattle.tbl_outside.specs.declared.validator.Validator.{Ghosts as ValidatorGhosts}
use Rattle.tbl_history.specs.Serving.{Serves}
use Rattle.tbl_history.proofs.Laws.{Laws}
use Rattle.tbl_history.proofs.ServingLemmas.{serves_on, adds_one, stepped_continues}
use Rattle.tbl_history.proofs.TroubleLemmas.{ends_in_fault, ends_in_stop}
use Rattle.tbl_core.specs.Ended.{OnPlayed}

-- a step that answered this
abbrev failed : StepFault → Result Unit StepFault
failed fault = Err fault

-- a beginning of a script, if what is left isn't kept any more
begins : (fault : StepFault) (script played left : List Request) → IsPlayed None script played left → (f : Option StepFault) → f ≡ Some fault → (behind : List Request) → IsPlayed f script played behind
begins fault script played left was f is behind = subst (λ (f : Option StepFault). IsPlayed f script played behind) (sym is) (left, was)

module _ {B C : Type 0} (g : Ghosts B) (old new : CrewView B C) (actor : ℕ) (request : Request) (goes_on : MayGoOn old) (within : actor < 17) (takes : Takes old new actor request) where
  inside : actor < length old.left
  inside = omega (arith, goes_on.actors)

  fewer : request_count new.left + 1 ≡ request_count old.left
  fewer = scripts.taken_count old.left new.left actor request inside takes.next takes.others

  -- the step may play it
  pub may_fit : Fits (actor_of actor) request
  may_fit = scripts.taken_fits old.left new.left actor request inside takes.next takes.others goes_on.fit

  pub has_room : length old.core.entries < record_limit
  has_room = omega (arith, goes_on.few, fewer)

  -- after it the crew may go on
  may_go_on : length new.core.entries ≤ length old.core.entries + 1 → TellsFault new.fault new.core → MayGoOn new
  may_go_on few tells = record {
    actors = scripts.taken_length old.left new.left actor request inside takes.next takes.others ∙ goes_on.actors;
    fit = scripts.taken_fit old.left new.left actor request inside takes.next takes.others goes_on.fit;
    few = omega (arith, goes_on.few, fewer, few);
    fault = tells;
  }

  pub goes_on_without : new.core ≡ old.core → TellsFault new.fault new.core → MayGoOn new
  goes_on_without same tells = may_go_on (omega (arith, ap (λ (c : CoreView B C). length c.entries) same)) tells

  pub goes_on_with : (result : Result Unit StepFault) → AddsOne g old.core new.core (actor_of actor) request result → TellsFault new.fault new.core → MayGoOn new
  goes_on_with result one tells = may_go_on (omega (arith, ap length one.added, length-append old.core.entries (one.entry ∷ []))) tells

  -- what each actor played
  module _ (given : List (List Request)) (went : old.fault ≡ None) (was : ArePlayed old.fault given old.core.entries old.left) where
    so_far : (other : ℕ) → script_of given other ≡ part other (pairs_of old.core.entries) ++ script_of old.left other
    so_far other = subst (λ (f : Option StepFault). IsPlayed f (script_of given other) (part other (pairs_of old.core.entries)) (script_of old.left other)) went (was other)

    one_more : (result : Result Unit StepFault) → AddsOne g old.core new.core (actor_of actor) request result → (other : ℕ) → script_of given other ≡ part other (pairs_of new.core.entries) ++ script_of new.left other
    one_more result one other =
        subst (λ (es : List Entry). script_of given other ≡ part other (pairs_of es) ++ script_of new.left other) (sym one.added)
        (scripts.plays_on old.left new.left actor request inside takes.next takes.others (script_of given other) old.core.entries one.entry one.actor_is one.request_is other (so_far other) (other == actor) refl)

    pub played_on : AddsOne g old.core new.core (actor_of actor) request (Ok tt) → new.fault ≡ None → ArePlayed new.fault given new.core.entries new.left
    played_on one goes other = subst (λ (f : Option StepFault). IsPlayed f (script_of given other) (part other (pairs_of new.core.entries)) (script_of new.left other)) (sym goes) (one_more (Ok tt) one other)

    pub played_last : (fault : StepFault) → AddsOne g old.core new.core (actor_of actor) request (Err fault) → new.fault ≡ Some fault → ArePlayed new.fault given new.core.entries new.left
    played_last fault one is other = begins fault (script_of given other) (part other (pairs_of new.core.entries)) (script_of new.left other) (one_more (Err fault) one other) new.fault is (script_of new.left other)

    pub played_none : (fault : StepFault) → new.core ≡ old.core → new.fault ≡ Some fault → ArePlayed new.fault given new.core.entries new.left
    played_none fault same is other =
        subst (λ (c : CoreView B C). IsPlayed new.fault (script_of given other) (part other (pairs_of c.entries)) (script_of new.left other)) (sym same)
        (begins fault (script_of given other) (part other (pairs_of old.core.entries)) (script_of old.left other) (so_far other) new.fault is (script_of new.left other))

  -- after a step that answered a fault the crew may go on, though it plays no more
  pub goes_on_broken : (fault : StepFault) → new.fault ≡ Some fault → old.core.state.ended ≡ false → OnPlayed (Err fault) (AddsOne g old.core new.core (actor_of actor) request (Err fault)) → (failed fault ≡ Err Memory → new.core ≡ old.core) → MayGoOn new
  goes_on_broken Memory is live adds same = goes_on_without (same refl) (subst (λ (f : Option StepFault). TellsFault f new.core) (sym is) (ap (λ (c : CoreView B C). c.state.ended) (same refl) ∙ live))
  goes_on_broken BootFault is live adds same = goes_on_with (Err BootFault) adds (subst (λ (f : Option StepFault). TellsFault f new.core) (sym is) (ends_in_fault g old.core new.core (actor_of actor) request adds))
  goes_on_broken BootStopped is live adds same = goes_on_with (Err BootStopped) adds (subst (λ (f : Option StepFault). TellsFault f new.core) (sym is) (ends_in_stop g old.core new.core (actor_of actor) request adds))

-- ---- from whatever opening it represented

pub was_none : (f : Option StepFault) → is_some f ≡ false → f ≡ None
was_none None is = refl
was_none (Some fault) is = absurd (cc is)

pub goes_live : {B C : Type 0} (h : CrewView B C) → MayGoOn h → h.fault ≡ None → h.core.state.ended ≡ false
goes_live h goes_on went = subst (λ (f : Option StepFault). TellsFault f h.core) went goes_on.fault

-- a request that wasn't played is one that its actor's script has after what it played
lacks_one : {B C : Type 0} (old new : CrewView B C) (actor : ℕ) (request : Request) → Takes old new actor request → old.fault ≡ None → (scripts : List (List Request)) → ArePlayed old.fault scripts old.core.entries old.left → LacksOne scripts old.core.entries
lacks_one old new actor request takes went scripts was = (
  actor,
  request,
  script_of new.left actor,
  subst (λ (f : Option StepFault). IsPlayed f (script_of scripts actor) (part actor (pairs_of old.core.entries)) (script_of old.left actor)) went (was actor)
      ∙ ap (λ (l : List Request). part actor (pairs_of old.core.entries) ++ l) takes.next,
)

module _ {B C : Type 0} (g : Ghosts B) (laws : Laws g) (v : ValidatorGhosts C) (old new : CrewView B C) (actor : ℕ) (request : Request) (goes_on : MayGoOn old) (within : actor < 17) (takes : Takes old new actor request) (went : old.fault ≡ None) where
  abbrev Leads : Opening B C → List (List Request) → CrewView B C → Type 0
  Leads o scripts h = LeadsFrom g v.verdict o scripts h

  abbrev HasStepped : Result Unit StepFault → Type 0
  HasStepped result = (e : Entry) × Stepped g v old.core new.core (actor_of actor, request) e result

  adds : (result : Result Unit StepFault) → HasStepped result → AddsOne g old.core new.core (actor_of actor) request result
  adds result step = adds_one g v old.core new.core (actor_of actor) request result step

  lead_on : (result : Result Unit StepFault) → HasStepped result
      → ((scripts : List (List Request)) → ArePlayed old.fault scripts old.core.entries old.left → ArePlayed new.fault scripts new.core.entries new.left)
      → ((scripts : List (List Request)) → LacksAfter new.fault scripts new.core.entries)
      → (o : Opening B C) (scripts : List (List Request)) → Leads o scripts old → Leads o scripts new
  lead_on result step played lacks o given was = record {
    serves = serves_on g v.verdict o old.core new.core (stepped_continues g v old.core new.core (actor_of actor) request result laws (goes_live old goes_on went) step) was.serves;
    played = played given was.played;
    lacks = lacks given;
    actors = subst (λ (es : List Entry). HaveActors (pairs_of es)) (sym step.1.adds.added) (scripts.actors-push old.core.entries step.0 actor step.1.adds.actor_is was.actors);
  }

  lacks_none : (fault : Option StepFault) → fault ≡ None → (scripts : List (List Request)) (entries : List Entry) → LacksAfter fault scripts entries
  lacks_none fault is scripts entries = subst (λ (f : Option StepFault). LacksAfter f scripts entries) (sym is) tt

  pub leads_on : new.fault ≡ None → HasStepped (Ok tt) → (o : Opening B C) (scripts : List (List Request)) → Leads o scripts old → Leads o scripts new
  leads_on goes step = lead_on (Ok tt) step (λ given was. played_on g old new actor request goes_on within takes given went was (adds (Ok tt) step) goes) (λ given. lacks_none new.fault goes given new.core.entries)

  lead_same : new.fault ≡ Some Memory → new.core ≡ old.core → (o : Opening B C) (scripts : List (List Request)) → Leads o scripts old → Leads o scripts new
  lead_same is same o given was = record {
    serves = subst (λ (c : CoreView B C). Serves g v.verdict o c) (sym same) was.serves;
    played = played_none g old new actor request goes_on within takes given went was.played Memory same is;
    lacks = subst (λ (f : Option StepFault). LacksAfter f given new.core.entries) (sym is) (subst (λ (c : CoreView B C). LacksOne given c.entries) (sym same) (lacks_one old new actor request takes went given was.played));
    actors = subst (λ (c : CoreView B C). HaveActors (pairs_of c.entries)) (sym same) was.actors;
  }

  pub leads_broken : (fault : StepFault) → new.fault ≡ Some fault → OnPlayed (Err fault) (HasStepped (Err fault))
      → (failed fault ≡ Err Memory → new.core ≡ old.core) → (o : Opening B C) (scripts : List (List Request)) → Leads o scripts old → Leads o scripts new
  leads_broken Memory is step same = lead_same is (same refl)
  leads_broken BootFault is step same = lead_on (Err BootFault) step (λ given was. played_last g old new actor request goes_on within takes given went was BootFault (adds (Err BootFault) step) is)
      (λ given. subst (λ (f : Option StepFault). LacksAfter f given new.core.entries) (sym is) tt)
  leads_broken BootStopped is step same = lead_on (Err BootStopped) step (λ given was. played_last g old new actor request goes_on within takes given went was BootStopped (adds (Err BootStopped) step) is)
      (λ given. subst (λ (f : Option StepFault). LacksAfter f given new.core.entries) (sym is) tt)
