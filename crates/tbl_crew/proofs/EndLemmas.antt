-- How a watched crew ends.
use Rattle.std.proofs.Common.{◌≡◌, ◌≢◌, ℕ, ◌<◌, List, [], length, take, Option, Some, None, Result, Ok, Err, refl, subst, inl, inr, arith, ℤ}
use Rattle.std.specs.Prelude.{OnOk}
use Rattle.std.proofs.Math.Decide.{dec_lt}
use Rattle.std.proofs.Math.Logic.{dite}
use Rattle.std.proofs.lemmas.List.{get_or_past}
use Rattle.turn_lock.specs.Turns.{Knows}
use Rattle.turn_lock.proofs.Lists.{in_take}
use Rattle.tbl_kinds.specs.declared.request.Request.{Request}
use Rattle.tbl_outside.specs.declared.bank.Bank.{Ghosts}
use Rattle.tbl_session.specs.Actors.{actor_count}
use Rattle.tbl_session.specs.Openings.{Opening}
use Rattle.table_watch.specs.Looks.{looked}
use Rattle.table_watch.specs.Watching.{watcher}
use Rattle.table_watch.specs.declared.watch.Look.{Look}
use Rattle.tbl_crew.specs.CrewView.{CrewView, MayGoOn, TellsFault}
use Rattle.tbl_crew.specs.Leading.{IsPlayed, LeadsFrom, LeadsOn}
use Rattle.tbl_crew.specs.Moves.{AllEnded, Moves, HasEnded, HaveEnded, PlaysRest}
use Rattle.tbl_crew.specs.Watching.{AreLooks, LacksLook, HasLooked, CutShort, IsWatched, end_of, WatchesAll}
use Rattle.tbl_crew.proofs.HistoryLemmas.{all_played, one_history}
use Rattle.tbl_crew.proofs.MoveLemmas.{all_ended}
use Rattle.tbl_crew.proofs.RestLemmas.{ended_next}
use Rattle.std.proofs.lemmas.List.{length-take-le}
use Rattle.tbl_core.specs.Service.{CoreView}
use Rattle.tbl_core.specs.declared.service.StepFault.{StepFault}
use Rattle.tbl_history.proofs.ServingLemmas.{served_of}
use Rattle.tbl_kinds.specs.Transcript.{pairs_of}
use Rattle.tbl_session.specs.Actors.{part}
use Rattle.tbl_crew.specs.Histories.{OneHistory}
use Rattle.tbl_crew.specs.Scripts.{script_of}
use Rattle.tbl_crew.proofs.LookLemmas.{no_looks}

-- what the caller plays of a watched crew: the others' scripts, and after them the watcher's
pub rest_watched : {B C M : Type 0} (g : Ghosts B) (verdict : C → List ℕ → ℤ) (first mid now : CrewView B C) (result : Result Unit M) (looks : List Look) → LeadsOn g verdict first mid → AllEnded watcher mid
    → PlaysRest g verdict mid now → OnOk result (HasEnded now watcher) → HasLooked g verdict first result looks now → WatchesAll g verdict first result looks now
rest_watched g verdict first mid now result looks leads before rest ended looked = record {
  leads = λ o scripts led. rest.leads o scripts (leads o scripts led);
  others = λ actor within goes. rest.kept actor (before actor within (rest.went_on goes));
  ended = by result ended;
  looked = looked;
} where
  by : {X : Type 0} (r : Result Unit X) → OnOk r (HasEnded now watcher) → OnOk r (AllEnded actor_count now)
  by (Err e) last = tt
  by (Ok x) last = λ actor within. ended_next mid now watcher before last rest.went_on rest.kept actor within

module _ {B C : Type 0} (g : Ghosts B) (verdict : C → List ℕ → ℤ) where
  -- so it is of the value that comes out of the lock
  pub close_others : (seen : List (CrewView B C)) (now : CrewView B C) → length seen ≡ actor_count → Knows (Moves g verdict) 0 seen now → HaveEnded 0 (take watcher seen) → (actor : ℕ) → actor < watcher → HasEnded now actor
  close_others seen now long knows ended =
      let few : length (take watcher seen) ≡ watcher = length-take-le watcher seen (omega (arith, long)) in
      all_ended g verdict (take watcher seen) now watcher few (λ i x at. knows i x (in_take watcher seen i x at)) ended

  pub close_ended : {T E : Type 0} (result : Result T E) (seen : List (CrewView B C)) (now : CrewView B C) → length seen ≡ actor_count → Knows (Moves g verdict) 0 seen now → OnOk result (HaveEnded 0 seen) → OnOk result ((actor : ℕ) → actor < actor_count → HasEnded now actor)
  close_ended (Err e) seen now long knows ended = tt
  close_ended (Ok x) seen now long knows ended = all_ended g verdict seen now actor_count long knows ended

  -- the whole script of an actor that has nothing left
  whole_of : (h : CrewView B C) → MayGoOn h → h.fault ≡ None → ((actor : ℕ) → actor < watcher → HasEnded h actor) → (actor : ℕ) → actor ≢ watcher → script_of h.left actor ≡ []
  whole_of h goes_on none ended actor apart = dite (dec_lt actor watcher)
      (λ within. ended actor within none)
      (λ past. get_or_past h.left actor [] (omega (arith, goes_on.actors, past, apart)))

  -- of a crew whose watcher ended before the others
  cut_short : (o : Opening B C) (scripts : List (List Request)) (looks : List Look) (h : CrewView B C) → MayGoOn h → h.fault ≡ None → ((actor : ℕ) → actor < watcher → HasEnded h actor) → LeadsFrom g verdict o scripts h
      → LacksLook g o looks h.core.entries → CutShort g verdict o scripts looks h.core
  cut_short o scripts looks h goes_on none ended leads lacks = record {
    served = served_of g verdict o h.core leads.serves;
    played = record { parts = λ actor. (script_of h.left actor, so_far actor); actors = leads.actors };
    others = λ actor apart. all_played None None (script_of scripts actor) (part actor (pairs_of h.core.entries)) (script_of h.left actor) refl (λ _. whole_of h goes_on none ended actor apart) (so_far actor);
    lacks = lacks;
    few = omega (arith, goes_on.few);
    caused = leads.serves.caused;
    live = subst (λ (f : Option StepFault). TellsFault f h.core) none goes_on.fault;
  } where
    so_far : (actor : ℕ) → IsPlayed None (script_of scripts actor) (part actor (pairs_of h.core.entries)) (script_of h.left actor)
    so_far actor = subst (λ (f : Option StepFault). IsPlayed f (script_of scripts actor) (part actor (pairs_of h.core.entries)) (script_of h.left actor)) none (leads.played actor)

  -- of one that a step's fault ended
  broken : (o : Opening B C) (scripts : List (List Request)) (h : CrewView B C) (cause : StepFault) → h.fault ≡ Some cause → MayGoOn h → LeadsFrom g verdict o scripts h → OneHistory g verdict o scripts (Some cause) h.core
  broken o scripts h cause is goes_on leads = subst (λ (f : Option StepFault). OneHistory g verdict o scripts f h.core) is (one_history g verdict o scripts h goes_on (λ actor within goes. absurd (cc (is, goes))) leads)

  pub is_watched : {M : Type 0} (first h : CrewView B C) (looks : List Look) (fault : Option StepFault) (looked : Result Unit M) → h.fault ≡ fault → MayGoOn h → WatchesAll g verdict first looked looks h
      → (o : Opening B C) (scripts : List (List Request)) → LeadsFrom g verdict o scripts first → IsWatched g verdict o scripts (end_of fault looked) looks h.core
  is_watched first h looks (Some cause) (Ok done) is goes_on all o scripts from = (
    broken o scripts h cause is goes_on (all.leads o scripts from),
    inl (subst (λ (f : Option StepFault). AreLooks g o f looks h.core.entries) is (all.looked o scripts from).1),
  )
  is_watched first h looks (Some cause) (Err memory) is goes_on all o scripts from = (broken o scripts h cause is goes_on (all.leads o scripts from), inr (all.looked o scripts from))
  is_watched first h looks None (Ok done) is goes_on all o scripts from = (
    subst (λ (f : Option StepFault). OneHistory g verdict o scripts f h.core) is (one_history g verdict o scripts h goes_on all.ended (all.leads o scripts from)),
    subst (λ (f : Option StepFault). AreLooks g o f looks h.core.entries) is (all.looked o scripts from).1,
  )
  is_watched first h looks None (Err memory) is goes_on all o scripts from = cut_short o scripts looks h goes_on is all.others (all.leads o scripts from) (all.looked o scripts from)

  -- of one that played nothing
  pub nothing_watched : (M : Type 0) (o : Opening B C) (scripts : List (List Request)) (fault : Option StepFault) (looks : List Look) (core : CoreView B C) → looks ≡ [] → core.entries ≡ [] → OneHistory g verdict o scripts fault core
      → IsWatched g verdict o scripts (end_of {M = M} fault (Ok tt)) looks core
  nothing_watched M o scripts None looks core none empty one = (one, no_looks g.tells o.state looks core.entries none empty)
  nothing_watched M o scripts (Some cause) looks core none empty one = (one, inl ([], [], empty, omega arith, no_looks g.tells o.state looks [] none refl))
