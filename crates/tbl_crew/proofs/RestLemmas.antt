-- What a turn leaves of the scripts, and of the kept fault.
use Rattle.std.proofs.Common.{◌≡◌, ◌≢◌, ◌⊎◌, ℕ, suc, ◌+◌, ◌<◌, List, [], ◌∷◌, length, Bool, true, false, Some, None, refl, sym, ap, subst, ◌∙◌, arith, inl, inr, ℤ}
use Rattle.std.specs.Prelude.{◌==◌}
use mathlib.Core.Logic.{dite}
use native.Mathlib.Decide.{ℕ_discrete}
use Rattle.std.proofs.lemmas.Bool.{eqb-true}
use Rattle.std.proofs.lemmas.Bool.Decides.{nat_tests}
use Rattle.std.proofs.lemmas.List.{get_or-set_other}
use Rattle.tbl_kinds.specs.declared.request.Request.{Request}
use Rattle.tbl_outside.specs.declared.bank.Bank.{Ghosts}
use Rattle.tbl_crew.specs.CrewView.{CrewView}
use Rattle.tbl_crew.specs.Moves.{Grows, Moves, HasEnded, IsTurned, PlaysRest}
use Rattle.tbl_crew.specs.Scripts.{script_of}
use Rattle.tbl_crew.specs.Turns.{Takes, PlaysNext, Breaks, Turns, TakesTurn}
use Rattle.tbl_core.specs.Service.{CoreView}
use Rattle.tbl_core.specs.declared.service.StepFault.{StepFault}
use Rattle.tbl_core.specs.declared.service.StepFault.TheVariants.{Memory, BootFault, BootStopped}
use Rattle.tbl_crew.specs.declared.held.Turn.{Turn}
use Rattle.tbl_crew.specs.declared.held.Turn.TheVariants.{Played, Pinned, PinMemory, Ended, Done}

module _ {B C : Type 0} (g : Ghosts B) (old new : CrewView B C) (actor : ℕ) where
  -- an empty script stays empty
  by_actor : (request : Request) → Takes old new actor request → (other : ℕ) (b : Bool) → (other == actor) ≡ b → script_of old.left other ≡ [] → script_of new.left other ≡ []
  by_actor request takes other true is none =
      let same : other ≡ actor = eqb-true other actor is in
      absurd (let more = subst (λ (n : ℕ). script_of old.left n ≡ request ∷ script_of new.left n) (sym same) takes.next in cc (none, more))
  by_actor request takes other false is none =
      let apart : other ≢ actor = λ same. absurd (grind (arith, nat_tests)) in
      ap (λ (s : List (List Request)). script_of s other) takes.others ∙ get_or-set_other old.left actor other (script_of new.left actor) [] apart ∙ none

  pub stays_empty : (result : Turn) → Turns g old new actor result → (other : ℕ) → script_of old.left other ≡ [] → script_of new.left other ≡ []
  stays_empty Played turn other none = by_actor turn.request turn.takes other (other == actor) refl none
  stays_empty (Pinned pin) turn other none = by_actor turn.request turn.takes other (other == actor) refl none
  stays_empty PinMemory turn other none = by_actor turn.request turn.takes other (other == actor) refl none
  stays_empty Ended (inl now) other none = by_actor now.request now.takes other (other == actor) refl none
  stays_empty Ended (inr before) other none = ap (λ (h : CrewView B C). script_of h.left other) before.same ∙ none
  stays_empty Done turn other none = ap (λ (h : CrewView B C). script_of h.left other) turn.same ∙ none

  -- a crew that goes on went on before
  pub went_on : (result : Turn) → Turns g old new actor result → new.fault ≡ None → old.fault ≡ None
  went_on Played turn goes = turn.went
  went_on (Pinned pin) turn goes = turn.went
  went_on PinMemory turn goes = turn.went
  went_on Ended (inl now) goes = now.went
  went_on Ended (inr before) goes = sym (ap (λ (h : CrewView B C). h.fault) before.same) ∙ goes
  went_on Done turn goes = turn.went

  -- one that ended doesn't go on
  pub not_ended : Turns g old new actor Ended → new.fault ≡ None → script_of new.left actor ≡ []
  not_ended (inl now) goes = absurd (let is = now.keeps in cc (is, goes))
  not_ended (inr before) goes = absurd (let is = before.kept in let same = ap (λ (h : CrewView B C). h.fault) before.same in cc (is, same, goes))

  pub all_done : Turns g old new actor Done → script_of new.left actor ≡ []
  all_done turn = ap (λ (h : CrewView B C). script_of h.left actor) turn.same ∙ turn.none

  pub one_fewer : (turn : Turn) → PlaysNext g old new actor turn → length (script_of new.left actor) < length (script_of old.left actor)
  one_fewer result turn = let is : length (script_of old.left actor) ≡ suc (length (script_of new.left actor)) = ap length turn.takes.next in omega (arith, is)

  -- it leaves what the others have still to ask
  took_own : (request : Request) → Takes old new actor request → (other : ℕ) → other ≢ actor → script_of new.left other ≡ script_of old.left other
  took_own request takes other apart = ap (λ (s : List (List Request)). script_of s other) takes.others ∙ get_or-set_other old.left actor other (script_of new.left actor) [] apart

  pub others_stay : (result : Turn) → Turns g old new actor result → (other : ℕ) → other ≢ actor → script_of new.left other ≡ script_of old.left other
  others_stay Played turn other apart = took_own turn.request turn.takes other apart
  others_stay (Pinned pin) turn other apart = took_own turn.request turn.takes other apart
  others_stay PinMemory turn other apart = took_own turn.request turn.takes other apart
  others_stay Ended (inl now) other apart = took_own now.request now.takes other apart
  others_stay Ended (inr before) other apart = ap (λ (h : CrewView B C). script_of h.left other) before.same
  others_stay Done turn other apart = ap (λ (h : CrewView B C). script_of h.left other) turn.same

  -- it adds one entry of its actor, or none
  grew_broken : (request : Request) (fault : StepFault) → Breaks g old.core new.core actor request fault → Grows old.core.entries actor new.core.entries
  grew_broken request Memory same = inl (ap (λ (c : CoreView B C). c.entries) same)
  grew_broken request BootFault adds = inr (adds.entry, adds.added, adds.actor_is)
  grew_broken request BootStopped adds = inr (adds.entry, adds.added, adds.actor_is)

  grew : (result : Turn) → Turns g old new actor result → Grows old.core.entries actor new.core.entries
  grew Played turn = inr (turn.adds.entry, turn.adds.added, turn.adds.actor_is)
  grew (Pinned pin) turn = inr (turn.adds.entry, turn.adds.added, turn.adds.actor_is)
  grew PinMemory turn = inr (turn.adds.entry, turn.adds.added, turn.adds.actor_is)
  grew Ended (inl now) = grew_broken now.request now.fault now.breaks
  grew Ended (inr before) = inl (ap (λ (h : CrewView B C). h.core.entries) before.same)
  grew Done turn = inl (ap (λ (h : CrewView B C). h.core.entries) turn.same)

  -- after a fault it changes nothing
  stopped : (result : Turn) → Turns g old new actor result → (cause : StepFault) → old.fault ≡ Some cause → new ≡ old
  stopped Played turn cause is = absurd (let went = turn.went in cc (is, went))
  stopped (Pinned pin) turn cause is = absurd (let went = turn.went in cc (is, went))
  stopped PinMemory turn cause is = absurd (let went = turn.went in cc (is, went))
  stopped Ended (inl now) cause is = absurd (let went = now.went in cc (is, went))
  stopped Ended (inr before) cause is = before.same
  stopped Done turn cause is = turn.same

  -- so it is one turn under the lock
  pub moved_by : (verdict : C → List ℕ → ℤ) (result : Turn) → TakesTurn g verdict old new actor result → Moves g verdict old actor new
  moved_by verdict result turn = record {
    leads = turn.leads;
    others = others_stay result turn.turns;
    went = went_on result turn.turns;
    pins = turn.pins;
    grows = grew result turn.turns;
    stops = stopped result turn.turns;
  }

  -- if it wasn't played, its actor has ended
  pub ended_now : (result : Turn) → Turns g old new actor result → (result ≡ Ended) ⊎ (result ≡ Done) → HasEnded new actor
  ended_now Played turn other = absurd (elim other [ inl is ↦ cc is | inr is ↦ cc is ])
  ended_now (Pinned pin) turn other = absurd (elim other [ inl is ↦ cc is | inr is ↦ cc is ])
  ended_now PinMemory turn other = absurd (elim other [ inl is ↦ cc is | inr is ↦ cc is ])
  ended_now Ended turn other = not_ended turn
  ended_now Done turn other = λ goes. all_done turn

-- how many requests its actor has left after a turn
pub is_turned : {B C : Type 0} (g : Ghosts B) (old new : CrewView B C) (actor count : ℕ) (result : Turn) → Turns g old new actor result → length (script_of old.left actor) ≡ count → IsTurned count actor result new
is_turned g old new actor count result turn left = by result turn where
  one_less : (request : Request) → Takes old new actor request → length (script_of new.left actor) + 1 ≡ count
  one_less request takes = let is : length (script_of old.left actor) ≡ suc (length (script_of new.left actor)) = ap length takes.next in omega (arith, is, left)

  by : (result : Turn) → Turns g old new actor result → IsTurned count actor result new
  by Played turn = one_less turn.request turn.takes
  by (Pinned pin) turn = (one_less turn.request turn.takes, turn.lends.pin_is)
  by PinMemory turn = one_less turn.request turn.takes
  by Ended turn = not_ended g old new actor turn
  by Done turn = λ goes. all_done g old new actor turn

-- one actor more has ended, and those before it still have
pub ended_next : {B C : Type 0} (old new : CrewView B C) (actor : ℕ) → ((other : ℕ) → other < actor → HasEnded old other) → HasEnded new actor → (new.fault ≡ None → old.fault ≡ None)
    → ((other : ℕ) → script_of old.left other ≡ [] → script_of new.left other ≡ []) → (other : ℕ) → other < actor + 1 → HasEnded new other
ended_next old new actor before now went kept other within goes = dite (ℕ_discrete other actor)
    (λ same. subst (λ (n : ℕ). script_of new.left n ≡ []) (sym same) (now goes))
    (λ apart. kept other (before other (omega (arith, within, apart)) (went goes)))

-- one turn more of what is left
pub rest_on : {B C : Type 0} (g : Ghosts B) (verdict : C → List ℕ → ℤ) (first old new : CrewView B C) (actor : ℕ) (result : Turn) → PlaysRest g verdict first old → TakesTurn g verdict old new actor result → PlaysRest g verdict first new
rest_on g verdict first old new actor result was turn = record {
  leads = λ o scripts led. turn.leads o scripts (was.leads o scripts led);
  went_on = λ goes. was.went_on (went_on g old new actor result turn.turns goes);
  kept = λ other none. stays_empty g old new actor result turn.turns other (was.kept other none);
}
