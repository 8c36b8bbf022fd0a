-- The verdicts of a history are those of the functions that it began with.
use Rattle.std.proofs.Common.{◌≡◌, ◌⊎◌, ◌∙◌, ℕ, List, [], ◌∷◌, ◌++◌, count_by, Option, Some, None, IsSome, Result, ℤ, refl, subst}
use Rattle.std.specs.Option.{ForSome}
use Rattle.tbl_model.specs.Telemetry.{Question}
use Rattle.tbl_model.specs.State.{State}
use Rattle.tbl_model.specs.History.{Run, begins_at, onward, run_from}
use Rattle.tbl_kinds.specs.declared.entry.Entry.{Entry}
use Rattle.tbl_kinds.specs.declared.request.Actor.{Actor}
use Rattle.tbl_kinds.specs.declared.request.Request.{Request}
use Rattle.tbl_outside.specs.declared.validator.KitEntry.{KitEntry}
use Rattle.validation.specs.Kits.{entry_at}
use Rattle.validation.specs.Asked.{is_for, GivesEach, Stays}
use Rattle.tbl_core.specs.Service.{CoreView, EngineView, core_of, FollowsFrom, Vouches, Plays}
use Rattle.tbl_core.proofs.Verdicts.{was_there}
use Rattle.tbl_session.specs.Verdicts.{questions_in, AreGiven, IsOf, AreOf}
use Rattle.tbl_core.specs.declared.service.StepFault.{StepFault}
use Rattle.tbl_core.proofs.Steps.{plays_on}
use Rattle.tbl_outside.specs.declared.bank.Bank.{Ghosts}
use Rattle.tbl_outside.specs.declared.validator.Validator.{Ghosts as ValidatorGhosts}

module _ {C : Type 0} (verdict : C → List ℕ → ℤ) where
  -- what is in the kit gives what the first function gives
  gives_first : (first entry : Option (KitEntry C)) (image : List ℕ) (v : ℤ) → IsOf verdict first entry → IsSome entry × ForSome entry (λ e. v ≡ verdict e.check image) → IsSome first × ForSome first (λ e. v ≡ verdict e.check image)
  gives_first first None image v of gives = absurd (cc gives.0)
  gives_first None (Some entry) image v of gives = absurd of
  gives_first (Some first) (Some entry) image v of gives = (cc, λ e same. let is : e ≡ first = cc same in rw is (gives.1 entry refl ∙ of image))

  each_first : (given kit : List (Option (KitEntry C))) → AreOf verdict given kit → (questions : List Question) (verdicts : List (Option ℤ)) → GivesEach verdict kit questions verdicts → GivesEach verdict given questions verdicts
  each_first given kit of [] [] gives = tt
  each_first given kit of [] (None ∷ verdicts) gives = each_first given kit of [] verdicts gives
  each_first given kit of [] (Some v ∷ verdicts) gives = absurd gives
  each_first given kit of (q ∷ more) [] gives = absurd gives
  each_first given kit of (q ∷ more) (None ∷ verdicts) gives = absurd gives
  each_first given kit of (q ∷ more) (Some v ∷ verdicts) gives = (gives_first (entry_at given q.number) (entry_at kit q.number) q.image v (of q.number) gives.0, each_first given kit of more verdicts gives.1)

  -- one entry more
  given_push : (given : List (Option (KitEntry C))) (r : Run) (es : List Entry) (e : Entry) → AreGiven verdict given r es → GivesEach verdict given (questions_in (run_from r es) e) e.given.verdicts → AreGiven verdict given r (es ++ e ∷ [])
  given_push given r [] e before gives = (gives, tt)
  given_push given r (x ∷ es) e before gives = (before.0, given_push given (onward r x) es e before.1 gives)

  -- a kit is of itself
  same_function : (entry : Option (KitEntry C)) → IsOf verdict entry entry
  same_function None = tt
  same_function (Some entry) = λ image. refl

  -- whoever represents an opening vouches for the functions that it began with
  pub vouch_first : {B : Type 0} (g : Ghosts B) (given : List (Option (KitEntry C))) (opening : State) (core : CoreView B C) → core.entries ≡ [] → core.state.kit ≡ given → FollowsFrom g opening core → Vouches g verdict given opening core
  vouch_first g given opening core none same stands = record {
    stands = stands;
    verdicts = λ told. rw none tt;
    functions = rw same (λ number. same_function (entry_at given number));
  }

module _ {C : Type 0} (v : ValidatorGhosts C) where
  of_before : (times : ℕ) (first old new : Option (KitEntry C)) → IsOf v.verdict first old → (new ≡ None) ⊎ Stays v.verdict v.asked times old new → IsOf v.verdict first new
  of_before times first old None of stood = tt
  of_before times first old (Some new) of stood =
      let was = was_there v times old (Some new) new refl stood in
      by first was.0 (subst (IsOf v.verdict first) was.1 of) was.2
    where
      by : (first : Option (KitEntry C)) (before : KitEntry C) → IsOf v.verdict first (Some before) → ((image : List ℕ) → v.verdict new.check image ≡ v.verdict before.check image) → IsOf v.verdict first (Some new)
      by None before of steady = absurd of
      by (Some entry) before of steady = λ image. steady image ∙ of image

  pub vouches_on : {B : Type 0} (g : Ghosts B) (old new : EngineView B C) (actor : Actor) (request : Request) (e : Entry) (result : Result Unit StepFault)
      → Plays g v old new (actor, request) e result
      → (opening : State) (past : List Entry) (given : List (Option (KitEntry C))) → Vouches g v.verdict given opening (core_of past old) → Vouches g v.verdict given opening (core_of (past ++ e ∷ []) new)
  vouches_on g old new actor request e result p opening past given vouched = record {
    stands = plays_on g v old new actor request e result p opening past vouched.stands;
    verdicts = λ told.
        let judged = p.judged told (run_from (begins_at opening) past) (vouched.stands.shows told) in
        given_push v.verdict given (begins_at opening) past e (vouched.verdicts told) (each_first v.verdict given old.state.kit vouched.functions _ e.given.verdicts judged.gives);
    functions = λ number. of_before (count_by (is_for number) p.kit.0) (entry_at given number) (entry_at old.state.kit number) (entry_at new.state.kit number) (vouched.functions number) (p.kit.1.each number);
  }
