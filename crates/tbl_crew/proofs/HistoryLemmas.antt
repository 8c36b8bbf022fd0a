-- From what a crew represents to what is promised of its history.
use Rattle.std.proofs.Common.{◌≡◌, ℕ, ◌<◌, List, [], ◌∷◌, ◌++◌, length, Bool, true, false, Option, Some, None, refl, sym, ap, subst, ◌∙◌, ℤ, arith}
use Rattle.std.specs.Prelude.{◌==◌, if◌then◌else◌, All}
use Rattle.std.specs.List.{AllByRecursion}
use Rattle.std.proofs.lemmas.Bool.Decides.{nat_tests}
use Rattle.std.proofs.Math.Decide.{dec_lt}
use Rattle.std.proofs.Math.Logic.{dite}
use Rattle.std.proofs.lemmas.List.{append-nil, get_or_past}
use Rattle.std.proofs.lemmas.List.Elements.{All-nil, All-cons, All-head, All-tail, All-same}
use Rattle.tbl_kinds.specs.Records.{Pair, actor_number}
use Rattle.tbl_kinds.specs.Transcript.{pairs_of}
use Rattle.tbl_kinds.specs.declared.entry.Entry.{Entry}
use Rattle.tbl_kinds.specs.declared.request.Actor.{Actor}
use Rattle.tbl_kinds.specs.declared.request.Request.{Request}
use Rattle.tbl_core.specs.Service.{CoreView}
use Rattle.tbl_core.specs.declared.service.StepFault.{StepFault}
use Rattle.tbl_core.specs.declared.service.StepFault.TheVariants.{Memory}
use Rattle.tbl_history.specs.Serving.{Serves}
use Rattle.tbl_crew.specs.Histories.{HasPlayed, HavePlayed, OneHistory}
use Rattle.tbl_crew.specs.CrewView.{CrewView, MayGoOn, TellsFault}
use Rattle.tbl_outside.specs.declared.bank.Bank.{Ghosts}
use Rattle.tbl_session.specs.Openings.{Opening}
use Rattle.tbl_history.proofs.ServingLemmas.{served_of}
use Rattle.tbl_crew.specs.Leading.{IsPlayed, LacksOne, LacksAfter, LeadsFrom}
use Rattle.tbl_crew.specs.Moves.{HasEnded}
use Rattle.tbl_session.specs.Actors.{actor_count, actor_of, part, HaveActors}
use Rattle.tbl_crew.specs.Scripts.{script_of, OfEach}

-- nothing is left of a script
pub all_played : (fault f : Option StepFault) (script played left : List Request) → fault ≡ f → (fault ≡ None → left ≡ []) → IsPlayed f script played left → HasPlayed f script played
all_played fault None script played left is none was = sym (was ∙ ap (λ (l : List Request). played ++ l) (none is) ∙ append-nil played)
all_played fault (Some cause) script played left is none was = was

module _ {B C : Type 0} (g : Ghosts B) (verdict : C → List ℕ → ℤ) where
  none_left : (h : CrewView B C) → MayGoOn h → ((actor : ℕ) → actor < actor_count → HasEnded h actor) → h.fault ≡ None → (actor : ℕ) → script_of h.left actor ≡ []
  none_left h goes_on ended is actor = dite (dec_lt actor 17)
      (λ within. ended actor within is)
      (λ past. get_or_past h.left actor [] (omega (arith, goes_on.actors)))

  pub one_history : (o : Opening B C) (scripts : List (List Request)) (h : CrewView B C) → MayGoOn h → ((actor : ℕ) → actor < actor_count → HasEnded h actor) → LeadsFrom g verdict o scripts h
      → OneHistory g verdict o scripts h.fault h.core
  one_history o scripts h goes_on ended leads = record {
    served = served_of g verdict o h.core leads.serves;
    played = record {
      parts = λ actor. all_played h.fault h.fault (script_of scripts actor) (part actor (pairs_of h.core.entries)) (script_of h.left actor) refl (λ is. none_left h goes_on ended is actor) (leads.played actor);
      actors = leads.actors;
    };
    lacks = leads.lacks;
    few = omega (arith, goes_on.few);
    caused = leads.serves.caused;
    ended = goes_on.fault;
  }

  -- ---- nothing was played

  nothing : (o : Opening B C) (scripts : List (List Request)) (fault : Option StepFault) (core : CoreView B C) → Serves g verdict o core → core.entries ≡ [] → HavePlayed fault scripts [] → LacksAfter fault scripts [] → TellsFault fault core
      → OneHistory g verdict o scripts fault core
  nothing o scripts fault core serves empty played lacks ended = record {
    served = served_of g verdict o core serves;
    played = subst (HavePlayed fault scripts) (sym empty) played;
    lacks = subst (LacksAfter fault scripts) (sym empty) lacks;
    few = omega (arith, ap length empty);
    caused = serves.caused;
    ended = ended;
  }

  -- since there was nothing to play
  pub nothing_asked : (o : Opening B C) (scripts : List (List Request)) (core : CoreView B C) → Serves g verdict o core → core.entries ≡ [] → core.state.ended ≡ false → ((actor : ℕ) → script_of scripts actor ≡ []) → OneHistory g verdict o scripts None core
  nothing_asked o scripts core serves empty live none = nothing o scripts None core serves empty (record { parts = λ actor. sym (none actor); actors = tt }) tt live

  -- since memory ran out
  pub nothing_played : (o : Opening B C) (scripts : List (List Request)) (core : CoreView B C) → Serves g verdict o core → core.entries ≡ [] → core.state.ended ≡ false → LacksOne scripts [] → OneHistory g verdict o scripts (Some Memory) core
  nothing_played o scripts core serves empty live lacks = nothing o scripts (Some Memory) core serves empty (record { parts = λ actor. (script_of scripts actor, refl); actors = tt }) lacks live

-- ---- what holds of each request that was given holds of each that was played

-- of the elements in front
front : {X : Type 0} (P : X → Type 0) (xs ys : List X) → All P (xs ++ ys) → All P xs
front P [] ys each = All-nil P
front P (x ∷ xs) ys each = All-cons P x xs (All-head P x (xs ++ ys) each) (front P xs ys (All-tail P x (xs ++ ys) each))

-- of a script that was played to its end, or whose beginning was
in_part : (P : Request → Type 0) (fault : Option StepFault) (script played : List Request) → HasPlayed fault script played → All P script → All P played
in_part P None script played is each = All-same P played script is each
in_part P (Some fault) script played is each = front P played is.0 (All-same P (played ++ is.0) script (sym is.1) each)

in_rest : (P : Request → Type 0) (b : Bool) (x : Request) (xs : List Request) → All P (if b then x ∷ xs else xs) → All P xs
in_rest P true x xs each = All-tail P x xs each
in_rest P false x xs each = each

in_first : (P : Request → Type 0) (b : Bool) (x : Request) (xs : List Request) → b ≡ true → All P (if b then x ∷ xs else xs) → P x
in_first P true x xs is each = All-head P x xs each
in_first P false x xs is each = absurd (cc is)

module _ (P : Pair → Type 0) where
  -- of this actor's requests
  abbrev OfActor : ℕ → Request → Type 0
  OfActor actor request = P (record { actor = actor_of actor; request = request })

  from_parts : (pairs : List Pair) → HaveActors pairs → ((actor : ℕ) → All (OfActor actor) (part actor pairs)) → AllByRecursion P pairs
  from_parts [] actors each = tt
  from_parts (p ∷ pairs) actors each =
      let own = actor_number p.actor in
      let same : (own == own) ≡ true = grind (arith, nat_tests) in (
        subst (λ (actor : Actor). P (record { actor = actor; request = p.request })) (sym actors.0) (in_first (OfActor own) (own == own) p.request (part own pairs) same (each own)),
        from_parts pairs actors.1 (λ actor. in_rest (OfActor actor) (own == actor) p.request (part actor pairs) (each actor)),
      )

  pub of_each : (fault : Option StepFault) (scripts : List (List Request)) (entries : List Entry) → HavePlayed fault scripts entries → OfEach P scripts → AllByRecursion P (pairs_of entries)
  of_each fault scripts entries played each = from_parts (pairs_of entries) played.actors (λ actor. in_part (OfActor actor) fault (script_of scripts actor) (part actor (pairs_of entries)) (played.parts actor) (each actor))
