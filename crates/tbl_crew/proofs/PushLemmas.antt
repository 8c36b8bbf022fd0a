-- What a push adds to the scripts.
use Rattle.std.proofs.Common.{◌≡◌, ◌≢◌, ℕ, zero, suc, ◌+◌, ◌<◌, List, [], ◌∷◌, ◌++◌, length, replicate, Bool, true, false, refl, sym, ap, subst, ◌∙◌, arith, length-set, get_or-set_same}
use Rattle.std.specs.Prelude.{◌==◌, All}
use Rattle.std.proofs.lemmas.Bool.{eqb-true}
use Rattle.std.proofs.lemmas.Bool.Decides.{nat_tests}
use Rattle.std.proofs.lemmas.List.{length-append, get_or-set_other}
use Rattle.std.proofs.lemmas.List.Elements.{All-push}
use Rattle.std.proofs.lemmas.List.Sums.{sum_by-set}
use Rattle.tbl_kinds.specs.Records.{Pair, actor_number}
use Rattle.tbl_kinds.specs.Requests.{Fits}
use Rattle.tbl_kinds.specs.declared.request.Actor.{Actor}
use Rattle.tbl_kinds.specs.declared.request.Actor.TheVariants.{Ground, App}
use Rattle.tbl_kinds.specs.declared.request.Request.{Request}
use Rattle.tbl_session.specs.Actors.{actor_count, actor_of}
use Rattle.tbl_crew.specs.Scripts.{script_of, pushed, request_count, AllFit}

-- no scripts
empty_script : (n i : ℕ) → script_of (replicate n []) i ≡ []
empty_script zero i = refl
empty_script (suc n) zero = refl
empty_script (suc n) (suc i) = empty_script n i

pub fit_none : (scripts : List (List Request)) → scripts ≡ replicate actor_count [] → AllFit scripts
fit_none scripts none actor = subst (λ (script : List Request). All (Fits (actor_of actor)) script) (sym (ap (λ (s : List (List Request)). script_of s actor) none ∙ empty_script actor_count actor)) (λ k d below. absurd (omega arith))

pub count_none : (scripts : List (List Request)) → scripts ≡ replicate actor_count [] → request_count scripts ≡ 0
count_none scripts none = ap request_count none

-- the actor of an actor's number
fits_number : (actor : Actor) (request : Request) → Fits actor request → Fits (actor_of (actor_number actor)) request
fits_number Ground request fits = fits
fits_number (App zero) request fits = absurd (omega (arith, fits.0))
fits_number (App (suc n)) request fits = fits

-- that number
fits_below : (actor : Actor) (request : Request) → Fits actor request → actor_number actor < actor_count
fits_below Ground request fits = omega arith
fits_below (App n) request fits = omega (arith, fits.1)

-- scripts of all actors, and a request that may come from its own
module _ (scripts : List (List Request)) (p : Pair) (actors : length scripts ≡ actor_count) (fits : Fits p.actor p.request) where
  within : actor_number p.actor < length scripts
  within = omega (arith, actors, fits_below p.actor p.request fits)

  abbrev more : List Request
  more = script_of scripts (actor_number p.actor) ++ p.request ∷ []

  pub pushed_actors : length (pushed scripts p) ≡ actor_count
  pushed_actors = length-set scripts (actor_number p.actor) more ∙ actors

  -- one request more
  pub pushed_count : request_count (pushed scripts p) ≡ request_count scripts + 1
  pushed_count =
      let counted = sum_by-set length scripts (actor_number p.actor) more [] within in
      omega (arith, counted, length-append (script_of scripts (actor_number p.actor)) (p.request ∷ []))

  by_actor : (other : ℕ) (b : Bool) → (other == actor_number p.actor) ≡ b → AllFit scripts → All (Fits (actor_of other)) (script_of (pushed scripts p) other)
  by_actor other true is fit =
      let actor = actor_number p.actor in
      let same : other ≡ actor = eqb-true other actor is in
      subst (λ (n : ℕ). All (Fits (actor_of n)) (script_of (pushed scripts p) n)) (sym same)
      (subst (λ (xs : List Request). All (Fits (actor_of actor)) xs) (sym (get_or-set_same scripts actor more [] within))
      (All-push (Fits (actor_of actor)) (script_of scripts actor) p.request (fit actor) (fits_number p.actor p.request fits)))
  by_actor other false is fit =
      let apart : other ≢ actor_number p.actor = λ same. absurd (grind (arith, nat_tests)) in
      subst (λ (xs : List Request). All (Fits (actor_of other)) xs) (sym (get_or-set_other scripts (actor_number p.actor) other more [] apart)) (fit other)

  -- each of them may still come from its actor
  pub pushed_fit : AllFit scripts → AllFit (pushed scripts p)
  pushed_fit fit other = by_actor other (other == actor_number p.actor) refl fit
