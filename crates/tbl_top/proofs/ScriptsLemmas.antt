-- The scripts of records that were read: what each actor has in them is its part of the records.
use Rattle.std.proofs.Common.{◌≡◌, ◌≢◌, ℕ, zero, suc, ◌+◌, ◌<◌, List, [], ◌∷◌, ◌++◌, length, replicate, Bool, true, false, refl, sym, ap, subst, ◌∙◌, append_assoc, arith, get_or-set_same}
use Rattle.std.specs.Prelude.{◌==◌, if◌then◌else◌, All}
use Rattle.std.specs.List.{AllByRecursion}
use Rattle.std.proofs.lemmas.Bool.{eqb-true}
use Rattle.std.proofs.lemmas.Bool.Decides.{nat_tests}
use Rattle.std.proofs.lemmas.List.{append-nil, get_or-set_other}
use Rattle.std.proofs.lemmas.List.Elements.{All-nil, All-push}
use Rattle.tbl_kinds.specs.Records.{Pair, IsRecord, actor_number}
use Rattle.tbl_kinds.specs.Requests.{Fits}
use Rattle.tbl_kinds.specs.declared.request.Actor.{Actor}
use Rattle.tbl_kinds.specs.declared.request.Actor.TheVariants.{Ground, App}
use Rattle.tbl_kinds.specs.declared.request.Request.{Request}
use Rattle.tbl_session.specs.Actors.{actor_count, actor_of, part}
use Rattle.tbl_crew.specs.Scripts.{script_of, pushed, request_count, OfEach, AllFit}
use Rattle.tbl_crew.proofs.PushLemmas.{fit_none, count_none, pushed_actors, pushed_count, pushed_fit}
use Rattle.tbl_top.specs.Collecting.{put_last, scripts_of}

-- no scripts, of so many actors
empty_script : (n i : ℕ) → script_of (replicate n []) i ≡ []
empty_script zero i = refl
empty_script (suc n) zero = refl
empty_script (suc n) (suc i) = empty_script n i

-- an actor that may ask something is the one of its number
number_tells : (actor : Actor) (request : Request) → Fits actor request → actor_of (actor_number actor) ≡ actor
number_tells Ground request fits = refl
number_tells (App zero) request fits = absurd (omega (arith, fits.0))
number_tells (App (suc n)) request fits = refl

-- and one of the 17
number_below : (actor : Actor) (request : Request) → Fits actor request → actor_number actor < actor_count
number_below Ground request fits = omega arith
number_below (App n) request fits = omega (arith, fits.1)

-- ---- one record more

module _ (scripts : List (List Request)) (p : Pair) (actors : length scripts ≡ actor_count) (fits : Fits p.actor p.request) where
  within : actor_number p.actor < length scripts
  within = omega (arith, actors, number_below p.actor p.request fits)

  abbrev own : List Request
  own = script_of scripts (actor_number p.actor) ++ p.request ∷ []

  -- its actor's script has it last
  own_script : script_of (pushed scripts p) (actor_number p.actor) ≡ own
  own_script = get_or-set_same scripts (actor_number p.actor) own [] within

  -- no other one has it
  other_script : (actor : ℕ) → (actor_number p.actor == actor) ≡ false → script_of (pushed scripts p) actor ≡ script_of scripts actor
  other_script actor is =
      let apart : actor ≢ actor_number p.actor = λ same. absurd (grind (arith, nat_tests)) in
      get_or-set_other scripts (actor_number p.actor) actor own [] apart

  -- with the parts of the records after it
  part_behind : (actor : ℕ) (rest : List Request) (b : Bool) → (actor_number p.actor == actor) ≡ b
      → script_of (pushed scripts p) actor ++ rest ≡ script_of scripts actor ++ (if b then p.request ∷ rest else rest)
  part_behind actor rest true is =
      let same : actor_number p.actor ≡ actor = eqb-true (actor_number p.actor) actor is in
      subst (λ (n : ℕ). script_of (pushed scripts p) n ++ rest ≡ script_of scripts n ++ p.request ∷ rest) same
      (ap (λ (xs : List Request). xs ++ rest) own_script ∙ append_assoc (script_of scripts (actor_number p.actor)) (p.request ∷ []) rest)
  part_behind actor rest false is = ap (λ (xs : List Request). xs ++ rest) (other_script actor is)

  -- what holds of it and of each request before, with its actor, holds of each
  each_by_actor : (P : Pair → Type 0) (actor : ℕ) (b : Bool) → (actor_number p.actor == actor) ≡ b → P p → OfEach P scripts
      → All (λ (request : Request). P (record { actor = actor_of actor; request = request })) (script_of (pushed scripts p) actor)
  each_by_actor P actor true is holds each =
      let number = actor_number p.actor in
      let same : number ≡ actor = eqb-true number actor is in
      subst (λ (n : ℕ). All (λ (request : Request). P (record { actor = actor_of n; request = request })) (script_of (pushed scripts p) n)) same
      (subst (λ (xs : List Request). All (λ (request : Request). P (record { actor = actor_of number; request = request })) xs) (sym own_script)
      (All-push (λ (request : Request). P (record { actor = actor_of number; request = request })) (script_of scripts number) p.request (each number)
      (subst (λ (actor : Actor). P (record { actor = actor; request = p.request })) (sym (number_tells p.actor p.request fits)) holds)))
  each_by_actor P actor false is holds each =
      subst (λ (xs : List Request). All (λ (request : Request). P (record { actor = actor_of actor; request = request })) xs) (sym (other_script actor is)) (each actor)

  pushed_each : (P : Pair → Type 0) → P p → OfEach P scripts → OfEach P (pushed scripts p)
  pushed_each P holds each actor = each_by_actor P actor (actor_number p.actor == actor) refl holds each

-- ---- all of them, after any scripts

put_count : (scripts : List (List Request)) (pairs : List Pair) → length scripts ≡ actor_count → AllByRecursion IsRecord pairs → request_count (put_last scripts pairs) ≡ request_count scripts + length pairs
put_count scripts [] actors each = omega arith
put_count scripts (p ∷ pairs) actors each =
    omega (arith, put_count (pushed scripts p) pairs (pushed_actors scripts p actors each.0.fits) each.1, pushed_count scripts p actors each.0.fits)

put_fit : (scripts : List (List Request)) (pairs : List Pair) → length scripts ≡ actor_count → AllByRecursion IsRecord pairs → AllFit scripts → AllFit (put_last scripts pairs)
put_fit scripts [] actors each fit = fit
put_fit scripts (p ∷ pairs) actors each fit =
    put_fit (pushed scripts p) pairs (pushed_actors scripts p actors each.0.fits) each.1 (pushed_fit scripts p actors each.0.fits fit)

put_each : (scripts : List (List Request)) (pairs : List Pair) → length scripts ≡ actor_count → AllByRecursion IsRecord pairs → OfEach IsRecord scripts → OfEach IsRecord (put_last scripts pairs)
put_each scripts [] actors each records = records
put_each scripts (p ∷ pairs) actors each records =
    put_each (pushed scripts p) pairs (pushed_actors scripts p actors each.0.fits) each.1 (pushed_each scripts p actors each.0.fits IsRecord each.0 records)

put_part : (scripts : List (List Request)) (pairs : List Pair) (actor : ℕ) → length scripts ≡ actor_count → AllByRecursion IsRecord pairs → script_of (put_last scripts pairs) actor ≡ script_of scripts actor ++ part actor pairs
put_part scripts [] actor actors each = sym (append-nil (script_of scripts actor))
put_part scripts (p ∷ pairs) actor actors each =
    put_part (pushed scripts p) pairs actor (pushed_actors scripts p actors each.0.fits) each.1
    ∙ part_behind scripts p actors each.0.fits actor (part actor pairs) (actor_number p.actor == actor) refl

-- ---- after none

none_each : OfEach IsRecord (replicate actor_count [])
none_each actor =
    subst (λ (script : List Request). All (λ (request : Request). IsRecord (record { actor = actor_of actor; request = request })) script) (sym (empty_script actor_count actor))
    (All-nil (λ (request : Request). IsRecord (record { actor = actor_of actor; request = request })))

-- each of them may come from its actor
pub scripts_fit : (pairs : List Pair) → AllByRecursion IsRecord pairs → AllFit (scripts_of pairs)
scripts_fit pairs each = put_fit (replicate actor_count []) pairs refl each (fit_none (replicate actor_count []) refl)

-- they are as many as the records
pub scripts_count : (pairs : List Pair) → AllByRecursion IsRecord pairs → request_count (scripts_of pairs) ≡ length pairs
scripts_count pairs each = omega (arith, put_count (replicate actor_count []) pairs refl each, count_none (replicate actor_count []) refl)

-- each of them, with its actor, is a record
pub scripts_each : (pairs : List Pair) → AllByRecursion IsRecord pairs → OfEach IsRecord (scripts_of pairs)
scripts_each pairs each = put_each (replicate actor_count []) pairs refl each none_each

-- each actor has those of its own, in their order
pub scripts_part : (pairs : List Pair) → AllByRecursion IsRecord pairs → (actor : ℕ) → script_of (scripts_of pairs) actor ≡ part actor pairs
scripts_part pairs each actor =
    put_part (replicate actor_count []) pairs actor refl each ∙ ap (λ (xs : List Request). xs ++ part actor pairs) (empty_script actor_count actor)
