-- The verdicts that a history has are those that the functions it began with give on the very images.
use Rattle.std.proofs.Common.{◌≡◌, ◌∙◌, ℕ, zero, suc, List, [], ◌∷◌, ◌++◌, Option, Some, None, IsSome, ℤ, pos, refl, subst}
use Rattle.std.specs.Prelude.{slice_get, slice_index_or, unwrap_or}
use Rattle.std.specs.Option.{ForSome, option_and_then, option_map_or}
use Rattle.std.proofs.lemmas.Option.{same_Some}
use Rattle.tbl_model.specs.Telemetry.{Question}
use Rattle.tbl_model.specs.Effects.{Effect}
use Rattle.tbl_model.specs.State.{State, Table}
use Rattle.tbl_model.specs.Tables.{table_at}
use Rattle.tbl_model.specs.History.{Run, begins_at, onward, run_from}
use Rattle.tbl_kinds.specs.declared.entry.Entry.{Entry}
use Rattle.tbl_outside.specs.declared.validator.KitEntry.{KitEntry}
use Rattle.validation.specs.Kits.{entry_at}
use Rattle.validation.specs.Asked.{GivesEach}
use Rattle.tbl_laws.proofs.Cases.{OfEffect}
use Rattle.tbl_laws.proofs.KeptEvents.{IsKept}
use Rattle.tbl_laws.proofs.Kept.{kept}
use Rattle.tbl_session.specs.Verdicts.{questions_in, AreGiven, verdict_of, KeepsToFunctions}

-- the table that has this function
with_function : (found : Option Table) (number : ℕ) → option_and_then (λ (t : Table). t.validator) found ≡ Some number → (t : Table) × (found ≡ Some t) × (t.validator ≡ Some number)
with_function None number is = absurd (cc is)
with_function (Some t) number is = (t, refl, is)

module _ {C : Type 0} (verdict : C → List ℕ → ℤ) (given : List (Option (KitEntry C))) where
  gives_of : (image : List ℕ) (v : ℤ) (found : Option (KitEntry C)) → IsSome found → ForSome found (λ entry. v ≡ verdict entry.check image) → v ≡ option_map_or (λ (entry : KitEntry C). verdict entry.check image) found (pos 0)
  gives_of image v None some gives = absurd (cc some)
  gives_of image v (Some entry) some gives = gives entry refl

  -- the answer to a question is its function's verdict
  answer_of : (questions : List Question) (verdicts : List (Option ℤ)) → GivesEach verdict given questions verdicts → (place : ℕ) (q : Question) → slice_get questions place ≡ Some q → unwrap_or (slice_index_or verdicts place None) (pos 0) ≡ verdict_of verdict given q.number q.image
  answer_of [] verdicts gives zero q at = absurd (cc at)
  answer_of [] verdicts gives (suc place) q at = absurd (cc at)
  answer_of (first ∷ more) [] gives place q at = absurd gives
  answer_of (first ∷ more) (None ∷ verdicts) gives place q at = absurd gives
  answer_of (first ∷ more) (Some v ∷ verdicts) gives zero q at =
      subst (λ (x : Question). v ≡ verdict_of verdict given x.number x.image) (same_Some first q at) (gives_of first.image v (entry_at given first.number) gives.0.0 gives.0.1)
  answer_of (first ∷ more) (Some v ∷ verdicts) gives (suc place) q at = answer_of more verdicts gives.1 place q at

  -- what is given in an entry of the history
  given_at : (r : Run) (before after : List Entry) (e : Entry) → AreGiven verdict given r (before ++ e ∷ after) → GivesEach verdict given (questions_in (run_from r before) e) e.given.verdicts
  given_at r [] after e are = are.0
  given_at r (x ∷ before) after e are = given_at (onward r x) before after e are.1

  pub keeps : (opening : State) (entries : List Entry) → AreGiven verdict given (begins_at opening) entries → KeepsToFunctions verdict given opening entries
  keeps opening entries are before after e effect split found place row number event image v tells is function =
      let r = run_from (begins_at opening) before in
      let gives : GivesEach verdict given effect.questions e.given.verdicts = subst (λ (o : Option Effect). GivesEach verdict given (option_map_or (λ (x : Effect). x.questions) o []) e.given.verdicts) found (given_at (begins_at opening) before after e (subst (AreGiven verdict given (begins_at opening)) split are)) in
      let all : IsKept r.state e.given effect = subst (OfEffect (IsKept r.state e.given)) found (kept r.state e.given e.actor e.request) in
      let t = with_function (table_at r.state.tables row) number function in
      let was = all place row number event image v t.0 (record { event_is = tells.event_is; image_is = tells.image_is }) is t.1 t.2 in
      was.answer ∙ answer_of effect.questions e.given.verdicts gives was.place _ was.question
