-- What is known of the kit of validation functions after an entry.
use Rattle.std.proofs.Common.{◌≡◌, ◌⊎◌, inl, inr, ◌==◌, ◌≤◌, ◌+◌, ◌*◌, ◌^◌, ℕ, zero, suc, Bool, true, false, cond, List, [], ◌∷◌, length, count_by, Option, Some, None, ℤ, refl, ap, arith}
use Rattle.std.proofs.lemmas.List.Sums.{count_by-le-length}
use Rattle.tbl_model.specs.Telemetry.{Question}
use Rattle.tbl_model.specs.Given.{Given, AnswersEach, nothing_given}
use Rattle.tbl_kinds.specs.declared.note.BankNote.{BankNote}
use Rattle.tbl_outside.specs.declared.validator.KitEntry.{KitEntry}
use Rattle.validation.specs.Kits.{entry_at, unless_of, dropped}
use Rattle.validation.specs.Asked.{is_for, GivesEach, Stays, WasAsked}
use Rattle.validation.proofs.Asking.{asked_nothing}
use Rattle.tbl_core.specs.Service.{AskedBelow}
use Rattle.tbl_core.specs.Verdicts.{Judged}
use Rattle.tbl_outside.specs.declared.validator.Validator.{Ghosts as ValidatorGhosts}

module _ {C : Type 0} (verdict : C → List ℕ → ℤ) where
  -- as many verdicts as questions
  pub answers_each : (kit : List (Option (KitEntry C))) (questions : List Question) (verdicts : List (Option ℤ)) → length verdicts ≡ 2 → GivesEach verdict kit questions verdicts → AnswersEach questions verdicts
  answers_each kit questions [] two gives = absurd (cc two)
  answers_each kit questions (v ∷ []) two gives = absurd (cc two)
  answers_each kit questions (v ∷ w ∷ x ∷ more) two gives = absurd (omega (arith, two))
  answers_each kit [] (None ∷ None ∷ []) two gives = refl
  answers_each kit [] (Some v ∷ w ∷ []) two gives = absurd gives
  answers_each kit [] (None ∷ Some w ∷ []) two gives = absurd gives
  answers_each kit (q ∷ more) (None ∷ w ∷ []) two gives = absurd gives
  answers_each kit (q ∷ []) (Some v ∷ None ∷ []) two gives = (v, refl)
  answers_each kit (q ∷ []) (Some v ∷ Some w ∷ []) two gives = absurd gives.1
  answers_each kit (q ∷ r ∷ more) (Some v ∷ None ∷ []) two gives = absurd gives.1
  answers_each kit (q ∷ r ∷ more) (Some v ∷ Some w ∷ []) two gives = (v, w, refl)

  -- there are no more questions than verdicts
  few_questions : (kit : List (Option (KitEntry C))) (questions : List Question) (verdicts : List (Option ℤ)) → GivesEach verdict kit questions verdicts → length questions ≤ length verdicts
  few_questions kit [] verdicts gives = omega arith
  few_questions kit (q ∷ more) [] gives = absurd gives
  few_questions kit (q ∷ more) (None ∷ verdicts) gives = absurd gives
  few_questions kit (q ∷ more) (Some v ∷ verdicts) gives = let rest = few_questions kit more verdicts gives.1 in omega (arith, rest)

module _ {C : Type 0} (v : ValidatorGhosts C) where
  -- what has a number after an entry was there before it, and counts what it was asked
  pub was_there : (times : ℕ) (old new : Option (KitEntry C)) (entry : KitEntry C) → new ≡ Some entry → (new ≡ None) ⊎ Stays v.verdict v.asked times old new
      → (before : KitEntry C) × (old ≡ Some before) × ((image : List ℕ) → v.verdict entry.check image ≡ v.verdict before.check image) × (v.asked entry.check ≡ v.asked before.check + times)
  was_there times old new entry there (inl gone) = absurd (cc (there, gone))
  was_there times None new entry there (inr stays) = absurd (cc (there, stays))
  was_there times (Some before) new entry there (inr stays) = let is = stays.1 entry there in (before, refl, is.steady, is.counted)

  -- an entry asks each function twice at most
  pub few_more : (old new : List (Option (KitEntry C))) (questions : List Question) (verdicts : List (Option ℤ)) (n : ℕ) → length verdicts ≡ 2 → Judged v old new questions verdicts
      → AskedBelow v.asked (2 ^ 62 + 2 * n) old → AskedBelow v.asked (2 ^ 62 + 2 * suc n) new
  few_more old new questions verdicts n two judged few number entry there =
      let least = count_by-le-length (is_for number) questions in
      let most = few_questions v.verdict old questions verdicts judged.gives in
      let was = was_there (count_by (is_for number) questions) (entry_at old number) (entry_at new number) entry there (judged.each number) in
      let low = few number was.0 was.1 in
      let counted = was.3 in
      omega (arith, counted, low, least, most, two)

  -- a kit that was asked, and kept its functions
  pub was_judged : (old new : List (Option (KitEntry C))) (questions : List Question) (verdicts : List (Option ℤ)) → WasAsked v.verdict v.asked old new questions verdicts → Judged v old new questions verdicts
  was_judged old new questions verdicts was = record { gives = was.gives; each = λ number. inr (was.each number) }

  -- a request that asks nothing leaves the kit as it is
  pub none_judged : (kit : List (Option (KitEntry C))) (questions : List Question) (note : BankNote) (verdicts : List (Option ℤ)) → questions ≡ [] → record { note = note; verdicts = verdicts } ≡ nothing_given
      → Judged v kit kit questions verdicts
  none_judged kit questions note verdicts none given =
      let unsaid : verdicts ≡ None ∷ None ∷ [] = ap (λ (g : Given). g.verdicts) given in
      rw (none, unsaid) (was_judged kit kit [] (None ∷ None ∷ []) (asked_nothing v.verdict v.asked kit))

  -- if an application's are dropped, each that is still there was there before
  kept_there : (app : ℕ) (found : Option (KitEntry C)) → (unless_of app found ≡ None) ⊎ Stays v.verdict v.asked 0 found (unless_of app found)
  kept_there app None = inl refl
  kept_there app (Some entry) = by (entry.app == app)
    where
      by : (gone : Bool) → (cond gone None (Some entry) ≡ None) ⊎ Stays v.verdict v.asked 0 (Some entry) (cond gone None (Some entry))
      by true = inl refl
      by false = inr (cc, λ same is. let one : same ≡ entry = cc is in rw one (record { owner = refl; steady = λ image. refl; counted = omega arith }))

  dropped_there : (app : ℕ) (kit : List (Option (KitEntry C))) (number : ℕ) → (entry_at (dropped app kit) number ≡ None) ⊎ Stays v.verdict v.asked 0 (entry_at kit number) (entry_at (dropped app kit) number)
  dropped_there app [] number = inl refl
  dropped_there app (x ∷ kit) zero = kept_there app x
  dropped_there app (x ∷ kit) (suc number) = dropped_there app kit number

  -- an application that ends asks nothing
  pub end_judged : (app : ℕ) (ends : Bool) (old new : List (Option (KitEntry C))) (questions : List Question) (note : BankNote) (verdicts : List (Option ℤ)) → new ≡ cond ends (dropped app old) old
      → questions ≡ [] → record { note = note; verdicts = verdicts } ≡ nothing_given → Judged v old new questions verdicts
  end_judged app true old new questions note verdicts is none given =
      let unsaid : verdicts ≡ None ∷ None ∷ [] = ap (λ (g : Given). g.verdicts) given in
      rw (is, none, unsaid) (record { gives = tt; each = λ number. dropped_there app old number })
  end_judged app false old new questions note verdicts is none given = rw is (none_judged old questions note verdicts none given)
