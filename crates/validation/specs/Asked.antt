-- What a kit does when it is asked: it gives the verdicts of its functions, and each of them counts.
use Rattle.std.specs.Prelude.{◌≡◌, ℕ, ◌==◌, List, [], ◌∷◌, length, Bool, count_by, Option, Some, None, IsSome}
use Rattle.std.specs.Option.{option_map_or, ForSome}
use Rattle.std.proofs.Common.{ℤ}
use Rattle.tbl_model.specs.Telemetry.{Question}
use Rattle.tbl_outside.specs.declared.validator.KitEntry.{KitEntry}
use Rattle.validation.specs.Kits.{entry_at, AskedMore}

-- the question is for the function of this number
abbrev pub is_for : ℕ → Question → Bool
is_for number q = q.number == number

-- the function that is asked is in the kit, and gives this verdict on the image
abbrev pub Gives : {C : Type 0} → (C → List ℕ → ℤ) → List (Option (KitEntry C)) → Question → ℤ → Type 0
Gives verdict kit q v = IsSome (entry_at kit q.number) × ForSome (entry_at kit q.number) (λ entry. v ≡ verdict entry.check q.image)

-- and so for each question, in order; after them there is no verdict
abbrev pub GivesEach : {C : Type 0} → (C → List ℕ → ℤ) → List (Option (KitEntry C)) → List Question → List (Option ℤ) → Type 0
GivesEach verdict kit [] [] = Unit {0}
GivesEach verdict kit [] (None ∷ verdicts) = GivesEach verdict kit [] verdicts
GivesEach verdict kit [] (Some v ∷ verdicts) = ⊥
GivesEach verdict kit (q ∷ more) [] = ⊥
GivesEach verdict kit (q ∷ more) (None ∷ verdicts) = ⊥
GivesEach verdict kit (q ∷ more) (Some v ∷ verdicts) = Gives verdict kit q v × GivesEach verdict kit more verdicts

-- what has a number has it still, asked so many times more; if there is none, none comes
abbrev pub Stays : {C : Type 0} → (C → List ℕ → ℤ) → (C → ℕ) → ℕ → Option (KitEntry C) → Option (KitEntry C) → Type 0
Stays verdict asked times None new = new ≡ None
Stays verdict asked times (Some old) new = IsSome new × ForSome new (AskedMore verdict asked times old)

-- it was asked these questions, and gave these verdicts
pub record WasAsked {C : Type 0} (verdict : C → List ℕ → ℤ) (asked : C → ℕ) (old new : List (Option (KitEntry C))) (questions : List Question) (verdicts : List (Option ℤ)) : Type 0 where
  pub gives : GivesEach verdict old questions verdicts
  pub each : (number : ℕ) → Stays verdict asked (count_by (is_for number) questions) (entry_at old number) (entry_at new number)
  pub numbers : length new ≡ length old

-- the function of this number, if there is one, is asked about the image
abbrev pub asks : Option ℕ → List ℕ → List Question
asks number image = option_map_or (λ n. record { number = n; image = image } ∷ []) number []
