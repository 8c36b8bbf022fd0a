-- The verdicts in a history are those of the validation functions that the service was given.
use Rattle.std.specs.Prelude.{◌≡◌, ℕ, List, [], ◌∷◌, ◌++◌, Option, Some, None}
use Rattle.std.specs.Option.{option_map_or}
use Rattle.std.proofs.Common.{ℤ, pos}
use Rattle.tbl_model.specs.Telemetry.{Question}
use Rattle.tbl_model.specs.Effects as model
use Rattle.tbl_model.specs.History.{Run, begins_at, onward, run_from, effect_in, told}
use Rattle.tbl_model.specs.State.{State}
use Rattle.tbl_model.specs.Vouched.{KeepsTo}
use Rattle.tbl_outside.specs.declared.validator.KitEntry.{KitEntry}
use Rattle.validation.specs.Kits.{entry_at}
use Rattle.validation.specs.Asked.{GivesEach}
use Rattle.tbl_kinds.specs.declared.entry.Entry.{Entry}

-- what the request of an entry asks
abbrev pub questions_in : Run → Entry → List Question
questions_in r e = option_map_or (λ (effect : model.Effect). effect.questions) (effect_in r e) []

-- ---- over a history

-- the verdicts of the entries, which follow this run, are those that these functions give
abbrev pub AreGiven : {C : Type 0} → (C → List ℕ → ℤ) → List (Option (KitEntry C)) → Run → List Entry → Type 0
AreGiven verdict given r [] = Unit {0}
AreGiven verdict given r (e ∷ es) = GivesEach verdict given (questions_in r e) e.given.verdicts × AreGiven verdict given (onward r e) es

-- a function with the same verdicts was there at first
abbrev pub IsOf : {C : Type 0} → (C → List ℕ → ℤ) → Option (KitEntry C) → Option (KitEntry C) → Type 0
IsOf verdict first None = Unit {0}
IsOf verdict None (Some entry) = ⊥
IsOf verdict (Some first) (Some entry) = (image : List ℕ) → verdict entry.check image ≡ verdict first.check image

abbrev pub AreOf : {C : Type 0} → (C → List ℕ → ℤ) → List (Option (KitEntry C)) → List (Option (KitEntry C)) → Type 0
AreOf verdict given kit = (number : ℕ) → IsOf verdict (entry_at given number) (entry_at kit number)

-- ---- what is reported of them

-- what the function of this number answers about an image; 0 if there is none
abbrev pub verdict_of : {C : Type 0} → (C → List ℕ → ℤ) → List (Option (KitEntry C)) → ℕ → List ℕ → ℤ
verdict_of verdict given number image = option_map_or (λ entry. verdict entry.check image) (entry_at given number) (pos 0)

-- each verdict that an entry reports of a table with a function is the one that this function gives on the very image
abbrev pub KeepsToFunctions : {C : Type 0} → (C → List ℕ → ℤ) → List (Option (KitEntry C)) → State → List Entry → Type 0
KeepsToFunctions verdict given opening entries = (before after : List Entry) (e : Entry) (effect : model.Effect) → entries ≡ before ++ e ∷ after → effect_in (run_from (begins_at opening) before) e ≡ Some effect
    → KeepsTo (verdict_of verdict given) (told (run_from (begins_at opening) before).state e.actor e.request effect)
