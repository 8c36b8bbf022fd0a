-- A kit of validation functions: which application's has each number.
use Rattle.std.specs.Prelude.{◌≡◌, ◌≢◌, ℕ, ◌+◌, ◌≤◌, ◌^◌, ◌==◌, List, map, Bool, false, if◌then◌else◌, slice_index_or, Option, None, IsSome}
use Rattle.std.proofs.Common.{ℤ}
use Rattle.std.specs.Option.{option_map, option_map_or, ForSome}
use Rattle.tbl_outside.specs.declared.validator.KitEntry.{KitEntry}

-- what has a number: none if there is no such number, or if its application's functions were dropped
abbrev pub entry_at : {C : Type 0} → List (Option (KitEntry C)) → ℕ → Option (KitEntry C)
entry_at kit number = slice_index_or kit number None

-- it is a function of this application
abbrev pub is_of : {C : Type 0} → ℕ → Option (KitEntry C) → Bool
is_of app entry = option_map_or (λ e. e.app == app) entry false

-- whose function has each number
abbrev pub owners : {C : Type 0} → List (Option (KitEntry C)) → List (Option ℕ)
owners kit = map (option_map (λ e. e.app)) kit

abbrev pub unless_of : {C : Type 0} → ℕ → Option (KitEntry C) → Option (KitEntry C)
unless_of app entry = if is_of app entry then None else entry

-- the functions of an application are dropped
abbrev pub dropped : {C : Type 0} → ℕ → List (Option (KitEntry C)) → List (Option (KitEntry C))
dropped app kit = map (unless_of app) kit

abbrev pub with_check : {C : Type 0} → C → KitEntry C → KitEntry C
with_check check e = record e { check = check }

-- another function has this number, if there was one, and all else is as it was
pub record Hands {C : Type 0} (number : ℕ) (check : C) (old new : List (Option (KitEntry C))) : Type 0 where
  pub this : entry_at new number ≡ option_map (with_check check) (entry_at old number)
  pub others : (n : ℕ) → n ≢ number → entry_at new n ≡ entry_at old n
  pub owned : owners new ≡ owners old

-- the same function of the same application, asked so many times more
pub record AskedMore {C : Type 0} (verdict : C → List ℕ → ℤ) (asked : C → ℕ) (times : ℕ) (old new : KitEntry C) : Type 0 where
  pub owner : new.app ≡ old.app
  pub steady : (image : List ℕ) → verdict new.check image ≡ verdict old.check image
  pub counted : asked new.check ≡ asked old.check + times

-- the function of this number is in the kit, and can be asked so many times
abbrev pub MayAsk : {C : Type 0} → (C → ℕ) → ℕ → List (Option (KitEntry C)) → ℕ → Type 0
MayAsk asked times kit number = IsSome (entry_at kit number) × ForSome (entry_at kit number) (λ entry. asked entry.check + times ≤ 2 ^ 63)

-- each function of the kit can be asked so many times
abbrev pub MayAskEach : {C : Type 0} → (C → ℕ) → ℕ → List (Option (KitEntry C)) → Type 0
MayAskEach asked times kit = (number : ℕ) → ForSome (entry_at kit number) (λ entry. asked entry.check + times ≤ 2 ^ 63)
