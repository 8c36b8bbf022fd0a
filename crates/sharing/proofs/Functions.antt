-- Whose function has a number of the kit.
use Rattle.std.proofs.Common.{◌≡◌, ℕ, ◌==◌, List, [], ◌∷◌, map, Bool, true, false, cond, Option, Some, None, refl, ap}
use Rattle.std.specs.Prelude.{slice_get, unwrap_or, option_and_then}
use Rattle.std.specs.Option.{option_map}
use Rattle.std.proofs.lemmas.Option.{slice_get-map, unwrap_or-slice_get}
use Rattle.tbl_model.specs.TableSteps.{is_that}
use Rattle.tbl_model.specs.Refusals.{may_use}
use Rattle.tbl_model.specs.Sharing.{unless_of}
use Rattle.tbl_outside.specs.declared.validator.KitEntry.{KitEntry}
use Rattle.validation.specs.Kits.{entry_at, is_of, owners, dropped}

owner_of : {C : Type 0} → Option (KitEntry C) → Option ℕ
owner_of entry = option_map (λ (e : KitEntry _). e.app) entry

by : {C : Type 0} (app : ℕ) (found : Option (Option (KitEntry C))) → is_that app (option_and_then (λ found. found) (option_map owner_of found)) ≡ is_of app (unwrap_or found None)
unfolding owner_of
by app None = refl
by app (Some None) = refl
by app (Some (Some entry)) = refl

-- it is the application's if the kit says so
pub may_use_at : {C : Type 0} (kit : List (Option (KitEntry C))) (app number : ℕ) → may_use (owners kit) app (Some number) ≡ is_of app (entry_at kit number)
unfolding owner_of
may_use_at kit app number = rw (slice_get-map owner_of kit number, ← unwrap_or-slice_get kit number None) (by app (slice_get kit number))

-- if those of an application are dropped, nobody's are there
pub owners_dropped : {C : Type 0} (app : ℕ) (kit : List (Option (KitEntry C))) → owners (dropped app kit) ≡ map (unless_of app) (owners kit)
owners_dropped app [] = refl
owners_dropped app (None ∷ kit) = ap (λ (more : List (Option ℕ)). None ∷ more) (owners_dropped app kit)
owners_dropped {C} app (Some entry ∷ kit) = by_test (entry.app == app) (owners_dropped app kit)
  where
    by_test : (b : Bool) → owners (dropped app kit) ≡ map (unless_of app) (owners kit) → option_map (λ (e : KitEntry C). e.app) (cond b None (Some entry)) ∷ owners (dropped app kit) ≡ cond b None (Some entry.app) ∷ map (unless_of app) (owners kit)
    by_test true more = ap (λ (kit : List (Option ℕ)). None ∷ kit) more
    by_test false more = ap (λ (kit : List (Option ℕ)). Some entry.app ∷ kit) more
