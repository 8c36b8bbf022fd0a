-- Whoever is asked stays whose it is.
use Rattle.std.proofs.Common.{◌≡◌, ℕ, suc, List, [], ◌∷◌, length, count_by, Option, Some, None, ℤ, refl, ap, arith}
use Rattle.std.specs.Option.{option_map}
use Rattle.tbl_model.specs.Telemetry.{Question}
use Rattle.tbl_outside.specs.declared.validator.KitEntry.{KitEntry}
use Rattle.validation.specs.Kits.{entry_at, owners}
use Rattle.validation.specs.Asked.{is_for, Stays, WasAsked}

module _ {C : Type 0} (verdict : C → List ℕ → ℤ) (asked : C → ℕ) where
  owner_stays : (times : ℕ) (old new : Option (KitEntry C)) → Stays verdict asked times old new → option_map (λ (e : KitEntry C). e.app) new ≡ option_map (λ (e : KitEntry C). e.app) old
  owner_stays times None new stays = rw stays refl
  owner_stays times (Some old) None stays = absurd (cc stays.0)
  owner_stays times (Some old) (Some new) stays = ap (λ (app : ℕ). Some app) (stays.1 new refl).owner

  owners_stay : (times : ℕ → ℕ) (old new : List (Option (KitEntry C))) → length new ≡ length old → ((number : ℕ) → Stays verdict asked (times number) (entry_at old number) (entry_at new number)) → owners new ≡ owners old
  owners_stay times [] [] same each = refl
  owners_stay times [] (y ∷ new) same each = absurd (cc same)
  owners_stay times (x ∷ old) [] same each = absurd (cc same)
  owners_stay times (x ∷ old) (y ∷ new) same each =
      rw (owner_stays (times 0) x y (each 0), owners_stay (λ n. times (suc n)) old new (omega (arith, same)) (λ n. each (suc n))) refl

  pub same_owners : (old new : List (Option (KitEntry C))) (questions : List Question) (verdicts : List (Option ℤ)) → WasAsked verdict asked old new questions verdicts → owners new ≡ owners old
  same_owners old new questions verdicts was = owners_stay (λ number. count_by (is_for number) questions) old new was.numbers was.each
