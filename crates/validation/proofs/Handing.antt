-- A function that is handed in.
use Rattle.std.proofs.Common.{◌≡◌, ◌<◌, ◌≤◌, ℕ, zero, suc, List, [], ◌∷◌, length, slice_set, Option, Some, None, option_map, refl, ap}
use Rattle.std.proofs.lemmas.List.{get_or-set_same, get_or-set_other, get_or_past}
use Rattle.tbl_outside.specs.declared.validator.KitEntry.{KitEntry}
use Rattle.validation.specs.Kits.{entry_at, owners, with_check, Hands}

module _ {C : Type 0} (check : C) where
  same_owner : (found : Option (KitEntry C)) → option_map (λ (e : KitEntry C). e.app) (option_map (with_check check) found) ≡ option_map (λ (e : KitEntry C). e.app) found
  same_owner None = refl
  same_owner (Some e) = refl

  same_owners : (kit : List (Option (KitEntry C))) (number : ℕ) → owners (slice_set kit number (option_map (with_check check) (entry_at kit number))) ≡ owners kit
  same_owners [] number = refl
  same_owners (x ∷ kit) zero = ap (λ (app : Option ℕ). app ∷ owners kit) (same_owner x)
  same_owners (x ∷ kit) (suc number) = ap (λ (more : List (Option ℕ)). option_map (λ (e : KitEntry C). e.app) x ∷ more) (same_owners kit number)

  pub handed_at : (kit : List (Option (KitEntry C))) (number : ℕ) → number < length kit → Hands number check kit (slice_set kit number (option_map (with_check check) (entry_at kit number)))
  handed_at kit number within = record {
    this = get_or-set_same kit number (option_map (with_check check) (entry_at kit number)) None within;
    others = λ n other. get_or-set_other kit number n (option_map (with_check check) (entry_at kit number)) None other;
    owned = same_owners kit number;
  }

  -- there is none
  pub handed_past : (kit : List (Option (KitEntry C))) (number : ℕ) → length kit ≤ number → Hands number check kit kit
  handed_past kit number past = record { this = rw (get_or_past kit number None past) refl; others = λ n other. refl; owned = refl }
