-- The options that can be asked for.
use Rattle.std.proofs.Common.{◌≡◌, ◌≢◌, ◌⊎◌, inl, inr, ℕ, true, false, ◌&&◌, refl, arith}
use Rattle.std.proofs.lemmas.Bool.{cases_eq}
use Rattle.std.proofs.lemmas.Bool.Decides.{nat_tests}
use Rattle.tbl_model.specs.Tables.{has_option}
use Rattle.tbl_model.specs.Refusals.{are_options}

-- dump-only isn't among them with two buffers
pub one_buffer : (options : ℕ) → are_options options ≡ true → (has_option 0x0002 options && has_option 0x0001 options) ≡ false
one_buffer options are = by (cases_eq options 0) (cases_eq options 1) (cases_eq options 2) (cases_eq options 8) (cases_eq options 9)
  where
    by : (options ≡ 0) ⊎ (options ≢ 0) → (options ≡ 1) ⊎ (options ≢ 1) → (options ≡ 2) ⊎ (options ≢ 2) → (options ≡ 8) ⊎ (options ≢ 8) → (options ≡ 9) ⊎ (options ≢ 9) → (has_option 0x0002 options && has_option 0x0001 options) ≡ false
    by (inl is) one two eight nine = rw is refl
    by (inr a) (inl is) two eight nine = rw is refl
    by (inr a) (inr b) (inl is) eight nine = rw is refl
    by (inr a) (inr b) (inr c) (inl is) nine = rw is refl
    by (inr a) (inr b) (inr c) (inr d) (inl is) = rw is refl
    by (inr a) (inr b) (inr c) (inr d) (inr e) = absurd (grind (arith, nat_tests))
