-- What validation functions were asked in a request, and what they answered.
use Rattle.std.specs.Prelude.{◌≡◌, ◌⊎◌, ℕ, List, count_by, Option, None}
use Rattle.std.proofs.Common.{ℤ}
use Rattle.tbl_model.specs.Telemetry.{Question}
use Rattle.tbl_outside.specs.declared.validator.KitEntry.{KitEntry}
use Rattle.tbl_outside.specs.declared.validator.Validator.{Ghosts as ValidatorGhosts}
use Rattle.validation.specs.Kits.{entry_at}
use Rattle.validation.specs.Asked.{is_for, GivesEach, Stays}

-- the functions were asked these questions and gave these verdicts: each of them is still there and counts those that were for it, unless
-- it was dropped since, as those of an application that ended are
pub record Judged {C : Type 0} (v : ValidatorGhosts C) (old new : List (Option (KitEntry C))) (questions : List Question) (verdicts : List (Option ℤ)) : Type 0 where
  pub gives : GivesEach v.verdict old questions verdicts
  pub each : (number : ℕ) → (entry_at new number ≡ None) ⊎ Stays v.verdict v.asked (count_by (is_for number) questions) (entry_at old number) (entry_at new number)
