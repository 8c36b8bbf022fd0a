-- Validations: the ground asks for them, and the table's owner has them done.
use Rattle.std.specs.Prelude.{ℕ, ◌==◌, List, [], ◌∷◌, ◌++◌, Bool, true, false, ◌||◌, nat_lt, if◌then◌else◌, Option, Some, None, is_some}
use Rattle.std.specs.Option.{option_map_or}
use Rattle.std.proofs.Common.{ℤ, pos}
use Rattle.tbl_model.specs.State.{State, Table, Tables}
use Rattle.tbl_model.specs.Tables.{is_dump_only}
use Rattle.tbl_model.specs.TableSteps.{last_image, load_image, set_checked}
use Rattle.tbl_model.specs.Pending.{is_pending, without_pair}
use Rattle.tbl_model.specs.Telemetry.{Question, finished, is_good, verdict_bits}
use Rattle.tbl_model.specs.Effects.{Effect, answered}
use Rattle.tbl_model.specs.Given.{Given, verdict_at}
use Rattle.tbl_model.specs.Refusals.{by_answer, validation_refusal}
use Rattle.tbl_model.specs.Subjects.{if_table, if_owner}
use Rattle.tbl_kinds.specs.declared.status.TheConstants.Status.{SUCCESS, INFO_NO_VALIDATION_PENDING, ERR_VALIDATION_FAILED, ERR_BAD_SELECT}

-- ---- what a validation is

-- the image that is judged: the last one, or that of the open load
abbrev pub judged_image : Table → Bool → List ℕ
judged_image t active = if active then last_image t else load_image t

-- the table's function is asked about it
abbrev pub questions : Table → List ℕ → List Question
questions t image = option_map_or (λ number. record { number = number; image = image } ∷ []) t.validator []

-- verdict 0 marks the open load as validated, and another one takes the mark away; the last image has no mark
abbrev pub marked : ℕ → Bool → ℤ → Tables → Tables
marked row active verdict tables = if active then tables else set_checked row (is_good verdict) tables

-- it came to its end with this verdict, and isn't pending any more
abbrev pub judged : State → ℕ → Bool → ℤ → State
judged s row active verdict = record s { tables = marked row active verdict s.tables; pending = without_pair row active s.pending }

-- ---- VALIDATE

-- 0 selects the open load's image and 1 the last one. A dump-only table has one image alone
abbrev pub selected : Table → ℕ → Option Bool
selected t select = if nat_lt 1 select then None else Some (is_dump_only t || (select == 1))

-- a table without a function needs none: verdict 0 comes at once
abbrev pub validated_effect : State → Bool → ℕ → Table → Effect
validated_effect s active row t = record (answered s SUCCESS 0) {
  events = finished row active t (judged_image t active) (pos 0) ∷ [];
  images = Some (judged_image t active) ∷ [];
  next = judged s row active (pos 0);
}

-- it is pending, and the owner is told
abbrev pub pending_effect : State → Bool → ℕ → Table → Effect
pending_effect s active row t = record (answered s SUCCESS 0) { notice = t.notice; next = record s { pending = s.pending ++ (row, active) ∷ [] } }

abbrev pub validate_by : State → ℕ → Table → Option Bool → Effect
validate_by s row t None = answered s ERR_BAD_SELECT 0
validate_by s row t (Some active) =
    by_answer s (validation_refusal s.pending row t active) (if is_some t.validator then pending_effect s active row t else validated_effect s active row t)

unfoldable pub validate_effect : State → ℕ → List ℕ → Effect
validate_effect s select name = if_table s name (λ row t. validate_by s row t (selected t select))

-- ---- CFE_TBL_Validate

-- the validation that is done first: that of the last image
abbrev pub first_pending : List (ℕ × Bool) → ℕ → Option Bool
first_pending pending row =
    if is_pending row true pending then Some true
    else (if is_pending row false pending then Some false
    else None)

abbrev pub do_validation : State → Given → ℕ → Table → Option Bool → Effect
do_validation s given row t None = answered s INFO_NO_VALIDATION_PENDING 0
do_validation s given row t (Some active) =
    let image = judged_image t active in
    let verdict = verdict_at 0 given in
    record (answered s (if is_good verdict then SUCCESS else ERR_VALIDATION_FAILED) (verdict_bits verdict)) {
      events = finished row active t image verdict ∷ [];
      images = Some image ∷ [];
      questions = questions t image;
      next = judged s row active verdict;
    }

-- the one that is done first
abbrev pub validation_of : State → Given → ℕ → Table → Effect
validation_of s given row t = do_validation s given row t (first_pending s.pending row)

unfoldable pub app_validate_effect : State → ℕ → ℕ → Given → Effect
app_validate_effect s app handle given = if_owner s app handle (validation_of s given)
