-- Validations, which the ground asks for and owners have done.
use Rattle.std.specs.Prelude.{ℕ, ◌==◌, List, length, Bool, not, ◌&&◌, if◌then◌else◌, Option, None, is_some}
use Rattle.tbl_kinds.specs.declared.entry.Answer.{Answer}
use Rattle.tbl_kinds.specs.declared.status.TheConstants.Status.{ERR_UPDATE_PENDING, ERR_NEVER_LOADED, ERR_NO_LOAD, ERR_VALIDATION_PENDING, ERR_VALIDATIONS_FULL}
use Rattle.tbl_model.specs.State.{Table}
use Rattle.tbl_model.specs.Pending.{is_pending}
use Rattle.tbl_model.specs.Refusals.{refusal}
use Rattle.tbl_model.specs.Validations.{selected, validate_by, validate_effect, validation_of}
use Rattle.desk.specs.Requests.{Meaning, for_row, command}

-- of the image that is selected of the table of this name
abbrev pub validation : ℕ → List ℕ → Meaning
validation select name = command (λ s. validate_effect s select name) 1

-- of this image of the table in this row, and of the one that is selected
abbrev pub validation_in : ℕ → Option Bool → Meaning
validation_in row active = for_row row (λ s given t. validate_by s row t active) 1 (λ tables. 24)

abbrev pub selected_validation : ℕ → ℕ → Meaning
selected_validation row select = for_row row (λ s given t. validate_by s row t (selected t select)) 1 (λ tables. 24)

-- that its owner has done
abbrev pub app_validation : ℕ → Meaning
app_validation row = for_row row (λ s given t. validation_of s given row t) 1 (λ tables. 0)

-- what is missing for a validation of this image of a table, if something is
abbrev pub missing_refusal : Table → Bool → Option Answer
missing_refusal t active =
    if active && (t.count == 0) then refusal ERR_NEVER_LOADED
    else (if not active && not (is_some t.load) then refusal ERR_NO_LOAD
    else (if not active && t.activation then refusal ERR_UPDATE_PENDING
    else None))

-- why the validation of this image doesn't come after those that are pending
abbrev pub full_refusal : List (ℕ × Bool) → ℕ → Bool → Option Answer
full_refusal pending row active =
    if is_pending row active pending then refusal ERR_VALIDATION_PENDING
    else (if length pending == 10 then refusal ERR_VALIDATIONS_FULL
    else None)
