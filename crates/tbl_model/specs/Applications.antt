-- Applications start, and what they name is named by them.
use Rattle.std.specs.Prelude.{ℕ, ◌-◌, ◌==◌, List, ◌∷◌, ◌++◌, Bool, not, ◌||◌, if◌then◌else◌, Some, is_some, slice_set}
use Rattle.std.specs.List.{list_any}
use Rattle.tbl_kinds.specs.Names.{is_name}
use Rattle.tbl_model.specs.State.{State}
use Rattle.tbl_model.specs.Effects.{Effect, answered}
use Rattle.tbl_model.specs.Subjects.{name_of}
use Rattle.tbl_kinds.specs.declared.status.TheConstants.Status.{SUCCESS, ERR_INVALID_NAME, ERR_APP_RUNNING}

-- a byte of it is a dot
abbrev pub has_dot : List ℕ → Bool
has_dot name = list_any (λ b. b == 46) name

-- application, dot, short name
abbrev pub full_name : List ℕ → List ℕ → List ℕ
full_name app short = app ++ 46 ∷ short

abbrev pub start_effect : State → ℕ → List ℕ → Effect
start_effect s app name =
    if is_some (name_of s app) then answered s ERR_APP_RUNNING 0
    else (if not (is_name name) || has_dot name then answered s ERR_INVALID_NAME 0
    else record (answered s SUCCESS 0) { next = record s { apps = slice_set s.apps (app - 1) (Some name) } })
