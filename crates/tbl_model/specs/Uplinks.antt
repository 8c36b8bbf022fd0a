-- What the ground sends besides commands: files, and the time.
use Rattle.std.specs.Prelude.{ℕ, List, length, not, nat_lt, if◌then◌else◌}
use Rattle.tbl_kinds.specs.Names.{is_name}
use Rattle.tbl_kinds.specs.Limits.{file_limit}
use Rattle.tbl_model.specs.State.{State}
use Rattle.tbl_kinds.specs.Drawer.{with_file, is_full_for}
use Rattle.tbl_model.specs.Effects.{Effect, answered}
use Rattle.tbl_kinds.specs.declared.status.TheConstants.Status.{SUCCESS, ERR_BAD_NAME, ERR_FILE_TOO_LARGE, ERR_DRAWER_FULL}

-- the file is in the drawer, under its name
abbrev pub file_effect : State → List ℕ → List ℕ → Effect
file_effect s name contents =
    if not (is_name name) then answered s ERR_BAD_NAME 0
    else (if nat_lt file_limit (length contents) then answered s ERR_FILE_TOO_LARGE 0
    else (if is_full_for s.drawer name then answered s ERR_DRAWER_FULL 0
    else record (answered s SUCCESS 0) { next = record s { drawer = with_file s.drawer name contents } }))

-- the service's time, from this entry's successors on
abbrev pub time_effect : State → ℕ → ℕ → Effect
time_effect s seconds sub = record (answered s SUCCESS 0) { next = record s { seconds = seconds; sub = sub } }
