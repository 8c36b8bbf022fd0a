-- Tables are shared, given back and taken away, and told of; applications end.
use Rattle.std.specs.Prelude.{ℕ, ◌-◌, ◌==◌, List, length, map, Bool, false, not, ◌&&◌, nat_le, if◌then◌else◌, Option, Some, None, slice_set}
use Rattle.std.specs.List.{fold, range_with_len}
use Rattle.tbl_kinds.specs.Free.{least_free}
use Rattle.tbl_kinds.specs.Telemetry.{registry_record}
use Rattle.tbl_model.specs.State.{State, Handle}
use Rattle.tbl_model.specs.Tables.{table_at}
use Rattle.tbl_model.specs.TableSteps.{find, handle_at, is_that, with_handle, give_back, without_handle, remove, registered_by, set_notice, new_handle}
use Rattle.tbl_model.specs.Pending.{of_other_rows}
use Rattle.tbl_model.specs.Registry.{registry_row}
use Rattle.tbl_model.specs.Effects.{Effect, answered}
use Rattle.tbl_model.specs.Subjects.{if_running, if_table, if_owner, by_table}
use Rattle.tbl_model.specs.declared.telemetry.Shown.TheVariants.{Registry}
use Rattle.tbl_kinds.specs.declared.status.TheConstants.Status.{SUCCESS, ERR_INVALID_HANDLE, ERR_NO_ACCESS, ERR_INVALID_NAME, ERR_HANDLES_FULL, ERR_NOTICE_ID}

-- ---- further handles

abbrev pub share_by : State → ℕ → ℕ → Option ℕ → Effect
share_by s app row None = answered s ERR_HANDLES_FULL 0
share_by s app row (Some handle) = record (answered s SUCCESS handle) { next = record s { tables = with_handle handle (new_handle app row) s.tables } }

-- a further handle on the table in this row, which was told of no image
abbrev pub share_found : State → ℕ → Option ℕ → Effect
share_found s app None = answered s ERR_INVALID_NAME 0
share_found s app (Some row) = share_by s app row (least_free s.tables.handles)

unfoldable pub share_effect : State → ℕ → List ℕ → Effect
share_effect s app name = if_running s app (λ app_name. share_found s app (find name s.tables))

-- ---- handles and tables are given up

abbrev pub give_up_by : ℕ → State → Option ℕ → State
give_up_by number s None = record s { tables = give_back number s.tables }
give_up_by number s (Some row) = record s { tables = without_handle number (remove row s.tables); pending = of_other_rows row s.pending }

-- the handle is given up. That of a table's registration takes the table with it, and all that is pending for it
abbrev pub give_up : ℕ → State → State
give_up number s = give_up_by number s (registered_by s.tables number)

abbrev pub unregister_by : State → ℕ → ℕ → Option Handle → Effect
unregister_by s app number None = answered s ERR_INVALID_HANDLE 0
unregister_by s app number (Some h) = if not (h.app == app) then answered s ERR_NO_ACCESS 0 else record (answered s SUCCESS 0) { next = give_up number s }

unfoldable pub unregister_effect : State → ℕ → ℕ → Effect
unregister_effect s app number = if_running s app (λ app_name. unregister_by s app number (handle_at s.tables number))

-- ---- applications end

abbrev pub is_handle_of : ℕ → Option Handle → Bool
is_handle_of app None = false
is_handle_of app (Some h) = h.app == app

abbrev pub give_up_if : ℕ → State → ℕ → State
give_up_if app s number = if is_handle_of app (handle_at s.tables number) then give_up number s else s

-- its handles are given up, one after another, and so its tables
unfoldable pub without_handles_of : ℕ → State → State
without_handles_of app s = fold (give_up_if app) s (range_with_len 0 (length s.tables.handles))

-- its name and its validation functions go too
abbrev pub unless_of : ℕ → Option ℕ → Option ℕ
unless_of app owner = if is_that app owner then None else owner

abbrev pub ended_app : ℕ → State → State
ended_app app s = record s { apps = slice_set s.apps (app - 1) None; kit = map (unless_of app) s.kit }

unfoldable pub exit_effect : State → ℕ → Effect
exit_effect s app = if_running s app (λ app_name. record (answered s SUCCESS 0) { next = ended_app app (without_handles_of app s) })

-- ---- what owners are told, and what is told of tables

-- a message id of commands, and a function code of seven bits
abbrev pub is_notice : ℕ → ℕ → Bool
is_notice msg code = nat_le 0x1800 msg && nat_le msg 0x1FFF && nat_le code 127

-- the owner of the table in this row is told of pending work from now on
abbrev pub noticed_effect : State → ℕ → ℕ → ℕ → ℕ → Effect
noticed_effect s row msg code parameter =
    if not (is_notice msg code) then answered s ERR_NOTICE_ID 0
    else record (answered s SUCCESS 0) { next = record s { tables = set_notice row (record { msg = msg; code = code; parameter = parameter }) s.tables } }

unfoldable pub notify_effect : State → ℕ → ℕ → ℕ → ℕ → ℕ → Effect
notify_effect s app handle msg code parameter = if_owner s app handle (λ row t. noticed_effect s row msg code parameter)

abbrev pub info_of : State → Option ℕ → Effect
info_of s None = answered s ERR_INVALID_NAME 0
info_of s (Some row) = by_table s ERR_INVALID_NAME (table_at s.tables row) (λ t. record (answered s SUCCESS 0) { bytes = registry_record (registry_row t) })

-- its record in the registry
unfoldable pub info_effect : State → ℕ → List ℕ → Effect
info_effect s app name = if_running s app (λ app_name. info_of s (find name s.tables))

-- its registry packet
unfoldable pub send_registry_effect : State → List ℕ → Effect
send_registry_effect s name = if_table s name (λ row t. record (answered s SUCCESS 0) { shown = Registry row })
