-- The effect of each request of each actor.
use Rattle.std.specs.Prelude.{ℕ, Option, Some, None}
use Rattle.tbl_model.specs.State.{State}
use Rattle.tbl_model.specs.Effects.{Effect}
use Rattle.tbl_model.specs.Given.{Given}
use Rattle.tbl_model.specs.Boots.{reset_effect}
use Rattle.tbl_model.specs.Commands.{command_effect}
use Rattle.tbl_model.specs.Uplinks.{file_effect, time_effect}
use Rattle.tbl_model.specs.Applications.{start_effect}
use Rattle.tbl_model.specs.Registration.{register_effect}
use Rattle.tbl_model.specs.AppLoads.{load_image_effect, app_file_effect}
use Rattle.tbl_model.specs.Addresses.{get_effect, read_effect, release_effect}
use Rattle.tbl_model.specs.Validations.{app_validate_effect}
use Rattle.tbl_model.specs.Activations.{update_effect}
use Rattle.tbl_model.specs.Management.{manage_effect, get_status_effect}
use Rattle.tbl_model.specs.Sharing.{share_effect, unregister_effect, exit_effect, notify_effect, info_effect}
use Rattle.tbl_model.specs.Dumps.{dump_to_buffer_effect, edit_effect}
use Rattle.tbl_model.specs.AppBlocks.{cds_register_effect, cds_copy_effect, cds_restore_effect, cds_delete_effect}
use Rattle.tbl_kinds.specs.declared.request.Actor.{Actor}
use Rattle.tbl_kinds.specs.declared.request.Actor.TheVariants.{Ground, App}
use Rattle.tbl_kinds.specs.declared.request.Request.{Request}
use Rattle.tbl_kinds.specs.declared.request.Request.TheVariants as ask

-- the ground makes no other
abbrev pub ground_effect : State → Request → Given → Option Effect
ground_effect s (ask.Command bytes) given = Some (command_effect s bytes.list given.note)
ground_effect s (ask.File file) given = Some (file_effect s file.name file.bytes)
ground_effect s (ask.Time seconds sub) given = Some (time_effect s seconds sub)
ground_effect s (ask.Reset kind) given = Some (reset_effect s kind given.note)
ground_effect s _ given = None

-- nor does an application
abbrev pub app_effect : State → ℕ → Request → Given → Option Effect
app_effect s app (ask.Start name) given = Some (start_effect s app name)
app_effect s app (ask.Register name size flags validator) given = Some (register_effect s app name size flags validator given.note)
app_effect s app (ask.Share name) given = Some (share_effect s app name)
app_effect s app (ask.Unregister handle) given = Some (unregister_effect s app handle)
app_effect s app (ask.LoadImage handle image) given = Some (load_image_effect s app handle image.list given)
app_effect s app (ask.LoadFile handle name) given = Some (app_file_effect s app handle name given)
app_effect s app (ask.Update handle) given = Some (update_effect s app handle given.note)
app_effect s app (ask.Validate handle) given = Some (app_validate_effect s app handle given)
app_effect s app (ask.Manage handle) given = Some (manage_effect s app handle given)
app_effect s app (ask.DumpToBuffer handle) given = Some (dump_to_buffer_effect s app handle)
app_effect s app (ask.Edit handle offset bytes) given = Some (edit_effect s app handle offset bytes.list)
app_effect s app (ask.Get handle) given = Some (get_effect s app handle)
app_effect s app (ask.Read handle offset len) given = Some (read_effect s app handle offset len)
app_effect s app (ask.Release handle) given = Some (release_effect s app handle)
app_effect s app (ask.GetStatus handle) given = Some (get_status_effect s app handle)
app_effect s app (ask.GetInfo name) given = Some (info_effect s app name)
app_effect s app (ask.Notify handle msg code parameter) given = Some (notify_effect s app handle msg code parameter)
app_effect s app ask.Exit given = Some (exit_effect s app)
app_effect s app (ask.CdsRegister name size) given = Some (cds_register_effect s app name size given.note)
app_effect s app (ask.CdsCopy slot image) given = Some (cds_copy_effect s app slot image.list given.note)
app_effect s app (ask.CdsRestore slot) given = Some (cds_restore_effect s app slot given.note)
app_effect s app (ask.CdsDelete slot) given = Some (cds_delete_effect s app slot given.note)
app_effect s app _ given = None

abbrev pub effect_of : State → Actor → Request → Given → Option Effect
effect_of s Ground request given = ground_effect s request given
effect_of s (App number) request given = app_effect s number request given
