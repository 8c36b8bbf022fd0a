-- How requests are parted: by what plays them, and by whether packets report them.
use Rattle.std.specs.Prelude.{ℕ, Bool, true, false, Option, Some, None}
use Rattle.tbl_kinds.specs.declared.request.Request.{Request}
use Rattle.tbl_kinds.specs.declared.request.Request.TheVariants as ask

-- ---- the ground

abbrev pub is_command : Request → Bool
is_command (ask.Command packet) = true
is_command _ = false

-- an uplinked file, or the time
abbrev pub is_uplink : Request → Bool
is_uplink (ask.File file) = true
is_uplink (ask.Time seconds sub) = true
is_uplink _ = false

-- ---- applications

-- the handle of a call that packets report, and that only the owner of its table may make
abbrev pub told_handle : Request → Option ℕ
told_handle (ask.LoadImage handle image) = Some handle
told_handle (ask.LoadFile handle name) = Some handle
told_handle (ask.Update handle) = Some handle
told_handle (ask.Validate handle) = Some handle
told_handle (ask.Manage handle) = Some handle
told_handle _ = None

-- a call that can make an image of the table active
abbrev pub activates : Request → Bool
activates (ask.LoadImage handle image) = true
activates (ask.LoadFile handle name) = true
activates (ask.Update handle) = true
activates (ask.Manage handle) = true
activates _ = false
