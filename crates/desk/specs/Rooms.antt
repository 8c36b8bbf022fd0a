-- The room for packets that can come after a request is done.
use Rattle.std.specs.Prelude.{ℕ, ◌+◌, Bool, if◌then◌else◌, Option, Some, is_some}
use Rattle.tbl_model.specs.State.{Table}
use Rattle.tbl_model.specs.Tables.{is_critical_in}
use Rattle.tbl_model.specs.Pending.{is_pending}
use Rattle.std.specs.Prelude.{List, true, false}

-- for the event that a copy failed: only images of critical tables are copied into blocks
abbrev pub copy_room : Option Table → ℕ
copy_room t = if is_critical_in t then 24 else 0

-- for an event, if it can come
abbrev pub event_room : Bool → ℕ
event_room can = if can then 24 else 0

-- of a load: for the verdict, if the table has a validation function, for the image that goes active, and for its copy
abbrev pub load_room : Table → ℕ
load_room t = copy_room (Some t) + event_room (is_some t.validator) + 24

-- of an update: for the image that goes active, and for its copy
abbrev pub update_room : Table → ℕ
update_room t = copy_room (Some t) + event_room t.activation

-- of all that is pending for the table in this row: for its validations, and for the update
abbrev pub manage_room : List (ℕ × Bool) → ℕ → Table → ℕ
manage_room pending row t = update_room t + event_room (is_pending row true pending) + event_room (is_pending row false pending)
