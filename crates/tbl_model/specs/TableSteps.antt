-- What is asked of the tables, and how they change: one function for each question and each change.
use Rattle.std.specs.Prelude.{ℕ, ◌+◌, ◌-◌, ◌==◌, List, [], map, replicate, Bool, true, false, not, ◌&&◌, if◌then◌else◌, position, Option, Some, None, is_some, unwrap_or, option_and_then, slice_index_or, slice_set, bit_and, Result, Ok, Err}
use Rattle.std.specs.List.{list_any}
use Rattle.std.specs.Option.{option_map, option_map_or}
use Rattle.std.specs.Str.{bytes_eq}
use Rattle.tbl_kinds.specs.Numbers.{patched}
use Rattle.tbl_model.specs.State.{Load, Table, Handle, Tables, Dump, quiet, requested, filled}
use Rattle.tbl_model.specs.declared.telemetry.Notice.{Notice}
use Rattle.tbl_model.specs.Tables.{table_at, is_double, is_dump_only}
use Rattle.tbl_kinds.specs.declared.status.Status.{Status}
use Rattle.tbl_kinds.specs.declared.status.TheConstants.Status.{ERR_INVALID_HANDLE, ERR_NO_ACCESS, ERR_UNREGISTERED}

-- ---- questions

abbrev pub has_name : List ℕ → Option Table → Bool
has_name name None = false
has_name name (Some t) = bytes_eq t.name name

-- the row of the table of this full name
abbrev pub find : List ℕ → Tables → Option ℕ
find name tables = position (has_name name) tables.rows

abbrev pub handle_at : Tables → ℕ → Option Handle
handle_at tables number = slice_index_or tables.handles number None

-- a handle that leads to a table
pub record Access : Type 0 where
  pub handle : Handle
  pub row : ℕ
  pub table : Table

abbrev pub access_by : Tables → Handle → Option Access
access_by tables h = option_and_then (λ row. option_map (λ t. record { handle = h; row = row; table = t }) (table_at tables row)) h.row

-- none where no such handle is given or its table is gone
abbrev pub access_of : Tables → ℕ → Option Access
access_of tables number = option_and_then (access_by tables) (handle_at tables number)

-- the image that a pin is of: the last one, or the one before it
abbrev pub image_of : Table → ℕ → Option (List ℕ)
image_of t pin = if pin == t.count then t.last else t.before

abbrev pub is_that : ℕ → Option ℕ → Bool
is_that n None = false
is_that n (Some m) = m == n

-- the handle pins the image of this number of the table in this row
abbrev pub pins : ℕ → ℕ → Option Handle → Bool
pins row number None = false
pins row number (Some h) = is_that row h.row && is_that number h.pin

-- the handle is in the way of a new image of the table in this row: it pins an image, of a double-buffered table
-- one that isn't the last
abbrev pub is_in_way : ℕ → Table → Option Handle → Bool
is_in_way row t None = false
is_in_way row t (Some h) = is_that row h.row && is_some h.pin && not (is_double t && is_that t.count h.pin)

-- the least handle in the way; the table is locked where there is one
abbrev pub locker : Tables → ℕ → Table → Option ℕ
locker tables row t = position (is_in_way row t) tables.handles

-- whether the application may use the handle, and its table's row
abbrev pub check_owner : Tables → ℕ → Bool → ℕ → Result ℕ Status
check_owner tables app owner_only row =
    if owner_only && not (is_that app (option_map (λ (t : Table). t.owner) (table_at tables row))) then Err ERR_NO_ACCESS else Ok row

abbrev pub check_row : Tables → ℕ → Bool → Option ℕ → Result ℕ Status
check_row tables app owner_only None = Err ERR_UNREGISTERED
check_row tables app owner_only (Some row) = check_owner tables app owner_only row

abbrev pub check_handle : Tables → ℕ → Bool → Option Handle → Result ℕ Status
check_handle tables app owner_only None = Err ERR_INVALID_HANDLE
check_handle tables app owner_only (Some h) = if not (h.app == app) then Err ERR_NO_ACCESS else check_row tables app owner_only h.row

-- in order: the handle is in use, it is this application's, its table is there, and for the owner alone, the caller owns it
abbrev pub check : Tables → ℕ → ℕ → Bool → Result ℕ Status
check tables app handle owner_only = check_handle tables app owner_only (handle_at tables handle)

-- ---- changes

abbrev pub with_table : ℕ → Table → Tables → Tables
with_table row t tables = record tables { rows = slice_set tables.rows row (Some t) }

abbrev pub with_handle : ℕ → Handle → Tables → Tables
with_handle number h tables = record tables { handles = slice_set tables.handles number (Some h) }

-- a new image becomes the last, and the one that was the last stays as long as a handle pins it
abbrev pub with_image : List (Option Handle) → ℕ → List ℕ → Table → Table
with_image handles row image t = record t {
  count = t.count + 1;
  last = Some image;
  before = if list_any (pins row t.count) handles then t.last else None;
}

abbrev pub put_in : Tables → ℕ → List ℕ → Option Table → Tables
put_in tables row image None = tables
put_in tables row image (Some t) = with_table row (with_image tables.handles row image t) tables

abbrev pub put : ℕ → List ℕ → Tables → Tables
put row image tables = put_in tables row image (table_at tables row)

abbrev pub set_time_in : Tables → ℕ → ℕ → ℕ → Option Table → Tables
set_time_in tables row seconds sub None = tables
set_time_in tables row seconds sub (Some t) = with_table row (record t { seconds = seconds; sub = sub }) tables

-- the time of the last update
abbrev pub set_time : ℕ → ℕ → ℕ → Tables → Tables
set_time row seconds sub tables = set_time_in tables row seconds sub (table_at tables row)

-- the one before the last goes once no handle pins it
abbrev pub drop_before : List (Option Handle) → ℕ → Table → Table
drop_before handles row t = record t { before = if list_any (pins row (t.count - 1)) handles then t.before else None }

-- ---- loads

-- what a load begins with: the image of the open load, else the last image, else zeros
abbrev pub base : Table → List ℕ
base t = option_map_or (λ (load : Load). load.image) t.load (unwrap_or t.last (replicate t.size 0))

-- an image that wasn't validated yet
abbrev pub unchecked : List ℕ → Option Load
unchecked image = Some (record { image = image; checked = false })

abbrev pub changed_in : Tables → ℕ → (Table → Table) → Option Table → Tables
changed_in tables row change None = tables
changed_in tables row change (Some t) = with_table row (change t) tables

abbrev pub changed : ℕ → (Table → Table) → Tables → Tables
changed row change tables = changed_in tables row change (table_at tables row)

-- the load has this image, and is opened where none is open
abbrev pub set_load : ℕ → List ℕ → Tables → Tables
set_load row image tables = changed row (λ t. record t { load = unchecked image }) tables

-- bytes go into the load
abbrev pub patch : ℕ → ℕ → List ℕ → Tables → Tables
patch row offset bytes tables = changed row (λ t. record t { load = unchecked (patched (base t) offset bytes) }) tables

-- the load is marked as validated, or not
abbrev pub set_checked : ℕ → Bool → Tables → Tables
set_checked row checked tables = changed row (λ t. record t { load = option_map (λ (load : Load). record load { checked = checked }) t.load }) tables

-- the file of the last load from a file
abbrev pub set_file : ℕ → List ℕ → Tables → Tables
set_file row file tables = changed row (λ t. record t { file = file }) tables

-- the option CRITICAL is taken away
abbrev pub uncritical : Table → Table
uncritical t = record t { options = bit_and t.options 0xFFF7 }

abbrev pub not_critical : ℕ → Tables → Tables
not_critical row tables = changed row uncritical tables

-- ---- activation

-- the last image
abbrev pub last_image : Table → List ℕ
last_image t = unwrap_or t.last []

-- the image of the open load
abbrev pub load_image : Table → List ℕ
load_image t = option_map_or (λ (load : Load). load.image) t.load []

abbrev pub is_checked : Table → Bool
is_checked t = option_map_or (λ (load : Load). load.checked) t.load false

-- the activation of the load is requested
abbrev pub ask : ℕ → Tables → Tables
ask row tables = changed row (λ t. record t { activation = true }) tables

-- the load is dropped, and its activation isn't requested any more
abbrev pub close_load : ℕ → Tables → Tables
close_load row tables = changed row (λ t. record t { load = None; activation = false }) tables

-- the load's image becomes the last one, and the load is closed
abbrev pub activate : ℕ → Tables → Tables
activate row tables = changed row (λ t. record (with_image tables.handles row (load_image t) t) { load = None; activation = false }) tables

-- ---- dumps

-- the dump is filled with the image, under the name that was requested
abbrev pub filled_with : List ℕ → Dump → Dump
filled_with image quiet = quiet
filled_with image (requested file) = filled file image
filled_with image (filled file earlier) = filled file image

abbrev pub ask_dump : ℕ → List ℕ → Tables → Tables
ask_dump row file tables = changed row (λ t. record t { dump = requested file }) tables

abbrev pub fill_dump : ℕ → Tables → Tables
fill_dump row tables = changed row (λ t. record t { dump = filled_with (last_image t) t.dump }) tables

abbrev pub end_dump : ℕ → Tables → Tables
end_dump row tables = changed row (λ t. record t { dump = quiet }) tables

-- ---- owners

-- the command packet that tells the owner of pending work
abbrev pub set_notice : ℕ → Notice → Tables → Tables
set_notice row notice tables = changed row (λ t. record t { notice = Some notice }) tables

abbrev pub without_handle : ℕ → Tables → Tables
without_handle number tables = record tables { handles = slice_set tables.handles number None }

abbrev pub give_back_by : ℕ → Tables → Option ℕ → Tables
give_back_by number tables None = without_handle number tables
give_back_by number tables (Some row) =
    let freed = without_handle number tables in
    changed row (drop_before freed.handles row) freed

-- the handle is free again, and its pin ends
abbrev pub give_back : ℕ → Tables → Tables
give_back number tables = give_back_by number tables (option_and_then (λ (h : Handle). h.row) (handle_at tables number))

-- a handle of the table in this row leads to none any more, and pins nothing
abbrev pub orphaned : ℕ → Option Handle → Option Handle
orphaned row None = None
orphaned row (Some h) = Some (if is_that row h.row then record h { row = None; pin = None } else h)

-- the table is gone, and its handles lead to none
abbrev pub remove : ℕ → Tables → Tables
remove row tables = record { rows = slice_set tables.rows row None; handles = map (orphaned row) tables.handles }

-- the row of the table that this handle registered
abbrev pub registered_by : Tables → ℕ → Option ℕ
registered_by tables number = option_and_then (λ (a : Access). if a.table.handle == number then Some a.row else None) (access_of tables number)

-- ---- registration

-- a table as its registration makes it
abbrev pub new_table : List ℕ → ℕ → ℕ → ℕ → Option ℕ → ℕ → Table
new_table name owner size options validator handle = record {
  name = name;
  owner = owner;
  handle = handle;
  size = size;
  options = options;
  validator = validator;
  count = 0;
  last = None;
  before = None;
  load = None;
  activation = false;
  dump = quiet;
  notice = None;
  seconds = 0;
  sub = 0;
  file = [];
}

-- it begins with this image, or with none
abbrev pub with_first : Option (List ℕ) → Table → Table
with_first first t = record t { count = if is_some first then 1 else 0; last = first }

-- a dump-only table begins with an image of zeros, another with none
abbrev pub first_image : Table → Option (List ℕ)
first_image t = if is_dump_only t then Some (replicate t.size 0) else None

abbrev pub as_registered : Table → Table
as_registered t = with_first (first_image t) t

-- a handle that was told of no image and pins none
abbrev pub new_handle : ℕ → ℕ → Handle
new_handle app row = record { app = app; row = Some row; told = 0; pin = None }

-- a new table in this row, with the handle of its registration
abbrev pub added : ℕ → Table → Tables → Tables
added row t tables = with_handle t.handle (new_handle t.owner row) (with_table row t tables)
