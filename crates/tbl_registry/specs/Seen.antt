-- How what the registry keeps is seen.
use Rattle.std.specs.Prelude.{ℕ, ◌+◌, ◌-◌, List, ◌++◌, length, replicate, map, position, Bool, if◌then◌else◌, slice_index_or, Option, Some, None, is_some}
use Rattle.std.specs.Option.{option_map, option_map_or}
use Rattle.tbl_model.specs.State.{Table, Handle, Tables}
use Rattle.tbl_model.specs.Tables.{is_double}
use Rattle.access_desc.specs.Steps.{has, pins_old, with_pin, with_told}
use Rattle.access_desc.specs.declared.handle_view.HandleView.{HandleView}

-- how many images the table of a row has had
abbrev pub count_in : List (Option Table) → Option ℕ → ℕ
count_in rows None = 0
count_in rows (Some row) = option_map_or (λ (t : Table). t.count) (slice_index_or rows row None) 0

-- the number of the image that a handle pins: the last one, or the one before it
abbrev pub pin_of : List (Option Table) → HandleView → Option ℕ
pin_of rows h = if h.pinned then Some (if h.old then count_in rows h.row - 1 else count_in rows h.row) else None

abbrev pub handle_of : List (Option Table) → HandleView → Handle
handle_of rows h = record { app = h.app; row = h.row; told = h.told; pin = pin_of rows h }

abbrev pub tables_of : List (Option Table) → List (Option HandleView) → Tables
tables_of rows handles = record { rows = rows; handles = map (option_map (handle_of rows)) handles }

-- it pins the last of so many images, and knows of all
abbrev pub with_last : ℕ → HandleView → HandleView
with_last count h = with_told count (with_pin h)

-- a handle pins the image before the last
abbrev pub is_kept : ℕ → List (Option HandleView) → Bool
is_kept row handles = is_some (position (has (pins_old row)) handles)

-- the image before the last stays only while it is pinned
abbrev pub drop_before_unless : Bool → Table → Table
drop_before_unless pinned t = record t { before = if pinned then t.before else None }

-- an image becomes the last one, and the one that was stays if it is pinned and there is a buffer for it
abbrev pub with_next : Table → List ℕ → Bool → Table
with_next t image pinned = drop_before_unless pinned (record t { count = t.count + 1; last = Some image; before = if is_double t then t.last else None })

-- the rows that use the four shared buffers, and none for each that is free
abbrev pub padded : List ℕ → List (Option ℕ)
padded rows = map (λ (row : ℕ). Some row) rows ++ replicate (4 - length rows) None
