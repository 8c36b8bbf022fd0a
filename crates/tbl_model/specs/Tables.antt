-- What can be read off the tables.
use Rattle.std.specs.Prelude.{ℕ, ◌+◌, ◌-◌, ◌==◌, List, [], ◌∷◌, length, Bool, true, false, not, ◌&&◌, ◌||◌, if◌then◌else◌, count_by, Option, Some, None, is_some, slice_index_or, bit_and}
use Rattle.tbl_model.specs.State.{Table, Tables, Dump, quiet}
use Rattle.tbl_kinds.specs.declared.options.Options.{Options}

-- ---- options

-- the bits of a set of options
abbrev pub option_bits : Options → ℕ
option_bits options = options.0

abbrev pub has_option : ℕ → ℕ → Bool
has_option bit options = bit_and options bit == bit

abbrev pub is_double : Table → Bool
is_double t = has_option 0x0001 t.options

abbrev pub is_dump_only : Table → Bool
is_dump_only t = has_option 0x0002 t.options

abbrev pub is_critical : Table → Bool
is_critical t = has_option 0x0008 t.options

-- ---- rows

abbrev pub table_at : Tables → ℕ → Option Table
table_at tables row = slice_index_or tables.rows row None

-- how many tables are registered
abbrev pub table_count : Tables → ℕ
table_count tables = count_by is_some tables.rows

-- how many handles are given
abbrev pub handle_count : Tables → ℕ
handle_count tables = count_by is_some tables.handles

abbrev pub is_critical_in : Option Table → Bool
is_critical_in None = false
is_critical_in (Some t) = is_critical t

-- how many tables are critical
abbrev pub critical_count : Tables → ℕ
critical_count tables = count_by is_critical_in tables.rows

abbrev pub has_load : Option Table → Bool
has_load None = false
has_load (Some t) = is_some t.load

-- how many loads are open
abbrev pub load_count : Tables → ℕ
load_count tables = count_by has_load tables.rows

-- ---- the shared working buffers

abbrev pub is_quiet : Dump → Bool
is_quiet quiet = true
is_quiet _ = false

-- an open load of a single-buffered table and a pending dump, which dump-only tables alone have, use one each
abbrev pub uses_buffer : Option Table → Bool
uses_buffer None = false
uses_buffer (Some t) = not (is_double t) && is_some t.load || not (is_quiet t.dump)

-- the rows that pass a test, ascending, of those from this one on
abbrev pub rows_where : (Option Table → Bool) → ℕ → List (Option Table) → List ℕ
rows_where test row [] = []
rows_where test row (t ∷ ts) = (if test t then row ∷ rows_where test (row + 1) ts else rows_where test (row + 1) ts)

abbrev pub rows_from : ℕ → List (Option Table) → List ℕ
rows_from row rows = rows_where uses_buffer row rows

-- the rows that use them, ascending
abbrev pub in_use : Tables → List ℕ
in_use tables = rows_from 0 tables.rows

abbrev pub free_buffers : Tables → ℕ
free_buffers tables = 4 - length (in_use tables)
