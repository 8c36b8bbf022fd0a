-- Dumps: images of tables, and the registry, as files.
use Rattle.std.specs.Prelude.{ℕ, ◌+◌, ◌*◌, ◌==◌, List, [], ◌∷◌, ◌++◌, length, map, Bool, true, false, not, ◌&&◌, ◌||◌, nat_lt, if◌then◌else◌, Option, Some, None, is_some, codes}
use Rattle.std.specs.List.{fold, flat_map}
use Rattle.std.specs.Option.{option_map_or}
use Rattle.tbl_kinds.specs.Names.{name_field}
use Rattle.tbl_kinds.specs.Numbers.{patched}
use Rattle.tbl_kinds.specs.Headers.{Header, header_len, description_len, file_header}
use Rattle.tbl_kinds.specs.TableFiles.{table_subtype, table_file}
use Rattle.tbl_kinds.specs.Telemetry.{registry_record}
use Rattle.tbl_kinds.specs.Drawer.{with_file, is_full_for}
use Rattle.tbl_model.specs.State.{State, Table, Tables, Dump, filled}
use Rattle.tbl_model.specs.Tables.{table_at, is_dump_only, is_quiet, rows_where}
use Rattle.tbl_model.specs.TableSteps.{base, locker, last_image, load_image, put, ask_dump, fill_dump, end_dump}
use Rattle.tbl_model.specs.Registry.{registry_row}
use Rattle.tbl_model.specs.Effects.{Effect, answered}
use Rattle.tbl_model.specs.Refusals.{refusal, by_answer, by_refusal, lock_refusal, buffer_refusal}
use Rattle.tbl_model.specs.Subjects.{if_table, if_owner}
use Rattle.tbl_model.specs.Validations.{selected}
use Rattle.tbl_model.specs.Management.{is_requested}
use Rattle.tbl_model.specs.declared.telemetry.TelemetryEvent.{TelemetryEvent}
use Rattle.tbl_model.specs.declared.telemetry.TelemetryEvent.TheVariants.{Dumped, NotDumped}
use Rattle.tbl_model.specs.declared.telemetry.Shown.TheVariants.{Housekeeping}
use Rattle.tbl_kinds.specs.declared.entry.Answer.{Answer}
use Rattle.tbl_kinds.specs.declared.status.TheConstants.Status.{SUCCESS, INFO_NO_DUMP_PENDING, ERR_NEVER_LOADED, ERR_OUT_OF_RANGE, ERR_NOT_DUMP_ONLY, ERR_NO_LOAD, ERR_DUMP_PENDING, ERR_DRAWER_FULL, ERR_BAD_SELECT}

-- ---- the files

-- the header of a file that the service writes: spacecraft 66, processor 1, application 0, at the service's time, whose
-- subseconds fill the upper half of their field
abbrev pub written_header : ℕ → List ℕ → State → Header
written_header subtype text s = record {
  subtype = subtype;
  length = header_len;
  spacecraft = 66;
  processor = 1;
  application = 0;
  seconds = s.seconds;
  sub = s.sub * 65536;
  description = name_field description_len text;
}

-- a table file of a whole image
unfoldable pub dump_file : State → List ℕ → List ℕ → List ℕ
dump_file s name image = table_file (written_header table_subtype (codes "Table image") s) (record { offset = 0; name = name; image = image })

abbrev pub registry_subtype : ℕ
registry_subtype = 9

abbrev pub record_of : Option Table → List ℕ
record_of None = []
record_of (Some t) = registry_record (registry_row t)

-- the registry record of each table, in order of rows
unfoldable pub registry_file : State → List ℕ
registry_file s = file_header (written_header registry_subtype (codes "Table registry") s) ++ flat_map record_of s.tables.rows

-- ---- DUMP and DUMP_REGISTRY

-- the file is in the drawer, and its bytes are the reply
abbrev pub written_effect : State → Option ℕ → List ℕ → List ℕ → Effect
written_effect s row file bytes =
    if is_full_for s.drawer file then answered s ERR_DRAWER_FULL 0
    else record (answered s SUCCESS 0) {
      bytes = bytes;
      events = Dumped row file (length bytes) ∷ [];
      images = None ∷ [];
      next = record s { drawer = with_file s.drawer file bytes };
    }

-- why the dump of a dump-only table isn't requested
abbrev pub dump_refusal : Tables → Table → Option Answer
dump_refusal tables t = if not (is_quiet t.dump) then refusal ERR_DUMP_PENDING else buffer_refusal tables t

-- the owner fills the dump of a dump-only table, and is told
abbrev pub ask_dump_effect : State → List ℕ → ℕ → Table → Effect
ask_dump_effect s file row t = by_refusal s (dump_refusal s.tables t) (record (answered s SUCCESS 0) { notice = t.notice; next = record s { tables = ask_dump row file s.tables } })

-- the last image, or that of the open load
abbrev pub image_dump_effect : State → List ℕ → ℕ → Table → Bool → Effect
image_dump_effect s file row t true = if t.count == 0 then answered s ERR_NEVER_LOADED 0 else written_effect s (Some row) file (dump_file s t.name (last_image t))
image_dump_effect s file row t false = if not (is_some t.load) then answered s ERR_NO_LOAD 0 else written_effect s (Some row) file (dump_file s t.name (load_image t))

abbrev pub dump_by : State → List ℕ → ℕ → Table → Option Bool → Effect
dump_by s file row t None = answered s ERR_BAD_SELECT 0
dump_by s file row t (Some active) = if is_dump_only t then ask_dump_effect s file row t else image_dump_effect s file row t active

unfoldable pub dump_effect : State → ℕ → List ℕ → List ℕ → Effect
dump_effect s select name file = if_table s name (λ row t. dump_by s file row t (selected t select))

unfoldable pub dump_registry_effect : State → List ℕ → Effect
dump_registry_effect s file = written_effect s None file (registry_file s)

-- ---- the owner's part

-- the requested dump of the table in this row is filled
abbrev pub filled_effect : State → ℕ → Table → Effect
filled_effect s row t =
    if not (is_requested t.dump) then answered s INFO_NO_DUMP_PENDING 0
    else record (answered s SUCCESS 0) { next = record s { tables = fill_dump row s.tables } }

unfoldable pub dump_to_buffer_effect : State → ℕ → ℕ → Effect
dump_to_buffer_effect s app handle = if_owner s app handle (filled_effect s)

-- why so many bytes from this offset on aren't written over the image of a dump-only table
abbrev pub edit_refusal : Tables → ℕ → Table → ℕ → ℕ → Option Answer
edit_refusal tables row t offset len =
    if not (is_dump_only t) then refusal ERR_NOT_DUMP_ONLY
    else (if len == 0 || nat_lt t.size (offset + len) then refusal ERR_OUT_OF_RANGE
    else lock_refusal (locker tables row t))

-- a new image of the table in this row, with these bytes in place, of which nothing is told
abbrev pub edited_effect : State → ℕ → Table → ℕ → List ℕ → Effect
edited_effect s row t offset bytes =
    by_answer s (edit_refusal s.tables row t offset (length bytes))
    (record (answered s SUCCESS 0) { next = record s { tables = put row (patched (base t) offset bytes) s.tables } })

unfoldable pub edit_effect : State → ℕ → ℕ → ℕ → List ℕ → Effect
edit_effect s app handle offset bytes = if_owner s app handle (λ row t. edited_effect s row t offset bytes)

-- ---- housekeeping

-- filled dumps that came to their end so far: the state that they left, the files that were written, and what is told
pub record Ended : Type 0 where
  pub state : State
  pub bytes : List ℕ
  pub events : List TelemetryEvent

-- its file is written, unless the drawer is full; the dump is over in both cases
abbrev pub end_by : Ended → ℕ → List ℕ → Dump → Ended
end_by e row name (filled file image) =
    let over = record e.state { tables = end_dump row e.state.tables } in
    let bytes = dump_file e.state name image in
    if is_full_for e.state.drawer file then record e { state = over; events = e.events ++ NotDumped row ∷ [] }
    else record {
      state = record over { drawer = with_file e.state.drawer file bytes };
      bytes = e.bytes ++ bytes;
      events = e.events ++ Dumped (Some row) file (length bytes) ∷ [];
    }
end_by e row name _ = e

abbrev pub then_end : Ended → ℕ → Ended
then_end e row = option_map_or (λ (t : Table). end_by e row t.name t.dump) (table_at e.state.tables row) e

abbrev pub is_filled : Option Table → Bool
is_filled None = false
is_filled (Some t) = not (is_quiet t.dump) && not (is_requested t.dump)

-- each filled dump, in order of rows
unfoldable pub dumps_ended : State → Ended
dumps_ended s = fold then_end (record { state = s; bytes = []; events = [] }) (rows_where is_filled 0 s.tables.rows)

-- the packet tells the state after
unfoldable pub housekeeping_effect : State → Effect
housekeeping_effect s =
    let e = dumps_ended s in
    record (answered s SUCCESS 0) {
      bytes = e.bytes;
      events = e.events;
      images = map (λ (event : TelemetryEvent). None) e.events;
      shown = Housekeeping;
      next = e.state;
    }
