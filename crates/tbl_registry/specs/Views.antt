-- What can be seen of a table.
use Rattle.std.specs.Prelude.{◌==◌, ℕ, List, Bool, true, false, not, is_some, Option, Some, None}
use Rattle.std.specs.Option.{option_map_or}
use Rattle.tbl_model.specs.State.{Load, Table, Dump, quiet, requested, filled}
use Rattle.tbl_registry.specs.declared.row.RowView.{RowView}
use Rattle.tbl_registry.specs.declared.row.Dump.{Dump as View}
use Rattle.tbl_registry.specs.declared.row.Dump.TheVariants.{Quiet, Asked, Filled}

-- how far a dump has come
abbrev pub dump_view : Dump → View
dump_view quiet = Quiet
dump_view (requested file) = Asked
dump_view (filled file image) = Filled

-- the name of its file, and the image that it was filled with
abbrev pub dump_name : Dump → Option (List ℕ)
dump_name quiet = None
dump_name (requested file) = Some file
dump_name (filled file image) = Some file

abbrev pub filled_image : Dump → Option (List ℕ)
filled_image quiet = None
filled_image (requested file) = None
filled_image (filled file image) = Some image

-- it has a last image, or an open load
abbrev pub has_image : Table → Bool → Bool
has_image t true = not (t.count == 0)
has_image t false = is_some t.load

abbrev pub row_view : Table → RowView
row_view t = record {
  owner = t.owner;
  handle = t.handle;
  size = t.size;
  flags = record { 0 = t.options };
  validator = t.validator;
  count = t.count;
  load = is_some t.load;
  checked = option_map_or (λ (load : Load). load.checked) t.load false;
  asked = t.activation;
  dump = dump_view t.dump;
  notice = t.notice;
}
