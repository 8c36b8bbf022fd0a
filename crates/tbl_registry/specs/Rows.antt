-- What a registry row shows, and what holds of it.
use Rattle.std.specs.Prelude.{◌≡◌, ◌<◌, ◌≤◌, ◌==◌, ℕ, List, [], length, unwrap_or, true, false, not, Option, None, is_some, IfSome}
use Rattle.tbl_kinds.specs.Limits.{table_limit}
use Rattle.tbl_model.specs.State.{Table, Dump, quiet, requested, filled}
use Rattle.tbl_model.specs.Tables.{option_bits, is_double, is_dump_only}
use Rattle.tbl_registry.specs.Views.{filled_image}
use Rattle.tbl_registry.specs.declared.row.DumpFile.{DumpFile}
use Rattle.tbl_registry.specs.declared.row.DumpFile.TheVariants.{Quiet, Asked, Filled}
use Rattle.tbl_registry.specs.declared.row.Row.TheInside.{Inside}

-- a table of 1 to 16,384 bytes, whose images all have its size. It has a last one once it had one, and one before that only if it has two
-- buffers. A dump-only table has one buffer and no load
pub record IsTable (t : Table) : Type 0 where
  pub some_bytes : 0 < t.size
  pub within : t.size ≤ table_limit
  pub loaded : is_some t.last ≡ not (t.count == 0)
  pub last : IfSome t.last (λ image. length image ≡ t.size)
  pub before : IfSome t.before (λ image. length image ≡ t.size)
  pub load : IfSome t.load (λ load. length load.image ≡ t.size)
  pub single : is_double t ≡ false → t.before ≡ None
  pub one : is_dump_only t ≡ true → is_double t ≡ false
  pub closed : is_dump_only t ≡ true → t.load ≡ None
  pub filled : IfSome (filled_image t.dump) (λ image. length image ≤ t.size)

-- a dump, by its file and the image that is kept for it
abbrev pub dump_of : DumpFile → Option (List ℕ) → Dump
dump_of Quiet kept = quiet
dump_of (Asked file) kept = requested file
dump_of (Filled file) kept = filled file (unwrap_or kept [])

abbrev pub table_of : Inside → Table
table_of row = record {
  name = row.name;
  owner = row.owner;
  handle = row.handle;
  size = row.size;
  options = option_bits row.flags;
  validator = row.validator;
  count = row.count;
  last = row.buffers.last;
  before = row.buffers.before;
  load = row.load;
  activation = row.asked;
  dump = dump_of row.dump row.buffers.kept;
  notice = row.notice;
  seconds = row.seconds;
  sub = row.sub;
  file = row.file;
}

-- it has two buffers if its table has that option
pub record IsRow (row : Inside) : Type 0 where
  pub table : IsTable (table_of row)
  pub buffers : row.buffers.double ≡ is_double (table_of row)
  pub kept : IfSome row.buffers.kept (λ image. length image ≡ row.size)
