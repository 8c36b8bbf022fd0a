-- What the registry tells of a table.
use Rattle.std.specs.Prelude.{ℕ, ◌+◌, ◌==◌, List, take, Bool, if◌then◌else◌, is_some}
use Rattle.std.specs.List.{position_or_len}
use Rattle.std.specs.Option.{option_map_or}
use Rattle.tbl_kinds.specs.Check.{check16}
use Rattle.tbl_kinds.specs.Records.{validator_number}
use Rattle.tbl_model.specs.State.{Table}
use Rattle.tbl_model.specs.Tables.{is_double, is_dump_only, is_critical}
use Rattle.tbl_kinds.specs.declared.telemetry.RegistryRow.{RegistryRow}

-- the application's name stands before the first dot of a full name, and has 20 bytes at most
abbrev pub owner_name : List ℕ → List ℕ
owner_name name = take 20 (take (position_or_len (λ b. b == 46) name) name)

abbrev pub bit_at : ℕ → Bool → ℕ
bit_at value b = if b then value else 0

-- loaded, activation requested, dump-only, double-buffered, critical, load open
abbrev pub bits_of : Table → ℕ
bits_of t =
    bit_at 1 (is_some t.last) + bit_at 2 t.activation + bit_at 4 (is_dump_only t)
    + bit_at 8 (is_double t) + bit_at 16 (is_critical t) + bit_at 32 (is_some t.load)

abbrev pub registry_row : Table → RegistryRow
registry_row t = record {
  size = t.size;
  check = option_map_or check16 t.last 0;
  count = t.count;
  seconds = t.seconds;
  sub = t.sub;
  bits = bits_of t;
  validator = validator_number t.validator;
  name = t.name;
  owner = owner_name t.name;
  file = t.file;
}
