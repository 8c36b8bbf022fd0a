-- A record of the registry in two parts.
use Rattle.std.specs.Prelude.{ℕ, List, [], ◌∷◌, ◌++◌}
use Rattle.tbl_kinds.specs.Names.{name_field}
use Rattle.tbl_kinds.specs.Numbers.{two, four}
use Rattle.tbl_kinds.specs.declared.telemetry.RegistryRow.{RegistryRow}

-- its numbers
abbrev pub numbers_of : RegistryRow → List ℕ
numbers_of r = four r.size ++ four r.check ++ four r.count ++ four r.seconds ++ two r.sub ++ r.bits ∷ r.validator ∷ []

-- and its names
abbrev pub names_of : RegistryRow → List ℕ
names_of r = name_field 40 r.name ++ name_field 20 r.owner ++ name_field 64 r.file
