-- The bodies of telemetry packets, field by field.
use Rattle.std.specs.Prelude.{ℕ, List, [], ◌∷◌, ◌++◌}
use Rattle.std.specs.Int.{w32, cast_unsigned}
use Rattle.tbl_kinds.specs.Names.{name_field}
use Rattle.tbl_kinds.specs.Numbers.{two, four}
use Rattle.tbl_kinds.specs.declared.telemetry.Event.{Event}
use Rattle.tbl_kinds.specs.declared.telemetry.Housekeeping.{Housekeeping}
use Rattle.tbl_kinds.specs.declared.telemetry.RegistryRow.{RegistryRow}

unfoldable pub event_body : Event → List ℕ
event_body e = two e.number ++ four e.status.0 ++ two e.row ++ four e.detail

-- commands accepted and refused, tables registered, open loads, and validations finished, 8 bytes
unfoldable pub commands_and_loads : Housekeeping → List ℕ
commands_and_loads h = h.accepted ∷ h.refused ∷ [] ++ two h.tables ++ two h.loads ++ two h.finished

-- the last validation, in which the verdict stands as its two's complement, 9 bytes
unfoldable pub last_validation : Housekeeping → List ℕ
last_validation h = four h.check ++ four (cast_unsigned w32 h.verdict) ++ h.active ∷ []

-- the counters of validations, and the shared buffers that are free, 7 bytes
unfoldable pub validations_and_buffers : Housekeeping → List ℕ
validations_and_buffers h = h.good ∷ h.bad ∷ h.requests ∷ h.free ∷ 0 ∷ 0 ∷ 0 ∷ []

-- the time of the last update, 6 bytes
unfoldable pub last_update : Housekeeping → List ℕ
last_update h = four h.seconds ++ two h.sub

-- these four, and then the names
unfoldable pub housekeeping_body : Housekeeping → List ℕ
housekeeping_body h =
    commands_and_loads h ++ last_validation h ++ validations_and_buffers h ++ last_update h
    ++ name_field 40 h.validated ++ name_field 40 h.updated ++ name_field 64 h.loaded_file
    ++ name_field 64 h.dumped_file ++ name_field 40 h.loaded

unfoldable pub registry_record : RegistryRow → List ℕ
registry_record r =
    four r.size ++ four r.check ++ four r.count ++ four r.seconds ++ two r.sub
    ++ r.bits ∷ r.validator ∷ []
    ++ name_field 40 r.name ++ name_field 20 r.owner ++ name_field 64 r.file
