-- Commands byte by byte, as the definitions write them, with sequence count 0.
use Rattle.std.specs.Prelude.{◌≡◌, [], ◌∷◌, ◌++◌, replicate, codes, refl}
use Rattle.tbl_kinds.specs.Packets.{primary_header, command_packet}
use Rattle.tbl_kinds.specs.GroundCommands.{housekeeping, noop, load, dump, validate, activate, command_bytes}

-- 1804 C000 0001 00 22
pub noop_is_written : command_bytes 0 noop ≡ 0x18 ∷ 0x04 ∷ 0xC0 ∷ 0x00 ∷ 0x00 ∷ 0x01 ∷ 0x00 ∷ 0x22 ∷ []
unfolding command_packet primary_header
noop_is_written = refl

-- 180C C000 0001 00 2A
pub housekeeping_is_written : command_bytes 0 housekeeping ≡ 0x18 ∷ 0x0C ∷ 0xC0 ∷ 0x00 ∷ 0x00 ∷ 0x01 ∷ 0x00 ∷ 0x2A ∷ []
unfolding command_packet primary_header
housekeeping_is_written = refl

-- LOAD of /ram/a.tbl: 1804 C000 0041 02 2B, the name, and 54 zeros
pub load_is_written : command_bytes 0 (load (codes "/ram/a.tbl")) ≡ 0x18 ∷ 0x04 ∷ 0xC0 ∷ 0x00 ∷ 0x00 ∷ 0x41 ∷ 0x02 ∷ 0x2B ∷ codes "/ram/a.tbl" ++ replicate 54 0
unfolding command_packet primary_header
load_is_written = refl

-- VALIDATE of the inactive image of A.T: 1804 C000 002B 04 37, 0000, the name, and 37 zeros
pub validate_is_written : command_bytes 0 (validate 0 (codes "A.T")) ≡ 0x18 ∷ 0x04 ∷ 0xC0 ∷ 0x00 ∷ 0x00 ∷ 0x2B ∷ 0x04 ∷ 0x37 ∷ 0x00 ∷ 0x00 ∷ codes "A.T" ++ replicate 37 0
unfolding command_packet primary_header
validate_is_written = refl

-- ACTIVATE of A.T: 1804 C000 0029 05 34, the name, and 37 zeros
pub activate_is_written : command_bytes 0 (activate (codes "A.T")) ≡ 0x18 ∷ 0x04 ∷ 0xC0 ∷ 0x00 ∷ 0x00 ∷ 0x29 ∷ 0x05 ∷ 0x34 ∷ codes "A.T" ++ replicate 37 0
unfolding command_packet primary_header
activate_is_written = refl

-- DUMP of the active image of A.T to /ram/d.tbl: 1804 C000 006B 03 3F, 0001, the table's name and 37 zeros, the file's name and 54 zeros
pub dump_is_written :
    command_bytes 0 (dump 1 (codes "A.T") (codes "/ram/d.tbl"))
    ≡ 0x18 ∷ 0x04 ∷ 0xC0 ∷ 0x00 ∷ 0x00 ∷ 0x6B ∷ 0x03 ∷ 0x3F ∷ 0x00 ∷ 0x01 ∷ []
    ++ codes "A.T" ++ replicate 37 0 ++ codes "/ram/d.tbl" ++ replicate 54 0
unfolding command_packet primary_header
dump_is_written = refl
