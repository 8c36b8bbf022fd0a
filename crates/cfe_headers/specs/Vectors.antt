-- Command packets and file headers byte by byte, as the definitions read and write them.
use Rattle.std.specs.Prelude.{◌≡◌, ℕ, List, [], ◌∷◌, ◌++◌, replicate, Some, None, refl}
use Rattle.tbl_kinds.specs.Packets.{command_id, primary_header, command_packet, packet_flaw, packet_id, packet_code, short, bad_length, bad_check}
use Rattle.tbl_kinds.specs.Headers.{Header, file_header}

-- a NOOP command, 1804 C000 0001 00 22
abbrev pub noop : List ℕ
noop = 0x18 ∷ 0x04 ∷ 0xC0 ∷ 0x00 ∷ 0x00 ∷ 0x01 ∷ 0x00 ∷ 0x22 ∷ []

pub noop_is_written : command_packet command_id 0 0 [] ≡ noop
unfolding command_packet primary_header
noop_is_written = refl

pub noop_is_whole : packet_flaw noop ≡ None
noop_is_whole = refl

pub noop_id : packet_id noop ≡ 0x1804
noop_id = refl

pub noop_code : packet_code noop ≡ 0
noop_code = refl

-- the check byte is one too high
pub wrong_check : packet_flaw (0x18 ∷ 0x04 ∷ 0xC0 ∷ 0x00 ∷ 0x00 ∷ 0x01 ∷ 0x00 ∷ 0x23 ∷ []) ≡ Some bad_check
wrong_check = refl

-- the length field says 8 bytes, and there are 9
pub wrong_length : packet_flaw (0x18 ∷ 0x04 ∷ 0xC0 ∷ 0x00 ∷ 0x00 ∷ 0x01 ∷ 0x00 ∷ 0x22 ∷ 0x00 ∷ []) ≡ Some bad_length
wrong_length = refl

-- seven bytes, although the length field says so
pub too_short : packet_flaw (0x18 ∷ 0x04 ∷ 0xC0 ∷ 0x00 ∷ 0x00 ∷ 0x00 ∷ 0x00 ∷ []) ≡ Some short
too_short = refl

-- a notice with id 1880, function code 5 and the parameter 7
pub notice_is_written : command_packet 0x1880 0 5 (0 ∷ 0 ∷ 0 ∷ 7 ∷ []) ≡ 0x18 ∷ 0x80 ∷ 0xC0 ∷ 0x00 ∷ 0x00 ∷ 0x05 ∷ 0x05 ∷ 0xA0 ∷ 0 ∷ 0 ∷ 0 ∷ 7 ∷ []
unfolding command_packet primary_header
notice_is_written = refl

-- the header of a dump file of time 5, `Table image` and zeros
abbrev pub dump_header : Header
dump_header = record {
  subtype = 8;
  length = 64;
  spacecraft = 66;
  processor = 1;
  application = 0;
  seconds = 5;
  sub = 0;
  description = 0x54 ∷ 0x61 ∷ 0x62 ∷ 0x6C ∷ 0x65 ∷ 0x20 ∷ 0x69 ∷ 0x6D ∷ 0x61 ∷ 0x67 ∷ 0x65 ∷ replicate 21 0;
}

-- 63464531 00000008 00000040 00000042 00000001 00000000 00000005 00000000, and the description
pub dump_header_is_written :
    file_header dump_header
    ≡ 0x63 ∷ 0x46 ∷ 0x45 ∷ 0x31 ∷ 0 ∷ 0 ∷ 0 ∷ 8 ∷ 0 ∷ 0 ∷ 0 ∷ 0x40 ∷ 0 ∷ 0 ∷ 0 ∷ 0x42 ∷ []
    ++ 0 ∷ 0 ∷ 0 ∷ 1 ∷ 0 ∷ 0 ∷ 0 ∷ 0 ∷ 0 ∷ 0 ∷ 0 ∷ 5 ∷ 0 ∷ 0 ∷ 0 ∷ 0 ∷ []
    ++ 0x54 ∷ 0x61 ∷ 0x62 ∷ 0x6C ∷ 0x65 ∷ 0x20 ∷ 0x69 ∷ 0x6D ∷ 0x61 ∷ 0x67 ∷ 0x65 ∷ replicate 21 0
unfolding file_header
dump_header_is_written = refl
