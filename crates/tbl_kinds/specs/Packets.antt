-- Space packets: the primary header of CCSDS 133.0-B, and after it the secondary header of a command or of telemetry.
use Rattle.std.specs.Prelude.{◌≡◌, ℕ, ◌+◌, ◌-◌, ◌*◌, ◌%◌, ◌^◌, ◌<◌, ◌==◌, List, [], ◌∷◌, ◌++◌, length, drop, not, nat_lt, if◌then◌else◌, Option, Some, None, bit_xor}
use Rattle.std.specs.List.{fold}
use Rattle.tbl_kinds.specs.Numbers.{two, four, byte_at, two_at}
use Rattle.tbl_kinds.specs.declared.telemetry.TlmHead.{TlmHead}

-- the message ids: 11 bits of application id after version 0, the type (1 for a command) and the secondary header flag
abbrev pub command_id : ℕ
command_id = 0x1804

abbrev pub housekeeping_request_id : ℕ
housekeeping_request_id = 0x180C

abbrev pub housekeeping_id : ℕ
housekeeping_id = 0x0804

abbrev pub event_id : ℕ
event_id = 0x0808

abbrev pub registry_id : ℕ
registry_id = 0x080C

-- id, sequence flags 3 with the count, and the length of the whole packet less 7
unfoldable pub primary_header : ℕ → ℕ → ℕ → List ℕ
primary_header id count len = two id ++ two (0xC000 + count) ++ two (len - 7)

-- a telemetry packet has the time after its primary header
unfoldable pub telemetry_packet : ℕ → TlmHead → List ℕ → List ℕ
telemetry_packet id head body = primary_header id head.count (12 + length body) ++ four head.seconds ++ two head.sub ++ body

-- the exclusive or of 0xFF and all bytes, which is 0 for a whole command packet
abbrev pub checksum : List ℕ → ℕ
checksum bytes = fold bit_xor 0xFF bytes

-- what is wrong with a command packet, in the order tested
pub data PacketFlaw : Type 0 where
  short : PacketFlaw
  bad_length : PacketFlaw
  bad_check : PacketFlaw

abbrev pub packet_flaw : List ℕ → Option PacketFlaw
packet_flaw bytes =
    if nat_lt (length bytes) 8 then Some short
    else (if not (two_at 4 bytes + 7 == length bytes) then Some bad_length
    else (if not (checksum bytes == 0) then Some bad_check
    else None))

-- what a command packet without a flaw carries: its id, its function code, and the payload after the eighth byte
abbrev pub packet_id : List ℕ → ℕ
packet_id bytes = two_at 0 bytes

abbrev pub packet_code : List ℕ → ℕ
packet_code bytes = byte_at 6 bytes % 128

abbrev pub packet_payload : List ℕ → List ℕ
packet_payload bytes = drop 8 bytes

-- a written command packet has the high bit of its code byte 0, and the check byte that makes the checksum 0
unfoldable pub command_packet : ℕ → ℕ → ℕ → List ℕ → List ℕ
command_packet id count code payload =
    let front = primary_header id count (8 + length payload) ++ code ∷ [] in
    front ++ checksum (front ++ payload) ∷ payload

-- the bytes are a command packet with this id, code and payload. Its sequence flags and count and the high bit of its code byte are free
pub record IsCommandPacket (bytes : List ℕ) (id code : ℕ) (payload : List ℕ) : Type 0 where
  pub sequence : ℕ
  pub high : ℕ
  pub check : ℕ
  pub parts : bytes ≡ two id ++ two sequence ++ two (length payload + 1) ++ (128 * high + code) ∷ check ∷ payload
  pub id_fits : id < 2 ^ 16
  pub code_fits : code < 128
  pub payload_fits : length payload + 1 < 2 ^ 16
  pub checked : checksum bytes ≡ 0
