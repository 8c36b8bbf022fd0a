-- What is read of command packets and of file headers, and that whole ones alone are read.
use Rattle.std.specs.Prelude.{◌≡◌, ℕ, ◌<◌, ◌≤◌, List, ◌++◌, length, drop, None, Some, Result, Ok, Err}
use Rattle.tbl_kinds.specs.Packets.{packet_flaw, packet_id, packet_code, packet_payload}
use Rattle.tbl_kinds.specs.Headers.{Header, IsHeader, file_header, header_flaw, header_in, header_len}
use Rattle.cfe_headers.specs.Faults.{flaw_of}
use Rattle.cfe_headers.specs.FileHeaders.{header_of, header_flaw_of}
use Rattle.cfe_headers.specs.declared.packets.CmdPacket.{CmdPacket}
use Rattle.cfe_headers.specs.declared.packets.PacketFault.{PacketFault}
use Rattle.cfe_headers.specs.declared.file.FileHeader.{FileHeader}
use Rattle.cfe_headers.specs.declared.file.HeaderFault.{HeaderFault}

-- ---- command packets

-- the bytes are read as a packet with this id, this function code and this payload
pub record ReadsPacket (bytes : List ℕ) (id code : ℕ) (payload : List ℕ) : Type 0 where
  pub accepted : packet_flaw bytes ≡ None
  pub id_is : packet_id bytes ≡ id
  pub code_is : packet_code bytes ≡ code
  pub payload_is : packet_payload bytes ≡ payload

-- a packet without a flaw tells its id and its code, and none is longer than its length field can say
pub record IsPacketOf (bytes : List ℕ) (packet : CmdPacket) : Type 0 where
  pub ok : packet_flaw bytes ≡ None
  pub id : packet.id ≡ packet_id bytes
  pub code : packet.code ≡ packet_code bytes
  pub code_fits : packet.code < 128
  pub within : length bytes ≤ 65542

-- what a reader answers: the packet, or the first flaw
abbrev pub GivesPacket : List ℕ → Result CmdPacket PacketFault → Type 0
GivesPacket bytes (Ok packet) = IsPacketOf bytes packet
GivesPacket bytes (Err fault) = packet_flaw bytes ≡ Some (flaw_of fault)

-- ---- file headers

-- what follows it isn't looked at, and the header is read as it was written
pub record ReadsHeader (header : Header) (more : List ℕ) : Type 0 where
  pub accepted : header_flaw (file_header header ++ more) ≡ None
  pub same : header_in (file_header header ++ more) ≡ header

-- the bytes begin with the header that is read of them, in its one spelling
pub record BeginsWithHeader (bytes : List ℕ) : Type 0 where
  pub is_header : IsHeader (header_in bytes)
  pub spelled : bytes ≡ file_header (header_in bytes) ++ drop header_len bytes

-- a header without a flaw tells what its fields hold
pub record IsHeaderOf (bytes : List ℕ) (read : FileHeader) : Type 0 where
  pub ok : header_flaw bytes ≡ None
  pub header : header_of read ≡ header_in bytes

-- what a reader answers: the header, or the first flaw
abbrev pub GivesHeader : List ℕ → Result FileHeader HeaderFault → Type 0
GivesHeader bytes (Ok read) = IsHeaderOf bytes read
GivesHeader bytes (Err fault) = header_flaw bytes ≡ Some (header_flaw_of fault)
