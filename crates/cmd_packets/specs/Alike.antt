-- What is read of packets of commands, and what it depends on.
use Rattle.std.specs.Prelude.{◌≡◌, ℕ, List, ◌⊎◌, Ok}
use Rattle.tbl_kinds.specs.Packets.{packet_flaw, packet_id, packet_code, packet_payload, housekeeping_request_id}
use Rattle.tbl_kinds.specs.GroundCommands.{GroundCommand, SpellsCommand, command_in}

-- the bytes are a packet of this command, and are read as it
pub record IsReadAs (command : GroundCommand) (bytes : List ℕ) : Type 0 where
  pub is_packet : SpellsCommand bytes command
  pub same : command_in bytes ≡ Ok command

-- two packets with the same first flaw, id, function code and payload. Of a housekeeping request the code is free
pub record AreAlike (a b : List ℕ) : Type 0 where
  pub flaw : packet_flaw a ≡ packet_flaw b
  pub id : packet_id a ≡ packet_id b
  pub code : (packet_id b ≡ housekeeping_request_id) ⊎ (packet_code a ≡ packet_code b)
  pub payload : packet_payload a ≡ packet_payload b
