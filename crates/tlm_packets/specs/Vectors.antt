-- Two packets byte by byte, as the definitions give them: those that a service just started answers a NOOP command and then a housekeeping request with.
use Rattle.std.specs.Prelude.{◌≡◌, [], ◌∷◌, ◌++◌, replicate, refl}
use Rattle.std.proofs.Common.{pos}
use Rattle.tbl_kinds.specs.Packets.{primary_header, telemetry_packet, event_id, housekeeping_id}
use Rattle.tbl_kinds.specs.Telemetry.{event_body, housekeeping_body, commands_and_loads, last_validation, validations_and_buffers, last_update}
use Rattle.tbl_kinds.specs.declared.telemetry.TlmHead.{TlmHead}
use Rattle.tbl_kinds.specs.declared.telemetry.Event.{Event}
use Rattle.tbl_kinds.specs.declared.telemetry.Housekeeping.{Housekeeping}

-- the first packet of its kind, at time 0
abbrev pub first_head : TlmHead
first_head = record { count = 0; seconds = 0; sub = 0 }

-- event 1, command accepted, with function code 0 and no row
abbrev pub noop_event : Event
noop_event = record { number = 1; status = record { 0 = 0 }; row = 0xFFFF; detail = 0 }

-- 0808 C000 0011, 00000000 0000, and 0001 00000000 FFFF 00000000
pub noop_event_packet :
    telemetry_packet event_id first_head (event_body noop_event)
    ≡ 0x08 ∷ 0x08 ∷ 0xC0 ∷ 0x00 ∷ 0x00 ∷ 0x11 ∷ []
    ++ replicate 6 0
    ++ 0x00 ∷ 0x01 ∷ 0x00 ∷ 0x00 ∷ 0x00 ∷ 0x00 ∷ 0xFF ∷ 0xFF ∷ 0x00 ∷ 0x00 ∷ 0x00 ∷ 0x00 ∷ []
unfolding telemetry_packet primary_header event_body
noop_event_packet = refl

-- one command accepted, four shared buffers free, and nothing else
abbrev pub one_accepted : Housekeeping
one_accepted =
    record {
      accepted = 1;
      refused = 0;
      tables = 0;
      loads = 0;
      finished = 0;
      check = 0;
      verdict = pos 0;
      active = 0;
      good = 0;
      bad = 0;
      requests = 0;
      free = 4;
      seconds = 0;
      sub = 0;
      validated = [];
      updated = [];
      loaded_file = [];
      dumped_file = [];
      loaded = [];
    }

-- 0804 C000 011B, 00000000 0000, and 278 bytes that are zero but for the first and the one at place 20
pub one_accepted_packet :
    telemetry_packet housekeeping_id first_head (housekeeping_body one_accepted)
    ≡ 0x08 ∷ 0x04 ∷ 0xC0 ∷ 0x00 ∷ 0x01 ∷ 0x1B ∷ []
    ++ replicate 6 0
    ++ 1 ∷ replicate 19 0 ++ 4 ∷ replicate 257 0
unfolding telemetry_packet primary_header housekeeping_body commands_and_loads last_validation validations_and_buffers last_update
one_accepted_packet = refl
