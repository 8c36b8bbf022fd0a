-- Which bytes are a packet of the service, and of what.
use Rattle.std.specs.Prelude.{◌≡◌, ℕ, ◌<◌, ◌^◌, List, FitsSigned}
use Rattle.std.specs.Int.{w32}
use Rattle.tbl_kinds.specs.Packets.{telemetry_packet, housekeeping_id, registry_id, event_id}
use Rattle.tbl_kinds.specs.Records.{FitsField}
use Rattle.tbl_kinds.specs.Telemetry.{event_body, housekeeping_body, registry_record}
use Rattle.tbl_kinds.specs.declared.telemetry.TlmHead.{TlmHead}
use Rattle.tbl_kinds.specs.declared.telemetry.Event.{Event}
use Rattle.tbl_kinds.specs.declared.telemetry.Housekeeping.{Housekeeping}
use Rattle.tbl_kinds.specs.declared.telemetry.RegistryRow.{RegistryRow}

-- the numbers fit their fields
pub record IsHead (head : TlmHead) : Type 0 where
  pub count : head.count < 16384
  pub seconds : head.seconds < 2 ^ 32
  pub sub : head.sub < 2 ^ 16

-- the bytes are a packet of this message id with this body. Its sequence count and its time are free
pub record IsPacket (id : ℕ) (body bytes : List ℕ) : Type 0 where
  pub head : TlmHead
  pub is_head : IsHead head
  pub packet : bytes ≡ telemetry_packet id head body

-- ---- values whose numbers and names fit their fields

pub record IsEvent (e : Event) : Type 0 where
  pub number : e.number < 2 ^ 16
  pub status : e.status.0 < 2 ^ 32
  pub row : e.row < 2 ^ 16
  pub detail : e.detail < 2 ^ 32

-- housekeeping, in the parts of its body
pub record CountsFit (h : Housekeeping) : Type 0 where
  pub accepted : h.accepted < 2 ^ 8
  pub refused : h.refused < 2 ^ 8
  pub tables : h.tables < 2 ^ 16
  pub loads : h.loads < 2 ^ 16
  pub finished : h.finished < 2 ^ 16

pub record ValidationFits (h : Housekeeping) : Type 0 where
  pub check : h.check < 2 ^ 32
  pub verdict : FitsSigned w32 h.verdict
  pub active : h.active < 2 ^ 8

pub record ValidationsFit (h : Housekeeping) : Type 0 where
  pub good : h.good < 2 ^ 8
  pub bad : h.bad < 2 ^ 8
  pub requests : h.requests < 2 ^ 8
  pub free : h.free < 2 ^ 8

pub record TimeFits (h : Housekeeping) : Type 0 where
  pub seconds : h.seconds < 2 ^ 32
  pub sub : h.sub < 2 ^ 16

pub record NamesFit (h : Housekeeping) : Type 0 where
  pub validated : FitsField 40 h.validated
  pub updated : FitsField 40 h.updated
  pub loaded_file : FitsField 64 h.loaded_file
  pub dumped_file : FitsField 64 h.dumped_file
  pub loaded : FitsField 40 h.loaded

pub record IsHousekeeping (h : Housekeeping) : Type 0 where
  pub counts : CountsFit h
  pub validation : ValidationFits h
  pub validations : ValidationsFit h
  pub time : TimeFits h
  pub names : NamesFit h

pub record IsRow (r : RegistryRow) : Type 0 where
  pub size : r.size < 2 ^ 32
  pub check : r.check < 2 ^ 32
  pub count : r.count < 2 ^ 32
  pub seconds : r.seconds < 2 ^ 32
  pub sub : r.sub < 2 ^ 16
  pub bits : r.bits < 2 ^ 8
  pub validator : r.validator < 2 ^ 8
  pub name : FitsField 40 r.name
  pub owner : FitsField 20 r.owner
  pub file : FitsField 64 r.file

-- ---- packets of such values

pub record SpellsEvent (bytes : List ℕ) (e : Event) : Type 0 where
  pub is_event : IsEvent e
  pub packet : IsPacket event_id (event_body e) bytes

pub record SpellsHousekeeping (bytes : List ℕ) (h : Housekeeping) : Type 0 where
  pub is_housekeeping : IsHousekeeping h
  pub packet : IsPacket housekeeping_id (housekeeping_body h) bytes

pub record SpellsRow (bytes : List ℕ) (r : RegistryRow) : Type 0 where
  pub is_row : IsRow r
  pub packet : IsPacket registry_id (registry_record r) bytes
