-- The packets of a reply, counted over the history.
use Rattle.std.specs.Prelude.{ℕ, ◌+◌, ◌%◌, List, [], ◌∷◌, ◌++◌, if◌then◌else◌, Option, Some, None}
use Rattle.tbl_kinds.specs.Numbers.{four}
use Rattle.tbl_model.specs.State.{Table, Tables}
use Rattle.tbl_model.specs.Tables.{table_at, table_count, load_count, free_buffers}
use Rattle.tbl_model.specs.Registry.{registry_row}
use Rattle.tbl_kinds.specs.Packets.{housekeeping_id, event_id, registry_id, telemetry_packet, command_packet}
use Rattle.tbl_kinds.specs.Telemetry.{event_body, housekeeping_body, registry_record}
use Rattle.tbl_model.specs.Events.{events_of}
use Rattle.tbl_model.specs.Counts.{Told, Counts, counts_of, is_stopped}
use Rattle.tbl_model.specs.declared.telemetry.Notice.{Notice}
use Rattle.tbl_model.specs.declared.telemetry.Shown.{Shown}
use Rattle.tbl_model.specs.declared.telemetry.Shown.TheVariants.{Nothing, Housekeeping, Registry}
use Rattle.tbl_kinds.specs.declared.telemetry.Event.{Event}
use Rattle.tbl_kinds.specs.declared.telemetry.Housekeeping.{Housekeeping as Body}
use Rattle.tbl_kinds.specs.declared.telemetry.TlmHead.{TlmHead}

-- a packet carries the service's time, and how many of its kind were sent before
abbrev pub head_at : ℕ → ℕ → ℕ → TlmHead
head_at seconds sub sent = record { count = sent % 16384; seconds = seconds; sub = sub }

abbrev pub event_packets : ℕ → ℕ → ℕ → List Event → List ℕ
event_packets seconds sub sent [] = []
event_packets seconds sub sent (e ∷ es) = telemetry_packet event_id (head_at seconds sub sent) (event_body e) ++ event_packets seconds sub (sent + 1) es

-- the housekeeping body: what is counted, and what the tables have
abbrev pub housekeeping_of : Counts → Tables → Body
housekeeping_of c tables = record {
  accepted = c.accepted;
  refused = c.refused;
  tables = table_count tables;
  loads = load_count tables;
  finished = c.finished;
  check = c.validation.check;
  verdict = c.validation.verdict;
  active = c.validation.active;
  good = c.good;
  bad = c.bad;
  requests = c.requests;
  free = free_buffers tables;
  seconds = c.update.seconds;
  sub = c.update.sub;
  validated = c.validation.name;
  updated = c.update.name;
  loaded_file = c.loaded_file;
  dumped_file = c.dumped_file;
  loaded = c.loaded;
}

-- how many packets of its kind were sent
abbrev pub sent_of : Counts → Shown → ℕ
sent_of c Nothing = 0
sent_of c Housekeeping = c.housekeepings
sent_of c (Registry row) = c.registries

abbrev pub registry_packet : TlmHead → Option Table → List ℕ
registry_packet head None = []
registry_packet head (Some t) = telemetry_packet registry_id head (registry_record (registry_row t))

-- the packet after the events, over the tables that the request leaves
abbrev pub shown_packet : TlmHead → Counts → Tables → Shown → List ℕ
shown_packet head after tables Nothing = []
shown_packet head after tables Housekeeping = telemetry_packet housekeeping_id head (housekeeping_body (housekeeping_of after tables))
shown_packet head after tables (Registry row) = registry_packet head (table_at tables row)

abbrev pub notice_packet : Counts → Option Notice → List ℕ
notice_packet c None = []
notice_packet c (Some n) = command_packet n.msg (c.notices % 16384) n.code (four n.parameter)

-- over what was counted before the request, and after it: the events, then a housekeeping or registry packet, then a
-- notice; a stopped request sends none
abbrev pub packets_by : Counts → Counts → Told → List ℕ
packets_by before after t =
    if is_stopped t.effect then []
    else (event_packets t.before.seconds t.before.sub before.events (events_of t.request t.effect)
    ++ shown_packet (head_at t.before.seconds t.before.sub (sent_of before t.effect.shown)) after t.effect.next.tables t.effect.shown
    ++ notice_packet before t.effect.notice)

-- a reply's packets
unfoldable pub packets_of : List Told → Told → List ℕ
packets_of past t = packets_by (counts_of past) (counts_of (past ++ t ∷ [])) t
