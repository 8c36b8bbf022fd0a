-- What the running numbers represent, and how they go on as packets are put.
use Rattle.std.specs.Prelude.{ℕ, ◌+◌, ◌%◌, List, [], ◌&&◌, length, count_by, not, if◌then◌else◌, Bool, Option, None, Some, unwrap_or, is_some, Result}
use Rattle.std.specs.Option.{option_map}
use Rattle.tbl_kinds.specs.Statuses.{is_success}
use Rattle.tbl_kinds.specs.GroundCommands.{GroundCommand}
use Rattle.tbl_kinds.specs.declared.entry.Answer.{Answer}
use Rattle.tbl_kinds.specs.declared.status.Status.{Status}
use Rattle.tbl_kinds.specs.declared.telemetry.Event.{Event}
use Rattle.tbl_model.specs.State.{Tables}
use Rattle.tbl_model.specs.Commands.{ReadCommand, asks_housekeeping, asks_reset_counters, asks_validate}
use Rattle.tbl_model.specs.Telemetry.{is_good}
use Rattle.tbl_model.specs.Events.{command_events}
use Rattle.tbl_model.specs.Counts.{latest, validation_of, updated_name, dump_of, is_finished, is_finished_well, is_finished_badly, is_housekeeping, is_registry, Update, Counts, no_counts}
use Rattle.tbl_model.specs.CountsAfter.{bit}
use Rattle.tbl_model.specs.Replies.{head_at, sent_of, shown_packet}
use Rattle.tbl_model.specs.declared.telemetry.TelemetryEvent.{TelemetryEvent}
use Rattle.tbl_model.specs.declared.telemetry.TelemetryEvent.TheVariants.{Finished, Activated, Dumped}
use Rattle.tbl_model.specs.declared.telemetry.Named.{Named}
use Rattle.tbl_model.specs.declared.telemetry.Notice.{Notice}
use Rattle.tbl_model.specs.declared.telemetry.Shown.{Shown}
use Rattle.request_effects.specs.Effects.{quiet_effect, seen}
use Rattle.reply_packets.specs.declared.counters.Counters.{Counters}

abbrev pub counts_view : Counters → Counts
counts_view c = record no_counts {
  accepted = c.accepted;
  refused = c.refused;
  finished = c.finished;
  good = c.good;
  bad = c.bad;
  requests = c.requests;
  events = c.events;
  housekeepings = c.housekeepings;
  registries = c.registries;
  notices = c.notices;
  validation = c.validation;
  update = c.update;
  loaded = c.loaded;
  loaded_file = c.loaded_file;
  dumped_file = c.dumped_file;
}

-- ---- packets are sent

-- so many event packets
abbrev pub sent_events : ℕ → Counts → Counts
sent_events more c = record c { events = (c.events + more) % 16384 }

-- the packet after the events
abbrev pub sent_shown : Shown → Counts → Counts
sent_shown shown c = record c {
  housekeepings = (c.housekeepings + bit (is_housekeeping shown)) % 16384;
  registries = (c.registries + bit (is_registry shown)) % 16384;
}

-- its packet
abbrev pub shown_after : ℕ → ℕ → Counts → Tables → Shown → List ℕ
shown_after seconds sub c tables shown = shown_packet (head_at seconds sub (sent_of c shown)) c tables shown

-- a notice
abbrev pub sent_notice : Option Notice → Counts → Counts
sent_notice notice c = record c { notices = (c.notices + bit (is_some notice)) % 16384 }

-- ---- events

-- the latest image that went active among these events, at this time
abbrev pub latest_update : ℕ → ℕ → Option (List ℕ) → Option Update
latest_update seconds sub updated = option_map (λ name. record { seconds = seconds; sub = sub; name = name }) updated

-- one that is reported at this time
abbrev pub counted_event : ℕ → ℕ → TelemetryEvent → Counts → Counts
counted_event seconds sub (Finished row active check verdict name) c = record c {
  finished = (c.finished + 1) % 65536;
  good = (c.good + bit (is_good verdict)) % 256;
  bad = (c.bad + bit (not (is_good verdict))) % 256;
  validation = record { check = check; verdict = verdict; active = if active then 1 else 0; name = name };
}
counted_event seconds sub (Activated row count name) c = record c { update = record { seconds = seconds; sub = sub; name = name } }
counted_event seconds sub (Dumped row file len) c = record c { dumped_file = file }
counted_event seconds sub _ c = c

-- all of them, each with its packet
abbrev pub counted_events : ℕ → ℕ → List TelemetryEvent → Counts → Counts
counted_events seconds sub es c = record c {
  finished = (c.finished + count_by is_finished es) % 65536;
  good = (c.good + count_by is_finished_well es) % 256;
  bad = (c.bad + count_by is_finished_badly es) % 256;
  events = (c.events + length es) % 16384;
  validation = unwrap_or (latest validation_of es) c.validation;
  update = unwrap_or (latest_update seconds sub (latest updated_name es)) c.update;
  dumped_file = unwrap_or (latest dump_of es) c.dumped_file;
}

-- ---- commands and loads

-- the event of a command that was read so and answered so, if it has one
abbrev pub answered_events : Result GroundCommand Answer → Answer → Option Named → List Event
answered_events read answer table = command_events (Some read) (seen (record (quiet_effect answer []) { table = table }))

-- the counters of commands and of validations
abbrev pub counted_command : ReadCommand → Status → Counts → Counts
counted_command read status c =
    let cleared = is_success status && asks_reset_counters read in
    record c {
      accepted = if cleared then 0 else (c.accepted + bit (is_some read && is_success status && not (asks_housekeeping read) && not (asks_reset_counters read))) % 256;
      refused = if cleared then 0 else (c.refused + bit (is_some read && not (is_success status))) % 256;
      finished = if cleared then 0 else c.finished;
      good = if cleared then 0 else c.good;
      bad = if cleared then 0 else c.bad;
      requests = if cleared then 0 else (c.requests + bit (is_success status && asks_validate read)) % 256;
    }

-- the table that an accepted load filled, and its file
abbrev pub counted_load : Bool → Option (List ℕ) → Option Named → Counts → Counts
counted_load is_load file table c = record c {
  loaded = unwrap_or (if is_load then option_map (λ (t : Named). t.name) table else None) c.loaded;
  loaded_file = unwrap_or file c.loaded_file;
}

-- that a load which was asked for, from this file if it was from one, was answered so
abbrev pub counted_answer : Status → Bool → Option (List ℕ) → Option Named → Counts → Counts
counted_answer status is_load file table c = counted_load (is_success status && is_load) (if is_success status then file else None) table c
