-- One entry more: what it adds to the counts, and how each count goes on.
use Rattle.std.specs.Prelude.{ℕ, ◌+◌, ◌%◌, List, [], Bool, false, if◌then◌else◌, Option, None, unwrap_or, is_some}
use Rattle.tbl_model.specs.Commands.{read_command_in}
use Rattle.tbl_model.specs.Counts.{Told, Counts, restarts, clears_counters, adds_accepted, adds_refused, adds_request, events_by, is_finished, is_finished_well, is_finished_badly, events_in, is_housekeeping, is_registry, Validation, no_validation, validation_in, Update, no_update, update_in, loaded_in, loaded_file_in, dump_in}

-- what an entry adds
pub record Tally : Type 0 where
  pub restarted : Bool
  pub cleared : Bool
  pub accepted : Bool
  pub refused : Bool
  pub finished : ℕ
  pub good : ℕ
  pub bad : ℕ
  pub request : Bool
  pub events : ℕ
  pub housekeeping : Bool
  pub registry : Bool
  pub notice : Bool
  pub validation : Option Validation
  pub update : Option Update
  pub loaded : Option (List ℕ)
  pub loaded_file : Option (List ℕ)
  pub dumped_file : Option (List ℕ)

abbrev pub tally_of : Told → Tally
tally_of t = record {
  restarted = restarts t;
  cleared = clears_counters t;
  accepted = adds_accepted (read_command_in t.request) t.effect;
  refused = adds_refused (read_command_in t.request) t.effect;
  finished = events_by is_finished t;
  good = events_by is_finished_well t;
  bad = events_by is_finished_badly t;
  request = adds_request (read_command_in t.request) t.effect;
  events = events_in t;
  housekeeping = is_housekeeping t.effect.shown;
  registry = is_registry t.effect.shown;
  notice = is_some t.effect.notice;
  validation = validation_in t;
  update = update_in t;
  loaded = loaded_in t;
  loaded_file = loaded_file_in t;
  dumped_file = dump_in t;
}

abbrev pub bit : Bool → ℕ
bit b = if b then 1 else 0

-- the counts after one entry more
abbrev pub counts_after : Counts → Tally → Counts
counts_after c t = record {
  accepted = if t.cleared then 0 else (c.accepted + bit t.accepted) % 256;
  refused = if t.cleared then 0 else (c.refused + bit t.refused) % 256;
  finished = if t.cleared then 0 else (c.finished + t.finished) % 65536;
  good = if t.cleared then 0 else (c.good + t.good) % 256;
  bad = if t.cleared then 0 else (c.bad + t.bad) % 256;
  requests = if t.cleared then 0 else (c.requests + bit t.request) % 256;
  events = if t.restarted then 0 else (c.events + t.events) % 16384;
  housekeepings = if t.restarted then 0 else (c.housekeepings + bit t.housekeeping) % 16384;
  registries = if t.restarted then 0 else (c.registries + bit t.registry) % 16384;
  notices = if t.restarted then 0 else (c.notices + bit t.notice) % 16384;
  validation = if t.restarted then no_validation else unwrap_or t.validation c.validation;
  update = if t.restarted then no_update else unwrap_or t.update c.update;
  loaded = if t.restarted then [] else unwrap_or t.loaded c.loaded;
  loaded_file = if t.restarted then [] else unwrap_or t.loaded_file c.loaded_file;
  dumped_file = if t.restarted then [] else unwrap_or t.dumped_file c.dumped_file;
}

abbrev pub no_tally : Tally
no_tally = record {
  restarted = false;
  cleared = false;
  accepted = false;
  refused = false;
  finished = 0;
  good = 0;
  bad = 0;
  request = false;
  events = 0;
  housekeeping = false;
  registry = false;
  notice = false;
  validation = None;
  update = None;
  loaded = None;
  loaded_file = None;
  dumped_file = None;
}
