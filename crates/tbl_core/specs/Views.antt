-- What the core keeps, as contracts see it.
use Rattle.std.specs.Prelude.{ℕ, List, Bool, Option}
use Rattle.tbl_model.specs.State.{Tables}
use Rattle.tbl_kinds.specs.Admitted.{Admitted}
use Rattle.tbl_kinds.specs.Drawer.{File}
use Rattle.tbl_model.specs.Counts.{Counts}
use Rattle.tbl_outside.specs.declared.validator.KitEntry.{KitEntry}
use Rattle.tbl_kinds.specs.declared.entry.Entry.{Entry}
use Rattle.cds_store.specs.StoreBlocks.{StoreParts}
use Rattle.reply_packets.specs.Counters.{counts_view}
use Rattle.tbl_core.specs.declared.parts.Parts.{Parts}
use Rattle.tbl_core.specs.declared.playing.Works.{Works}

-- the parts of the service, as a state has them, with the validation functions themselves
pub record PartsView (B C : Type 0) : Type 0 where
  pub tables : Tables
  pub pending : List (ℕ × Bool)
  pub store : StoreParts B
  pub drawer : List File
  pub apps : List (Option (List ℕ))
  pub kit : List (Option (KitEntry C))
  pub admit : Admitted
  pub seconds : ℕ
  pub sub : ℕ
  pub ended : Bool

-- the parts, the running numbers of telemetry, for each handle the place of the call that got an address by it last, how many
-- requests were played, and a bound on the images of a table. No history is kept
pub record EngineView (B C : Type 0) : Type 0 where
  pub state : PartsView B C
  pub counts : Counts
  pub gets : List ℕ
  pub played : ℕ
  pub images : ℕ

-- the history, the parts, the running numbers of telemetry, and for each handle the place of the call that got an address by it last
pub record CoreView (B C : Type 0) : Type 0 where
  pub entries : List Entry
  pub state : PartsView B C
  pub counts : Counts
  pub gets : List ℕ

abbrev pub parts_view : {B C : Type 0} → Parts B C → PartsView B C
parts_view parts = record {
  tables = parts.desk.tables;
  pending = parts.desk.pending;
  store = parts.store;
  drawer = parts.desk.drawer;
  apps = parts.desk.apps;
  kit = parts.desk.kit;
  admit = parts.desk.admit;
  seconds = parts.desk.clock.seconds;
  sub = parts.desk.clock.sub;
  ended = parts.ended;
}

abbrev pub works_view : {B C : Type 0} → Works B C → EngineView B C
works_view works = record { state = parts_view works.parts; counts = counts_view works.telemetry.counters; gets = works.gets.items; played = works.played; images = works.images }

-- an engine and what it played, as a core that had kept it
abbrev pub core_of : {B C : Type 0} → List Entry → EngineView B C → CoreView B C
core_of past engine = record { entries = past; state = engine.state; counts = engine.counts; gets = engine.gets }
