-- What the core represents: a state, a run, and a history that is legal.
use Rattle.std.specs.Prelude.{◌≡◌, ℕ, List, [], false, Option}
use Rattle.std.proofs.Common.{ℤ}
use Rattle.tbl_model.specs.State.{State}
use Rattle.tbl_kinds.specs.Blocks.{Store as Blocks}
use Rattle.tbl_model.specs.Counts.{Counts, counts_of}
use Rattle.tbl_model.specs.History.{Run, begins_at, run_from, IsLegal}
use Rattle.tbl_outside.specs.declared.validator.KitEntry.{KitEntry}
use Rattle.validation.specs.Kits.{owners}
use Rattle.tbl_kinds.specs.declared.entry.Entry.{Entry}
use Rattle.cds_store.specs.StoreBlocks.{StandsFor as HasBlocks}
use Rattle.tbl_session.specs.Verdicts.{AreGiven, AreOf}
use Rattle.tbl_outside.specs.declared.bank.Bank.{Ghosts}
use Rattle.tbl_core.specs.Views.{PartsView, EngineView, CoreView, core_of}

-- over these blocks they represent this state
pub record IsStateOf {B C : Type 0} (blocks : Blocks) (held : PartsView B C) (s : State) : Type 0 where
  pub tables : s.tables ≡ held.tables
  pub pending : s.pending ≡ held.pending
  pub store : s.store ≡ blocks
  pub drawer : s.drawer ≡ held.drawer
  pub apps : s.apps ≡ held.apps
  pub kit : s.kit ≡ owners held.kit
  pub admit : s.admit ≡ held.admit
  pub seconds : s.seconds ≡ held.seconds
  pub sub : s.sub ≡ held.sub
  pub ended : s.ended ≡ held.ended

-- such a state, without blocks
abbrev pub state_of : {B C : Type 0} → PartsView B C → State
state_of held = record {
  tables = held.tables;
  pending = held.pending;
  store = [];
  drawer = held.drawer;
  apps = held.apps;
  kit = owners held.kit;
  admit = held.admit;
  seconds = held.seconds;
  sub = held.sub;
  ended = held.ended;
}

-- and the store represents its blocks. After a boot that failed or was stopped it represents none
pub record HoldsAll {B C : Type 0} (g : Ghosts B) (held : PartsView B C) (s : State) : Type 0 where
  pub parts : IsStateOf s.store held s
  pub blocks : held.ended ≡ false → HasBlocks g.tells g.now held.store s.store

-- the parts and the running numbers represent a run: its state, and what is counted over what was reported
pub record Shows {B C : Type 0} (g : Ghosts B) (held : PartsView B C) (numbers : Counts) (r : Run) : Type 0 where
  pub state : HoldsAll g held r.state
  pub counts : counts_of r.past ≡ numbers

-- if the bank shows its bytes, the core's history is legal from the opening state on, and the core represents what it leads to
pub record FollowsFrom {B C : Type 0} (g : Ghosts B) (opening : State) (core : CoreView B C) : Type 0 where
  pub legal : g.tells → IsLegal opening core.entries (run_from (begins_at opening) core.entries).state
  pub shows : g.tells → Shows g core.state core.counts (run_from (begins_at opening) core.entries)

-- the same of an engine, for a past that it doesn't keep: from the opening state on that past is legal, and the engine represents what it
-- leads to
abbrev pub Stands : {B C : Type 0} → Ghosts B → State → List Entry → EngineView B C → Type 0
Stands g opening past engine = FollowsFrom g opening (core_of past engine)

-- and the verdicts in it are those of these functions, each of which is one of the kit's
pub record Vouches {B C : Type 0} (g : Ghosts B) (verdict : C → List ℕ → ℤ) (given : List (Option (KitEntry C))) (opening : State) (core : CoreView B C) : Type 0 where
  pub stands : FollowsFrom g opening core
  pub verdicts : g.tells → AreGiven verdict given (begins_at opening) core.entries
  pub functions : AreOf verdict given core.state.kit
