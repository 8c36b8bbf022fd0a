-- What requests about tables work on, as a state.
use Rattle.std.specs.Prelude.{◌≡◌, ◌≤◌, [], Bool}
use Rattle.tbl_kinds.specs.Blocks.{Store}
use Rattle.tbl_kinds.specs.declared.entry.Reply.{Reply}
use Rattle.tbl_model.specs.State.{State}
use Rattle.tbl_outside.specs.declared.validator.Validator.{Ghosts as ValidatorGhosts}
use Rattle.validation.specs.Kits.{owners, MayAskEach}
use Rattle.validation.specs.Ready.{HaveFunctions, HaveLoads, ArePending}
use Rattle.request_effects.specs.Reports.{Reported, nothing_reported}
use Rattle.desk.specs.Limits.{AreCounted, AreSendable}
use Rattle.desk.specs.declared.desk.Desk.{Desk}

-- what a state has beside the desk: the blocks, and whether a boot failed or was stopped
pub record Rest : Type 0 where
  pub store : Store
  pub ended : Bool

-- the state that the desk stands for, with this beside it
abbrev pub state_at : {C : Type 0} → Rest → Desk C → State
state_at rest desk = record {
  tables = desk.tables;
  pending = desk.pending;
  store = rest.store;
  drawer = desk.drawer;
  apps = desk.apps;
  kit = owners desk.kit;
  admit = desk.admit;
  seconds = desk.clock.seconds;
  sub = desk.clock.sub;
  ended = rest.ended;
}

-- what each request may rely on: the next image of each table can be counted and its notice sent, its function is in the kit and may be
-- asked twice, what is pending can be done, and where an activation is requested the load is open
pub record IsOrderly {C : Type 0} (v : ValidatorGhosts C) (desk : Desk C) : Type 0 where
  pub counted : AreCounted desk.tables
  pub notices : AreSendable desk.tables
  pub functions : HaveFunctions desk.tables desk.kit
  pub few : MayAskEach v.asked 2 desk.kit
  pub pending : ArePending desk.tables desk.pending
  pub loads : HaveLoads desk.tables

-- what a request answers into: its reply, and what telemetry reports of it
pub record Output : Type 0 where
  pub reply : Reply
  pub report : Reported

abbrev pub output : Reply → Reported → Output
output reply report = record { reply = reply; report = report }

-- nothing is answered and nothing is reported yet, and there is room for one event
pub record IsEmpty (out : Output) : Type 0 where
  pub bytes : out.reply.bytes.list ≡ []
  pub packets : out.reply.packets.list ≡ []
  pub report : out.report ≡ nothing_reported
  pub event : 24 ≤ out.reply.packets.spare
