-- How a service is started, and a stream over it.
use Rattle.std.specs.Prelude.{◌≡◌, ◌≤◌, ◌<◌, ℕ, ◌^◌, false, List, [], All, Option}
use Rattle.std.proofs.Common.{ℤ}
use Rattle.tbl_kinds.specs.Admitted.{Admitted}
use Rattle.tbl_kinds.specs.Places.{bank_size}
use Rattle.tbl_kinds.specs.StoreSteps.{Shows}
use Rattle.cds_layout.specs.Images.{store_of}
use Rattle.tbl_outside.specs.Bank.{LeavesOnly}
use Rattle.tbl_outside.specs.Counts.{Still}
use Rattle.tbl_outside.specs.declared.bank.Bank.{Ghosts}
use Rattle.tbl_outside.specs.declared.validator.KitEntry.{KitEntry}
use Rattle.tbl_outside.specs.declared.validator.Validator.{Ghosts as ValidatorGhosts}
use Rattle.tbl_core.specs.Service.{EngineView, IsAfter, StartCounted, core_of}
use Rattle.tbl_core.specs.declared.service.StartFault.{StartFault}
use Rattle.tbl_session.specs.Openings.{Opening}
use Rattle.tbl_session.specs.Session.{opening_of}
use Rattle.tbl_history.specs.Serving.{Serves}
use Rattle.tbl_stream.specs.Playing.{Streaming, IsLive}
use Rattle.tbl_stream.specs.declared.service.Service.{Service}
use Rattle.tbl_stream.specs.declared.standing.Standing.TheVariants.{Open}

-- A service can be started over this.
pub record MayStart {B C : Type 0} (g : Ghosts B) (v : ValidatorGhosts C) (service : Service B C) : Type 0 where
  -- the bank has room for the store
  pub room : bank_size ≤ g.size service.bank
  -- each validation function was asked fewer than 2^62 times
  pub asked : All (λ (e : KitEntry C). v.asked e.check < 2 ^ 62) service.kit.items

-- how it begins then, with these admitted spacecraft and processors
abbrev pub opening_by : {B C : Type 0} → Ghosts B → Service B C → Admitted → Opening B C
opening_by g service admit = opening_of g service.bank service.kit.items admit

-- since it was this bank, a reset leaves the blocks that this one shows
abbrev pub LeavesShown : {B : Type 0} → Ghosts B → B → B → Type 0
LeavesShown g bank bank_then = g.tells_moments → LeavesOnly g.clock g.left_since bank bank_then (λ image. Shows (store_of (g.now bank)) (store_of image))

-- No service began, by the cause, and this is the bank that is given back.
pub record FailsToStart {B : Type 0} (g : Ghosts B) (bank : B) (cause : StartFault) (back : B) : Type 0 where
  -- a reset leaves the blocks of the store at any moment
  pub crash : LeavesShown g bank back
  -- a boot that failed or was stopped is counted
  pub counted : StartCounted g bank back cause
  -- the bank still has room for the store
  pub room : bank_size ≤ g.size back

-- an engine at its start, over the bank of this opening
pub record Begins {B C : Type 0} (g : Ghosts B) (verdict : C → List ℕ → ℤ) (o : Opening B C) (engine : EngineView B C) : Type 0 where
  pub live : engine.state.ended ≡ false
  pub after : IsAfter [] engine
  pub serves : Serves g verdict o (core_of [] engine)
  -- nothing went wrong at the bank
  pub counts : Still g.faults g.stops o.bank engine.state.store.bank
  pub crash : LeavesShown g o.bank engine.state.store.bank

-- a stream at its start: nothing was fed, and its engine has played nothing
pub record IsFresh {B C : Type 0} (limit : Option ℕ) (stream : Streaming B C) : Type 0 where
  pub is_open : stream.standing ≡ Open
  pub rest : stream.rest ≡ []
  pub place : stream.played.place ≡ 0
  pub offset : stream.played.offset ≡ 0
  pub left : stream.played.left ≡ limit
  pub live : IsLive stream.played
  pub after : IsAfter [] stream.played.engine
