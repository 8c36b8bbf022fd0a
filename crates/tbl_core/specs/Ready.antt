-- What holds of the core between two requests, what each request may rely on, and when there is room for one.
use Rattle.std.specs.Prelude.{◌≡◌, ◌⊎◌, ℕ, ◌+◌, ◌*◌, ◌^◌, ◌-◌, ◌<◌, ◌≤◌, List, length, true, false, not, Option, Some}
use Rattle.std.specs.Option.{ForSome}
use Rattle.tbl_model.specs.State.{Handle}
use Rattle.tbl_model.specs.Fit.{AreFit}
use Rattle.tbl_outside.specs.declared.validator.KitEntry.{KitEntry}
use Rattle.validation.specs.Kits.{entry_at, MayAskEach}
use Rattle.validation.specs.Ready.{ArePending, HaveFunctions, HaveLoads}
use Rattle.tbl_kinds.specs.declared.entry.Entry.{Entry}
use Rattle.tbl_kinds.specs.declared.request.Request.{Request}
use Rattle.tbl_core.specs.Numbers.{AreCounts}
use Rattle.tbl_core.specs.Pins.{handle_limit, place_in, HaveImages, IsGetAt}
use Rattle.tbl_model.specs.TableSteps.{handle_at}
use Rattle.tbl_registry.specs.Images.{most_images}
use Rattle.tbl_kinds.specs.declared.request.Request.TheVariants as ask
use Rattle.tbl_kinds.specs.declared.request.ResetKind.{ResetKind}
use Rattle.desk.specs.Limits.{AreCounted, AreSendable}
use Rattle.tbl_outside.specs.declared.validator.Validator.{Ghosts as ValidatorGhosts}
use Rattle.tbl_core.specs.Views.{PartsView, EngineView}
use Rattle.tbl_core.specs.Standing.{state_of}

-- each function of the kit was asked fewer times than this
abbrev pub AskedBelow : {C : Type 0} → (C → ℕ) → ℕ → List (Option (KitEntry C)) → Type 0
AskedBelow asked most kit = (number : ℕ) → ForSome (entry_at kit number) (λ entry. asked entry.check < most)

-- how many requests an engine plays: a million a second for seventy thousand years
abbrev pub engine_limit : ℕ
engine_limit = 2 ^ 61 - 1

-- how many images a table may have had: its count doesn't wrap in the request after
abbrev pub image_limit : ℕ
image_limit = 4294967293

abbrev pub IsReset : Request → Type 0
IsReset request = (kind : ResetKind) × (request ≡ ask.Reset kind)

-- the engine may play this request; a reset may come later than others, since it leaves no tables
pub record HasRoom {B C : Type 0} (engine : EngineView B C) (request : Request) : Type 0 where
  pub requests : engine.played < engine_limit
  pub images : (engine.images < image_limit) ⊎ ((engine.images ≡ image_limit) × IsReset request)

-- why it may not: it has met this limit
abbrev pub IsLimit : {B C : Type 0} → EngineView B C → ℕ → Type 0
IsLimit engine limit = ((limit ≡ engine_limit) × (engine_limit ≤ engine.played)) ⊎ ((limit ≡ image_limit) × (image_limit ≤ engine.images))

-- no table has had more images than the bound says, what is pending can be done, the store was booted unless the service has ended,
-- and no function was asked more than twice for each request since it was given. Each pin is of an image that is there
pub record IsReady {B C : Type 0} (v : ValidatorGhosts C) (engine : EngineView B C) : Type 0 where
  pub fit : AreFit engine.images (state_of engine.state)
  pub few : engine.images ≤ engine.played
  pub booted : engine.state.store.booted ≡ not engine.state.ended
  pub kit : AskedBelow v.asked (2 ^ 62 + 2 * engine.played) engine.state.kit
  pub images : HaveImages engine.state.tables
  pub numbers : AreCounts engine.counts
  pub places : length engine.gets ≡ handle_limit

-- the engine with the bound on images computed again
abbrev pub recounted : {B C : Type 0} → EngineView B C → EngineView B C
recounted engine = record engine { images = most_images engine.state.tables }

-- the engine has played just this: so many requests, and each pin is by the call at the place that is kept for its handle
pub record IsAfter {B C : Type 0} (past : List Entry) (engine : EngineView B C) : Type 0 where
  pub played : length past ≡ engine.played
  pub gets : (handle : ℕ) (h : Handle) (p : ℕ) → handle < handle_limit → handle_at engine.state.tables handle ≡ Some h → h.pin ≡ Some p → IsGetAt past (place_in engine.gets handle) handle

-- what each request may rely on
pub record MayPlay {B C : Type 0} (v : ValidatorGhosts C) (held : PartsView B C) : Type 0 where
  pub booted : held.store.booted ≡ true
  pub counted : AreCounted held.tables
  pub notices : AreSendable held.tables
  pub functions : HaveFunctions held.tables held.kit
  pub few : MayAskEach v.asked 2 held.kit
  pub pending : ArePending held.tables held.pending
  pub loads : HaveLoads held.tables

-- the parts are ready for a request: it may rely on them so, their state is fit, and the service hasn't ended
pub record AreReady {B C : Type 0} (v : ValidatorGhosts C) (held : PartsView B C) : Type 0 where
  pub relied : MayPlay v held
  pub fit : (so_many : ℕ) × AreFit so_many (state_of held)
  pub live : held.ended ≡ false
