-- The images of a table are judged by its function.
use Rattle.std.specs.Prelude.{◌≡◌, ℕ, ◌+◌, List, [], ◌∷◌, ◌++◌, Bool, Option, Some, None, is_some}
use Rattle.std.specs.Option.{ForSome}
use Rattle.std.proofs.Common.{ℤ}
use Rattle.tbl_model.specs.State.{Table}
use Rattle.tbl_model.specs.Tables.{table_at}
use Rattle.tbl_model.specs.Pending.{is_pending, without_pair}
use Rattle.tbl_model.specs.Telemetry.{Question, finished}
use Rattle.tbl_model.specs.Validations.{judged_image, questions, marked}
use Rattle.tbl_model.specs.declared.telemetry.TelemetryEvent.{TelemetryEvent}
use Rattle.tbl_outside.specs.declared.validator.Validator.{Ghosts as ValidatorGhosts}
use Rattle.tbl_outside.specs.declared.validator.KitEntry.{KitEntry}
use Rattle.validation.specs.Asked.{WasAsked}
use Rattle.validation.specs.Kits.{MayAskEach}
use Rattle.validation.specs.Ready.{HaveFunctions, HaveLoads, ArePending}
use Rattle.request_effects.specs.Reports.{Reported}
use Rattle.desk.specs.Limits.{AreCounted}
use Rattle.desk.specs.declared.desk.Desk.{Desk}

-- what is pending can be done, and each function may be asked so many times
pub record IsReady {C : Type 0} (v : ValidatorGhosts C) (times : ℕ) (desk : Desk C) : Type 0 where
  pub counted : AreCounted desk.tables
  pub functions : HaveFunctions desk.tables desk.kit
  pub few : MayAskEach v.asked times desk.kit
  pub pending : ArePending desk.tables desk.pending
  pub loads : HaveLoads desk.tables

-- a validation came to its end with this verdict
abbrev pub concluded : {C : Type 0} → ℕ → Bool → ℤ → Desk C → Desk C
concluded row active verdict desk = record desk { tables = marked row active verdict desk.tables; pending = without_pair row active desk.pending }

-- the same by the kit that was asked, if there was a verdict
abbrev pub judged_by : {C : Type 0} → ℕ → Bool → Option ℤ → List (Option (KitEntry C)) → Desk C → Desk C
judged_by row active None kit desk = desk
judged_by row active (Some verdict) kit desk = record (concluded row active verdict desk) { kit = kit }

-- what is reported of it, and what was asked
abbrev pub judged_events : ℕ → Bool → Table → Option ℤ → List TelemetryEvent
judged_events row active t None = []
judged_events row active t (Some verdict) = finished row active t (judged_image t active) verdict ∷ []

abbrev pub judged_questions : Bool → Table → Option ℤ → List Question
judged_questions active t None = []
judged_questions active t (Some verdict) = questions t (judged_image t active)

-- the validation of an image was done if it was pending, and this is its verdict: what was left, reported and asked, and that each function
-- may be asked as often as before but for this once
pub record Judges {C : Type 0} (v : ValidatorGhosts C) (which : ℕ × Bool) (verdict : Option ℤ) (old new : Desk C) (before after : Reported) : Type 0 where
  pub told : is_some verdict ≡ is_pending which.0 which.1 old.pending
  pub desk : new ≡ judged_by which.0 which.1 verdict new.kit old
  pub report : ForSome (table_at old.tables which.0) (λ t. after ≡ record before { events = before.events ++ judged_events which.0 which.1 t verdict })
  pub asked : ForSome (table_at old.tables which.0) (λ t. WasAsked v.verdict v.asked old.kit new.kit (judged_questions which.1 t verdict) (verdict ∷ None ∷ []))
  pub ready : (times : ℕ) → IsReady v (times + 1) old → IsReady v times new
