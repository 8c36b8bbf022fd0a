-- No image goes active that its table's validation function didn't answer for.
use Rattle.std.specs.Prelude.{◌≡◌, ◌<◌, ◌⊎◌, ℕ, ◌==◌, List, [], ◌∷◌, ◌++◌, length, true, if◌then◌else◌, Option, Some, None, is_some, slice_get, slice_index_or}
use Rattle.std.specs.List.{list_all}
use Rattle.std.specs.Option.{option_and_then}
use Rattle.std.proofs.Common.{ℤ}
use Rattle.tbl_model.specs.State.{State, Table}
use Rattle.tbl_model.specs.Tables.{table_at}
use Rattle.tbl_model.specs.Telemetry.{is_good}
use Rattle.tbl_model.specs.Effects.{Effect}
use Rattle.tbl_model.specs.Counts.{Told}
use Rattle.tbl_model.specs.History.{begins_at, run_from, effect_in, told}
use Rattle.tbl_model.specs.declared.telemetry.TelemetryEvent.{TelemetryEvent}
use Rattle.tbl_model.specs.declared.telemetry.TelemetryEvent.TheVariants.{Finished, Judged, Activated}
use Rattle.tbl_kinds.specs.declared.entry.Entry.{Entry}

-- ---- what an entry tells

-- the table that stood in this row before the entry
abbrev pub table_before : Told → ℕ → Option Table
table_before t row = table_at t.before.tables row

-- the number of the validation function that it has
abbrev pub function_before : Told → ℕ → Option ℕ
function_before t row = option_and_then (λ (table : Table). table.validator) (table_before t row)

-- an event of the entry, by its place, with the image that it is about
pub record Tells (t : Told) (place : ℕ) (event : TelemetryEvent) (image : List ℕ) : Type 0 where
  pub event_is : slice_get t.effect.events place ≡ Some event
  pub image_is : slice_index_or t.effect.images place None ≡ Some image

-- the verdict that an event tells for the table in this row: of a validation that came to its end, or of a load
abbrev pub verdict_for : ℕ → TelemetryEvent → Option ℤ
verdict_for row (Finished r active check verdict name) = if r == row then Some verdict else None
verdict_for row (Judged r verdict) = if r == row then Some verdict else None
verdict_for row _ = None

-- ---- vouched histories

-- one of the entry's first so many events tells verdict 0 on this image for the table in this row
pub record Passes (t : Told) (row : ℕ) (image : List ℕ) (most : ℕ) : Type 0 where
  pub place : ℕ
  pub first : place < most
  pub event : TelemetryEvent
  pub tells : Tells t place event image
  pub verdict : ℤ
  pub is : verdict_for row event ≡ Some verdict
  pub good : is_good verdict ≡ true

-- one of the earlier entries does, and the table has been registered ever since
pub record PassedBefore (earlier : List Told) (t : Told) (row : ℕ) (image : List ℕ) : Type 0 where
  pub sooner : List Told
  pub one : Told
  pub between : List Told
  pub split : earlier ≡ sooner ++ one ∷ between
  pub passes : Passes one row image (length one.effect.events)
  pub registered : list_all (λ w. is_some (table_before w row)) (between ++ t ∷ []) ≡ true

-- an image that goes active on a table with a function has passed it before, in the same entry or since the registration
abbrev pub IsVouchedEntry : List Told → Told → Type 0
IsVouchedEntry earlier t = (place row count : ℕ) (name image : List ℕ) → Tells t place (Activated row count name) image → is_some (function_before t row) ≡ true
    → Passes t row image place ⊎ PassedBefore earlier t row image

-- this holds of each entry of the history
abbrev pub IsVouched : State → List Entry → Type 0
IsVouched opening entries = (before after : List Entry) (e : Entry) (effect : Effect) → entries ≡ before ++ e ∷ after → effect_in (run_from (begins_at opening) before) e ≡ Some effect
    → IsVouchedEntry (run_from (begins_at opening) before).past (told (run_from (begins_at opening) before).state e.actor e.request effect)

-- ---- verdicts

-- each verdict that the entry tells of a table with a function is the one that this function gives on the image
abbrev pub KeepsTo : (ℕ → List ℕ → ℤ) → Told → Type 0
KeepsTo verdict t = (place row number : ℕ) (event : TelemetryEvent) (image : List ℕ) (v : ℤ) → Tells t place event image → verdict_for row event ≡ Some v → function_before t row ≡ Some number → v ≡ verdict number image
