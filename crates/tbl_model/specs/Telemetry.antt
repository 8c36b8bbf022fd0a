-- What a request does that telemetry tells of, and what it asks of validation functions.
use Rattle.std.specs.Prelude.{ℕ, ◌+◌, ◌==◌, List, Bool}
use Rattle.std.specs.Int.{w32, cast_unsigned}
use Rattle.std.proofs.Common.{ℤ}
use Rattle.tbl_kinds.specs.Check.{check16}
use Rattle.tbl_model.specs.State.{Table}
use Rattle.tbl_model.specs.declared.telemetry.TelemetryEvent.{TelemetryEvent}
use Rattle.tbl_model.specs.declared.telemetry.TelemetryEvent.TheVariants.{Activated, Finished}

-- ---- verdicts

-- a verdict as a detail
abbrev pub verdict_bits : ℤ → ℕ
verdict_bits verdict = cast_unsigned w32 verdict

abbrev pub is_good : ℤ → Bool
is_good verdict = verdict_bits verdict == 0

-- what a validation function is asked: its number, and the image
pub record Question : Type 0 where
  pub number : ℕ
  pub image : List ℕ

-- ---- events

-- an image goes active, as the next one of the table in this row
abbrev pub activated : ℕ → Table → TelemetryEvent
activated row t = Activated row (t.count + 1) t.name

-- a validation of this image of the table in this row came to its end
abbrev pub finished : ℕ → Bool → Table → List ℕ → ℤ → TelemetryEvent
finished row active t image verdict = Finished row active (check16 image) verdict t.name
