-- A dump of an image that is there, or isn't.
use Rattle.std.proofs.Common.{◌≡◌, ◌==◌, ℕ, List, Bool, true, false, not, Some, refl}
use Rattle.tbl_model.specs.State.{State, Table}
use Rattle.tbl_model.specs.Effects.{answered}
use Rattle.tbl_model.specs.Validations.{judged_image}
use Rattle.tbl_model.specs.Dumps.{dump_file, written_effect, image_dump_effect}
use Rattle.tbl_registry.specs.Views.{has_image}
use Rattle.dump_requests.specs.Dumps.{missing_status}

by_not : (b c : Bool) → not b ≡ c → b ≡ not c
by_not true c is = rw (← is) refl
by_not false c is = rw (← is) refl

module _ (s : State) (file : List ℕ) (row : ℕ) (t : Table) where
  -- the image is there, and its file is written
  pub is_there : (active : Bool) → has_image t active ≡ true → image_dump_effect s file row t active ≡ written_effect s (Some row) file (dump_file s t.name (judged_image t active))
  is_there true is = rw (by_not (t.count == 0) true is) refl
  is_there false is = rw is refl

  -- it is missing
  pub not_there : (active : Bool) → has_image t active ≡ false → image_dump_effect s file row t active ≡ answered s (missing_status active) 0
  not_there true is = rw (by_not (t.count == 0) false is) refl
  not_there false is = rw is refl
