-- A table that was registered as a critical one, and isn't critical any more.
use Rattle.std.proofs.Common.{◌≡◌, ◌<◌, ℕ, length, Some, None, refl}
use Rattle.std.proofs.lemmas.List.{get_or-set_same, set-set}
use Rattle.tbl_model.specs.State.{Table, Tables}
use Rattle.tbl_model.specs.Tables.{table_at}
use Rattle.tbl_model.specs.TableSteps.{added, uncritical, not_critical}

module _ (row : ℕ) (t : Table) (tables : Tables) (within : row < length tables.rows) where
  pub added_there : table_at (added row t tables) row ≡ Some t
  added_there = get_or-set_same tables.rows row (Some t) None within

  pub uncritical_added : not_critical row (added row t tables) ≡ added row (uncritical t) tables
  uncritical_added = rw (added_there, set-set tables.rows row (Some t) (Some (uncritical t))) refl
