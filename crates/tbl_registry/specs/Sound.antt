-- What holds of all that the registry keeps.
use Rattle.std.specs.Prelude.{◌≡◌, ◌≤◌, ℕ, List, length, position, count_by, slice_index_or, Option, Some, None}
use Rattle.std.specs.Option.{ForSome}
use Rattle.tbl_model.specs.State.{Table}
use Rattle.tbl_model.specs.Tables.{uses_buffer}
use Rattle.tbl_model.specs.TableSteps.{has_name}
use Rattle.access_desc.specs.declared.handle_view.HandleView.{HandleView}
use Rattle.tbl_registry.specs.declared.tables.counts.Counts.{Counts}
use Rattle.tbl_registry.specs.Counts.{AreCounted}
use Rattle.tbl_registry.specs.Pins.{AtEachPlace, Leads}

-- each table is the one that is found under its name
abbrev pub AreNamed : List (Option Table) → Type 0
AreNamed rows = (row : ℕ) → ForSome (slice_index_or rows row None) (λ t. position (has_name t.name) rows ≡ Some row)

-- 128 rows, of which at most four use a shared working buffer
pub record IsSound (rows : List (Option Table)) (handles : List (Option HandleView)) : Type 0 where
  pub all_rows : length rows ≡ 128
  pub named : AreNamed rows
  pub leads : AtEachPlace (Leads rows) handles
  pub few : count_by uses_buffer rows ≤ 4

pub record IsKept (rows : List (Option Table)) (handles : List (Option HandleView)) (counts : Counts) : Type 0 where
  pub sound : IsSound rows handles
  pub counted : AreCounted rows counts
