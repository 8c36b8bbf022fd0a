-- What is found of a table by its full name.
use Rattle.std.specs.Prelude.{◌≡◌, ℕ, List, Option, Result, Ok, Err, IsSome}
use Rattle.std.specs.Option.{ForSome}
use Rattle.tbl_kinds.specs.Telemetry.{registry_record}
use Rattle.tbl_kinds.specs.declared.status.Status.{Status}
use Rattle.tbl_kinds.specs.declared.status.TheConstants.Status.{SUCCESS}
use Rattle.tbl_model.specs.State.{State, Tables}
use Rattle.tbl_model.specs.Tables.{table_at}
use Rattle.tbl_model.specs.Effects.{Effect, answered}
use Rattle.tbl_model.specs.Registry.{registry_row}

-- a request for the record of a table tells that of the table in this row
pub record FindsRow (tables : Tables) (apps : List (Option (List ℕ))) (means : State → Effect) (row : ℕ) : Type 0 where
  pub ok : (s : State) → s.tables ≡ tables → s.apps ≡ apps
      → ForSome (table_at tables row) (λ t. means s ≡ record (answered s SUCCESS 0) { bytes = registry_record (registry_row t) })
  pub table : IsSome (table_at tables row)

-- or it is refused
abbrev pub Finds : Tables → List (Option (List ℕ)) → (State → Effect) → Result ℕ Status → Type 0
Finds tables apps means (Ok row) = FindsRow tables apps means row
Finds tables apps means (Err status) = (s : State) → s.tables ≡ tables → s.apps ≡ apps → means s ≡ answered s status 0
