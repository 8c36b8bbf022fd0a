-- What holds of the service's state between two requests, table by table.
use Rattle.std.specs.Prelude.{◌≡◌, ℕ, ◌≤◌, ◌<◌, List, length, Bool, true, false, Option, Some, None, IsSome, IfSome, slice_index_or}
use Rattle.tbl_model.specs.State.{State, Table, Handle}
use Rattle.tbl_model.specs.Tables.{table_at}
use Rattle.tbl_model.specs.TableSteps.{is_checked}
use Rattle.tbl_model.specs.Pending.{is_pending}
use Rattle.tbl_model.specs.declared.telemetry.Notice.{Notice}

-- the image that is to be judged is there: the last one, or that of an open load whose activation isn't requested, as another
-- verdict could take the mark from a load that is about to go active
abbrev pub HasImage : Table → Bool → Type 0
HasImage t true = 0 < t.count
HasImage t false = IsSome t.load × (t.activation ≡ false)

-- a validation of this image of the table can be done: the table has a function, and the image is there
abbrev pub CanValidate : Table → Bool → Type 0
CanValidate t active = IsSome t.validator × HasImage t active

-- whose validation function stands under this number
abbrev pub owner_at : List (Option ℕ) → ℕ → Option ℕ
owner_at kit number = slice_index_or kit number None

-- the handle that the table's registration gave is its owner's, and leads to it
pub record IsRegistered (handles : List (Option Handle)) (row : ℕ) (number owner : ℕ) : Type 0 where
  pub handle : Handle
  pub place : slice_index_or handles number None ≡ Some handle
  pub app : handle.app ≡ owner
  pub leads : handle.row ≡ Some row

-- a function code of a command has seven bits
abbrev pub HasCode : Notice → Type 0
HasCode notice = notice.code < 128

-- the table in this row has had so many images at most, its function stands in the kit and is its owner's, its notice can be
-- sent, a load that is about to go active is validated, and its pending validations can be done
pub record IsFit (most : ℕ) (kit : List (Option ℕ)) (pending : List (ℕ × Bool)) (handles : List (Option Handle)) (row : ℕ) (t : Table) : Type 0 where
  pub few : t.count ≤ most
  pub registered : IsRegistered handles row t.handle t.owner
  pub function : IfSome t.validator (λ number. owner_at kit number ≡ Some t.owner)
  pub notice : IfSome t.notice HasCode
  pub checked : t.activation ≡ true → is_checked t ≡ true
  pub pends : (active : Bool) → is_pending row active pending ≡ true → CanValidate t active

-- and where no table is, nothing is pending
abbrev pub FitAt : ℕ → List (Option ℕ) → List (ℕ × Bool) → List (Option Handle) → ℕ → Option Table → Type 0
FitAt most kit pending handles row None = (active : Bool) → is_pending row active pending ≡ false
FitAt most kit pending handles row (Some t) = IsFit most kit pending handles row t

pub record AreFit (most : ℕ) (s : State) : Type 0 where
  pub each : (row : ℕ) → FitAt most s.kit s.pending s.tables.handles row (table_at s.tables row)
  pub few_pending : length s.pending ≤ 10
