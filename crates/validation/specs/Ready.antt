-- What holds of the pending validations and of the tables' validation functions, so that each that is pending can be done.
use Rattle.std.specs.Prelude.{◌≡◌, ℕ, List, Bool, true, Option, IsSome}
use Rattle.std.specs.Option.{ForSome, option_map}
use Rattle.tbl_model.specs.State.{Table, Tables}
use Rattle.tbl_model.specs.Tables.{table_at}
use Rattle.tbl_model.specs.Pending.{is_pending}
use Rattle.tbl_model.specs.Fit.{CanValidate}
use Rattle.tbl_outside.specs.declared.validator.KitEntry.{KitEntry}
use Rattle.validation.specs.Kits.{entry_at}

-- a validation of this image of the table in this row can be done
abbrev pub CanBeJudged : Tables → ℕ → Bool → Type 0
CanBeJudged tables row active = IsSome (table_at tables row) × ForSome (table_at tables row) (λ t. CanValidate t active)

-- each of these is a validation that can be done
abbrev pub ArePending : Tables → List (ℕ × Bool) → Type 0
ArePending tables pending = (row : ℕ) (active : Bool) → is_pending row active pending ≡ true → CanBeJudged tables row active

-- the validation function of each table is in the kit
abbrev pub HaveFunctions : {C : Type 0} → Tables → List (Option (KitEntry C)) → Type 0
HaveFunctions tables kit = (row : ℕ) → ForSome (table_at tables row) (λ t. ForSome t.validator (λ number. IsSome (entry_at kit number)))

-- if the activation of a load is requested, that load is open
abbrev pub HasItsLoad : Table → Type 0
HasItsLoad t = t.activation ≡ true → IsSome t.load

abbrev pub HaveLoads : Tables → Type 0
HaveLoads tables = (row : ℕ) → ForSome (table_at tables row) HasItsLoad

-- the tables are in the same rows, with the same functions
abbrev pub HaveSameFunctions : Tables → Tables → Type 0
HaveSameFunctions old new = (row : ℕ) → option_map (λ (t : Table). t.validator) (table_at new row) ≡ option_map (λ (t : Table). t.validator) (table_at old row)
