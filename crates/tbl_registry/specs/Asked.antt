-- What calls ask of the table in a row.
use Rattle.std.specs.Prelude.{◌≡◌, ◌<◌, ◌≤◌, ◌+◌, ◌-◌, ◌^◌, ℕ, List, length, true, false, Option, None, IsSome}
use Rattle.std.specs.Option.{ForSome}
use Rattle.tbl_model.specs.State.{Tables}
use Rattle.tbl_model.specs.Tables.{table_at, in_use, is_dump_only, is_quiet}
use Rattle.tbl_model.specs.TableSteps.{locker}
use Rattle.tbl_model.specs.Refusals.{open_refusal}

abbrev pub HasTable : ℕ → Tables → Type 0
HasTable row tables = IsSome (table_at tables row)

-- no handle is in the way of a new image of it
abbrev pub IsUnlocked : ℕ → Tables → Type 0
IsUnlocked row tables = ForSome (table_at tables row) (λ t. locker tables row t ≡ None)

-- a further image of it can be counted
abbrev pub CanHaveMore : ℕ → Tables → Type 0
CanHaveMore row tables = ForSome (table_at tables row) (λ t. t.count < 2 ^ 32 - 1)

-- these bytes from the offset on are inside its images
abbrev pub IsInside : ℕ → ℕ → List ℕ → Tables → Type 0
IsInside row offset bytes tables = ForSome (table_at tables row) (λ t. offset + length bytes ≤ t.size)

-- it has an open load
pub record HasOpenLoad (row : ℕ) (tables : Tables) : Type 0 where
  pub table : HasTable row tables
  pub load : ForSome (table_at tables row) (λ t. IsSome t.load)

-- it has no open load, and the image is one of it
pub record TakesImage (row : ℕ) (image : List ℕ) (tables : Tables) : Type 0 where
  pub table : HasTable row tables
  pub no_load : ForSome (table_at tables row) (λ t. t.load ≡ None)
  pub size : ForSome (table_at tables row) (λ t. length image ≡ t.size)
  pub count : CanHaveMore row tables

-- it isn't dump-only, a load of it is open or may open, and the image is one of it
pub record TakesLoad (row : ℕ) (image : List ℕ) (tables : Tables) : Type 0 where
  pub table : HasTable row tables
  pub size : ForSome (table_at tables row) (λ t. length image ≡ t.size)
  pub loadable : ForSome (table_at tables row) (λ t. is_dump_only t ≡ false)
  pub free : ForSome (table_at tables row) (λ t. t.load ≡ None → open_refusal tables row t ≡ None)

-- it is dump-only, no dump of it is pending, and a shared working buffer is free
pub record TakesDump (row : ℕ) (tables : Tables) : Type 0 where
  pub table : HasTable row tables
  pub dump_only : ForSome (table_at tables row) (λ t. is_dump_only t ≡ true)
  pub quiet : ForSome (table_at tables row) (λ t. is_quiet t.dump ≡ true)
  pub free : length (in_use tables) < 4
