-- What is counted over all tables, as they change.
use Rattle.std.specs.Prelude.{◌≡◌, ◌<◌, ◌≤◌, ℕ, ◌+◌, ◌-◌, List, Bool, if◌then◌else◌, count_by, is_some, Option, Some}
use Rattle.tbl_model.specs.State.{Table}
use Rattle.tbl_model.specs.Tables.{has_load, uses_buffer}
use Rattle.tbl_registry.specs.declared.tables.counts.Counts.{Counts}

abbrev pub one_if : Bool → ℕ
one_if b = if b then 1 else 0

-- so many tables are registered, so many of them have an open load, and so many use a shared working buffer
pub record AreCounted (rows : List (Option Table)) (counts : Counts) : Type 0 where
  pub tables : counts.tables ≡ count_by is_some rows
  pub loads : counts.loads ≡ count_by has_load rows
  pub users : counts.users ≡ count_by uses_buffer rows

-- with a table more, and with a table less
abbrev pub counted_with : Table → Counts → Counts
counted_with t counts = record { tables = counts.tables + 1; loads = counts.loads + one_if (is_some t.load); users = counts.users + one_if (uses_buffer (Some t)) }

abbrev pub counted_without : Table → Counts → Counts
counted_without t counts = record { tables = counts.tables - 1; loads = counts.loads - one_if (is_some t.load); users = counts.users - one_if (uses_buffer (Some t)) }

-- a table more can be counted
pub record CanCount (counts : Counts) : Type 0 where
  pub tables : counts.tables ≤ 128
  pub loads : counts.loads ≤ 128
  pub users : counts.users ≤ 128

-- this table is counted
pub record IsCounted (t : Table) (counts : Counts) : Type 0 where
  pub tables : 0 < counts.tables
  pub loads : one_if (is_some t.load) ≤ counts.loads
  pub users : one_if (uses_buffer (Some t)) ≤ counts.users
