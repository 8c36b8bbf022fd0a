-- What holds between two requests of critical tables and the store: each has its block, and there are few enough of them.
use Rattle.std.specs.Prelude.{◌≡◌, ℕ, ◌≤◌, true, Some, IsSome}
use Rattle.tbl_kinds.specs.Blocks.{Stored, Store}
use Rattle.tbl_kinds.specs.StoreSteps.{same_block, stored_at}
use Rattle.tbl_model.specs.State.{State, Table}
use Rattle.tbl_model.specs.Tables.{table_at, is_critical, critical_count}
use Rattle.tbl_model.specs.CriticalTables.{critical_limit}
use Rattle.tbl_model.specs.Copies.{block_of}

-- no two blocks are of one kind and one name, be they open or doubtful: a boot may find a doubtful one open
abbrev pub AreSingle : Store → Type 0
AreSingle store = (m n : ℕ) (a b : Stored) → stored_at store m ≡ Some a → stored_at store n ≡ Some b → same_block a.block b.block ≡ true → m ≡ n

pub record AreBacked (s : State) : Type 0 where
  pub each : (row : ℕ) (t : Table) → table_at s.tables row ≡ Some t → is_critical t ≡ true → IsSome (block_of t s.store)
  pub few : critical_count s.tables ≤ critical_limit
  pub single : AreSingle s.store
