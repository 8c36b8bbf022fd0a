-- What a registration adds.
use Rattle.std.specs.Prelude.{◌≡◌, ◌≢◌, ◌<◌, ◌≤◌, ◌&&◌, ℕ, length, false, Option, None, Some, IsSome, IfSome, Result, Err, IfOk, OnOk, OnErr}
use Rattle.std.specs.Option.{ForSome}
use Rattle.tbl_kinds.specs.Free.{least_free}
use Rattle.tbl_kinds.specs.Limits.{table_limit}
use Rattle.tbl_model.specs.State.{Table, Tables}
use Rattle.tbl_model.specs.Tables.{has_option, option_bits}
use Rattle.tbl_model.specs.TableSteps.{new_table, with_first, added}
use Rattle.tbl_registry.specs.declared.row.NewTable.{NewTable}
use Rattle.tbl_registry.specs.declared.tables.AddFault.{AddFault}
use Rattle.tbl_registry.specs.declared.tables.AddFault.TheVariants.{RegistryFull, HandlesFull, Memory}

-- a table of 1 to 16,384 bytes, dump-only or with two buffers, whose first image has its size
pub record IsPlan (plan : NewTable) : Type 0 where
  pub some_bytes : 0 < plan.size
  pub within : plan.size ≤ table_limit
  pub options : (has_option 0x0002 (option_bits plan.flags) && has_option 0x0001 (option_bits plan.flags)) ≡ false
  pub first : IfSome plan.first (λ image. length image ≡ plan.size)

-- the table of this application that a plan makes, registered by this handle
abbrev pub planned : NewTable → ℕ → ℕ → Table
planned plan app handle = with_first plan.first (new_table plan.name app plan.size (option_bits plan.flags) plan.validator handle)

-- it goes into the least free row, and its owner gets the least free handle; if one is missing, nothing changes
pub record Adds (app : ℕ) (plan : NewTable) (old new : Tables) (result : Result ℕ AddFault) : Type 0 where
  pub row_free : OnOk result (IsSome (least_free old.rows))
  pub handle_free : IfOk result (λ handle. least_free old.handles ≡ Some handle)
  pub added : IfOk result (λ handle. ForSome (least_free old.rows) (λ row. new ≡ added row (planned plan app handle) old))
  pub no_row : result ≡ Err RegistryFull → least_free old.rows ≡ None
  pub row_first : result ≡ Err HandlesFull → IsSome (least_free old.rows)
  pub no_handle : result ≡ Err HandlesFull → least_free old.handles ≡ None
  pub memory : result ≢ Err Memory
  pub err : OnErr result (new ≡ old)
