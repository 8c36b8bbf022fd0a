-- Images of critical tables that go active, which are copied to the store.
use Rattle.std.specs.Prelude.{ℕ, ◌-◌, List, [], ◌∷◌, ◌++◌, length, Bool, true, false, if◌then◌else◌, Option, Some, None, option_and_then, slice_get}
use Rattle.tbl_kinds.specs.Blocks.{Store}
use Rattle.tbl_kinds.specs.StoreSteps.{open_of, stored_at}
use Rattle.tbl_kinds.specs.StoreCalls.{copy}
use Rattle.tbl_model.specs.State.{Table}
use Rattle.tbl_model.specs.Tables.{table_at, is_critical}
use Rattle.tbl_model.specs.Effects.{Effect}
use Rattle.tbl_model.specs.StoreUse.{then_call}
use Rattle.tbl_model.specs.AppBlocks.{has_size}
use Rattle.tbl_model.specs.declared.telemetry.TelemetryEvent.{TelemetryEvent}
use Rattle.tbl_model.specs.declared.telemetry.TelemetryEvent.TheVariants.{Activated, CopyFailed}
use Rattle.tbl_kinds.specs.declared.block.BlockKind.TheVariants as kind
use Rattle.tbl_kinds.specs.declared.note.BankNote.{BankNote}

-- an image went active by it: that is the last thing that it did
abbrev pub is_activation : Option TelemetryEvent → Bool
is_activation None = false
is_activation (Some (Activated row count name)) = true
is_activation (Some event) = false

abbrev pub went_active : Effect → Bool
went_active e = is_activation (slice_get e.events (length e.events - 1))

-- the table's block: the open one of its name, where it has its size
abbrev pub block_of : Table → Store → Option ℕ
block_of t store = if has_size t.size (option_and_then (stored_at store) (open_of kind.Table t.name store)) then open_of kind.Table t.name store else None

-- the bank failed: that is told, and the image is active all the same
abbrev pub copy_failed : ℕ → ℕ → Effect → Effect
copy_failed row slot e = record e { events = e.events ++ CopyFailed row slot ∷ []; images = e.images ++ None ∷ [] }

abbrev pub copied_to : ℕ → BankNote → Effect → Option ℕ → Option (List ℕ) → Effect
copied_to row note e None image = e
copied_to row note e (Some slot) None = e
copied_to row note e (Some slot) (Some image) = then_call (copy slot image ∷ []) note (copy_failed row slot) e

-- if the table is critical, its last image goes into its block
abbrev pub copied_of : ℕ → BankNote → Effect → Option Table → Effect
copied_of row note e None = e
copied_of row note e (Some t) = if is_critical t then copied_to row note e (block_of t e.next.store) t.last else e

-- after what a request did to the table in this row: an image that went active is copied
abbrev pub then_copy : ℕ → BankNote → Effect → Effect
then_copy row note e = if went_active e then copied_of row note e (table_at e.next.tables row) else e
