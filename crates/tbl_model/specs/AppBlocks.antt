-- Blocks of the store: those that applications register, copy into, restore and delete, and those of tables that the ground deletes.
use Rattle.std.specs.Prelude.{ℕ, ◌==◌, List, [], ◌∷◌, ◌++◌, length, Bool, false, not, ◌&&◌, ◌||◌, nat_lt, if◌then◌else◌, Option, Some, None, unwrap_or, option_and_then}
use Rattle.std.specs.List.{starts_with}
use Rattle.std.specs.Option.{option_or}
use Rattle.tbl_kinds.specs.Names.{is_name}
use Rattle.tbl_kinds.specs.Limits.{table_limit}
use Rattle.tbl_kinds.specs.Free.{least_free}
use Rattle.tbl_kinds.specs.Blocks.{Stored, Store}
use Rattle.tbl_kinds.specs.StoreSteps.{same_kind, open_of, doubtful_of, stored_at, freed, closed, has_room}
use Rattle.tbl_kinds.specs.StoreCalls.{StoreCall, reserve, copy, restore, delete}
use Rattle.tbl_kinds.specs.Notes.{restored_image}
use Rattle.tbl_model.specs.State.{State}
use Rattle.tbl_model.specs.TableSteps.{find}
use Rattle.tbl_model.specs.Effects.{Effect, answered, named}
use Rattle.tbl_model.specs.Subjects.{if_running}
use Rattle.tbl_model.specs.Applications.{full_name}
use Rattle.tbl_model.specs.StoreUse.{then_call}
use Rattle.tbl_kinds.specs.declared.block.BlockKind.{BlockKind}
use Rattle.tbl_kinds.specs.declared.block.BlockKind.TheVariants.{Table, App}
use Rattle.tbl_kinds.specs.declared.note.BankNote.{BankNote}
use Rattle.tbl_kinds.specs.declared.status.TheConstants.Status.{SUCCESS, INFO_CDS_EXISTS, ERR_INVALID_NAME, ERR_INVALID_SIZE, ERR_IMAGE_SIZE, ERR_CDS_NOT_FOUND, ERR_TABLE_ACTIVE, ERR_CDS_NO_ROOM, ERR_CDS_FAULT, ERR_CDS_TORN}

-- the bank failed: what the effect answers is the fault
abbrev pub faulted : Effect → Effect
faulted e = record e { status = ERR_CDS_FAULT; detail = 0; bytes = [] }

-- the block of this kind and name, open or doubtful
abbrev pub any_of : BlockKind → List ℕ → Store → Option ℕ
any_of kind name store = option_or (open_of kind name store) (doubtful_of kind name store)

-- ---- a block is registered

-- an open block of this name is deleted first, which has another size
abbrev pub renewal : BlockKind → List ℕ → ℕ → Option ℕ → List StoreCall
renewal kind name size None = reserve kind name size ∷ []
renewal kind name size (Some slot) = delete slot ∷ reserve kind name size ∷ []

-- the slot that the new one takes
abbrev pub new_slot : BlockKind → List ℕ → Option ℕ → Store → ℕ
new_slot kind name old store = unwrap_or (least_free (closed kind name (freed old store))) 0

abbrev pub has_size : ℕ → Option Stored → Bool
has_size size None = false
has_size size (Some b) = b.block.size == size

abbrev pub block_effect : State → List ℕ → ℕ → BankNote → Option ℕ → Effect
block_effect s name size note old =
    if has_size size (option_and_then (stored_at s.store) old) then answered s INFO_CDS_EXISTS (unwrap_or old 0)
    else (if not (has_room size (any_of App name s.store) s.store) then answered s ERR_CDS_NO_ROOM 0
    else then_call (renewal App name size old) note faulted (answered s SUCCESS (new_slot App name old s.store)))

unfoldable pub cds_register_effect : State → ℕ → List ℕ → ℕ → BankNote → Effect
cds_register_effect s app short size note = if_running s app (λ app_name.
    if not (is_name short) then answered s ERR_INVALID_NAME 0
    else (if size == 0 || nat_lt table_limit size then answered s ERR_INVALID_SIZE 0
    else block_effect s (full_name app_name short) size note (open_of App (full_name app_name short) s.store)))

-- ---- an application's own blocks

-- the name begins with the application's and a dot
abbrev pub is_named_by : List ℕ → List ℕ → Bool
is_named_by app_name name = starts_with (λ a b. a == b) name (app_name ++ 46 ∷ [])

-- an open block of an application of this name
abbrev pub is_own : List ℕ → Stored → Bool
is_own app_name b = same_kind b.block.kind App && not b.doubtful && is_named_by app_name b.block.name

abbrev pub by_block : State → List ℕ → Option Stored → (Stored → Effect) → Effect
by_block s app_name None effect = answered s ERR_CDS_NOT_FOUND 0
by_block s app_name (Some b) effect = if not (is_own app_name b) then answered s ERR_CDS_NOT_FOUND 0 else effect b

-- what is done with the block in this slot, which is the application's own
abbrev pub if_block : State → ℕ → ℕ → (Stored → Effect) → Effect
if_block s app slot effect = if_running s app (λ app_name. by_block s app_name (stored_at s.store slot) effect)

unfoldable pub cds_copy_effect : State → ℕ → ℕ → List ℕ → BankNote → Effect
cds_copy_effect s app slot image note = if_block s app slot (λ b.
    if not (length image == b.block.size) then answered s ERR_IMAGE_SIZE 0
    else then_call (copy slot image ∷ []) note faulted (answered s SUCCESS 0))

-- what a restore gave: the image, or none of a torn block
abbrev pub restore_answer : State → ℕ → Option (List ℕ) → Effect
restore_answer s torn None = answered s ERR_CDS_TORN torn
restore_answer s torn (Some image) = record (answered s SUCCESS 0) { bytes = image }

unfoldable pub cds_restore_effect : State → ℕ → ℕ → BankNote → Effect
cds_restore_effect s app slot note = if_block s app slot (λ b. then_call (restore slot (restored_image note) ∷ []) note faulted (restore_answer s note.torn (restored_image note)))

unfoldable pub cds_delete_effect : State → ℕ → ℕ → BankNote → Effect
cds_delete_effect s app slot note = if_block s app slot (λ b. then_call (delete slot ∷ []) note faulted (answered s SUCCESS 0))

-- ---- a table's block

abbrev pub delete_table_block : State → BankNote → Option ℕ → Option ℕ → Effect
delete_table_block s note None row = answered s ERR_CDS_NOT_FOUND 0
delete_table_block s note (Some slot) (Some row) = answered s ERR_TABLE_ACTIVE 0
delete_table_block s note (Some slot) None = then_call (delete slot ∷ []) note faulted (answered s SUCCESS 0)

-- the ground deletes the block of a table that isn't registered; the command is about the table of this name, if there is one
unfoldable pub delete_cds_effect : State → List ℕ → BankNote → Effect
delete_cds_effect s name note = record (delete_table_block s note (any_of Table name s.store) (find name s.tables)) { table = named name (find name s.tables) }
