-- The registration of a critical table: its block in the store is there, with the image that the table begins with, or one is made.
use Rattle.std.specs.Prelude.{ℕ, List, [], ◌∷◌, not, nat_le, if◌then◌else◌, Option, is_some, unwrap_or, option_and_then}
use Rattle.tbl_kinds.specs.StoreSteps.{open_of, stored_at, has_room}
use Rattle.tbl_kinds.specs.StoreCalls.{restore}
use Rattle.tbl_kinds.specs.Notes.{restored_image}
use Rattle.tbl_model.specs.State.{State, Table}
use Rattle.tbl_model.specs.Tables.{critical_count}
use Rattle.tbl_model.specs.TableSteps.{uncritical, with_first, added}
use Rattle.tbl_model.specs.Effects.{Effect, answered}
use Rattle.tbl_model.specs.StoreUse.{then_call}
use Rattle.tbl_model.specs.AppBlocks.{any_of, renewal, has_size}
use Rattle.tbl_kinds.specs.declared.block.BlockKind.TheVariants as kind
use Rattle.tbl_kinds.specs.declared.note.BankNote.{BankNote}
use Rattle.tbl_kinds.specs.declared.status.Status.{Status}
use Rattle.tbl_kinds.specs.declared.status.TheConstants.Status.{SUCCESS, INFO_RECOVERED_TBL, WARN_NOT_CRITICAL}

-- so many tables can be critical
abbrev pub critical_limit : ℕ
critical_limit = 32

-- ---- what is registered

-- a new table in this row; the detail is the handle of its registration
abbrev pub registered : State → ℕ → Table → Status → Effect
registered s row t status = record (answered s status t.handle) { next = record s { tables = added row t s.tables } }

-- it isn't critical
abbrev pub not_kept : State → ℕ → Table → Effect
not_kept s row t = registered s row (uncritical t) WARN_NOT_CRITICAL

-- it begins with the image that its block gave, or with none where the block is torn
abbrev pub recovered : State → ℕ → Table → Option (List ℕ) → Effect
recovered s row t image = registered s row (with_first image t) (if is_some image then INFO_RECOVERED_TBL else SUCCESS)

-- ---- its block

-- an effect in the place of one whose calls broke off: with these calls, and with the blocks that they left
abbrev pub instead : Effect → Effect → Effect
instead e left = record e { calls = left.calls; next = record e.next { store = left.next.store } }

-- the open block of its name and size is restored. One of another size is deleted, and a new one is made, for which there has to
-- be room. Where the bank fails in it, the table isn't critical
abbrev pub kept_effect : State → ℕ → Table → BankNote → Option ℕ → Effect
kept_effect s row t note old =
    if has_size t.size (option_and_then (stored_at s.store) old)
    then then_call (restore (unwrap_or old 0) (restored_image note) ∷ []) note (instead (not_kept s row t)) (recovered s row t (restored_image note))
    else (if not (has_room t.size (any_of kind.Table t.name s.store) s.store) then not_kept s row t
    else then_call (renewal kind.Table t.name t.size old) note (instead (not_kept s row t)) (registered s row t SUCCESS))

-- where as many are critical as can be, the store isn't called
abbrev pub critical_effect : State → ℕ → Table → BankNote → Effect
critical_effect s row t note =
    if nat_le critical_limit (critical_count s.tables) then not_kept s row t
    else kept_effect s row t note (open_of kind.Table t.name s.store)
