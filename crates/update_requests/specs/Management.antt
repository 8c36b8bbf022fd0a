-- All that is pending for a table, which its owner has done.
use Rattle.std.specs.Prelude.{◌≡◌, ℕ, ◌+◌, ◌≤◌, ◌==◌, List, [], ◌∷◌, Bool, if◌then◌else◌, Option, Some, None, IsSome}
use Rattle.std.specs.Option.{ForSome}
use Rattle.std.proofs.Common.{ℤ}
use Rattle.tbl_kinds.specs.declared.entry.Answer.{Answer}
use Rattle.tbl_kinds.specs.declared.status.TheConstants.Status.{SUCCESS, INFO_UPDATED, INFO_TABLE_LOCKED}
use Rattle.tbl_model.specs.Tables.{table_at}
use Rattle.tbl_model.specs.Management.{manage_of}
use Rattle.request_effects.specs.Reports.{nothing_reported}
use Rattle.tbl_outside.specs.declared.validator.Validator.{Ghosts as ValidatorGhosts}
use Rattle.desk.specs.Desk.{IsOrderly, Output}
use Rattle.desk.specs.Requests.{Meaning, for_row}
use Rattle.desk.specs.Rooms.{copy_room, manage_room}
use Rattle.desk.specs.declared.desk.Desk.{Desk}

abbrev pub management : ℕ → Meaning
management row = for_row row (λ s given t. manage_of s given row t) 3 (λ tables. copy_room (table_at tables row))

-- the table is there, nothing is answered yet, and there is room for the byte of the reply, and for all that is reported
pub record HasPlace {C : Type 0} (v : ValidatorGhosts C) (row : ℕ) (desk : Desk C) (out : Output) : Type 0 where
  pub table : IsSome (table_at desk.tables row)
  pub orderly : IsOrderly v desk
  pub bytes : out.reply.bytes.list ≡ []
  pub packets : out.reply.packets.list ≡ []
  pub report : out.report ≡ nothing_reported
  pub byte : 1 ≤ out.reply.bytes.spare
  pub room : ForSome (table_at desk.tables row) (λ t. manage_room desk.pending row t ≤ out.reply.packets.spare)

-- the verdicts that were given, in order
abbrev pub verdicts_of : Option ℤ → Option ℤ → List (Option ℤ)
verdicts_of None second = second ∷ None ∷ []
verdicts_of (Some first) second = Some first ∷ second ∷ []

-- a bit for each thing that was done
abbrev pub bits_of : Bool → Bool → Bool → Bool → ℕ
bits_of first second updated filled = (if first then 1 else 0) + (if second then 2 else 0) + (if updated then 4 else 0) + (if filled then 8 else 0)

-- by what was in the way of the update
abbrev pub answer_by : Option Answer → Answer
answer_by None = record { status = INFO_UPDATED; detail = 0 }
answer_by (Some answer) = if answer.status.0 == INFO_TABLE_LOCKED.0 then answer else record { status = SUCCESS; detail = 0 }
