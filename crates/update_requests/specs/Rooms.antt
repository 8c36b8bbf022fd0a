-- Where requests answer, with room for what follows.
use Rattle.std.specs.Prelude.{◌≡◌, ℕ, ◌+◌, ◌≤◌, [], IsSome}
use Rattle.tbl_kinds.specs.declared.entry.Answer.{Answer}
use Rattle.tbl_kinds.specs.declared.entry.Reply.{Reply}
use Rattle.tbl_model.specs.State.{Table}
use Rattle.tbl_model.specs.Tables.{table_at}
use Rattle.tbl_outside.specs.declared.validator.Validator.{Ghosts as ValidatorGhosts}
use Rattle.request_effects.specs.Effects.{notice_len}
use Rattle.request_effects.specs.Reports.{Reported, nothing_reported}
use Rattle.desk.specs.Desk.{IsOrderly, output}
use Rattle.desk.specs.Requests.{Meaning, Made}
use Rattle.desk.specs.declared.desk.Desk.{Desk}

-- the table in this row is there, and nothing is reported yet
pub record IsAsked {C : Type 0} (v : ValidatorGhosts C) (row : ℕ) (desk : Desk C) (reported : Reported) : Type 0 where
  pub table : IsSome (table_at desk.tables row)
  pub orderly : IsOrderly v desk
  pub report : reported ≡ nothing_reported

-- nothing is answered yet, and there is room for so many bytes of packets
pub record IsFree (n : ℕ) (reply : Reply) : Type 0 where
  pub bytes : reply.bytes.list ≡ []
  pub packets : reply.packets.list ≡ []
  pub room : n ≤ reply.packets.spare

-- the request was made, into whatever reply has this room
abbrev pub MadeIn : {C : Type 0} → ℕ → ValidatorGhosts C → Meaning → Desk C → Desk C → Reported → Answer → Type 0
MadeIn n v meaning old new report answer = (reply : Reply) → IsFree n reply → Made v meaning old new (output reply report) answer

-- for the event of a command, and for the notice to the owner of the table
abbrev pub notice_room : Table → ℕ
notice_room t = 24 + notice_len t.notice
