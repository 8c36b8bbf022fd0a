-- Requests for a table that is there.
use Rattle.std.proofs.Common.{◌≡◌, ◌≤◌, ℕ, [], length, Some, refl, sym, subst, arith}
use Rattle.tbl_kinds.specs.declared.entry.Answer.{Answer}
use Rattle.tbl_model.specs.State.{State, Table, Tables}
use Rattle.tbl_model.specs.Tables.{table_at}
use Rattle.tbl_model.specs.Given.{Given}
use Rattle.tbl_model.specs.Effects as model
use Rattle.tbl_model.specs.Effects.{answered}
use Rattle.tbl_outside.specs.declared.validator.Validator.{Ghosts as ValidatorGhosts}
use Rattle.validation.proofs.Asking.{asked_nothing}
use Rattle.request_effects.specs.Reports.{Reported, nothing_reported}
use Rattle.request_effects.specs.Effects.{IsWithin, HasRoom, given_of, told_effect}
use Rattle.desk.specs.Desk.{Rest, state_at, Output}
use Rattle.desk.specs.Requests.{Does, Made, for_row}
use Rattle.desk.specs.declared.desk.Desk.{Desk}
use Rattle.desk.proofs.Serving.{made_so, has_there}

module _ {C : Type 0} (v : ValidatorGhosts C) (old : Desk C) (out : Output) (answer : Answer) (row : ℕ) (t : Table) (there : table_at old.tables row ≡ Some t)
    (e : State → Given → Table → model.Effect) (most : ℕ) (more : Tables → ℕ) (no_bytes : out.reply.bytes.list ≡ []) where
  -- an effect on the table that is there, which left this desk and this report
  pub made_there : (new left : Desk C) (report : Reported) → new ≡ left → out.report ≡ report
      → ((rest : Rest) → Does v rest old left (told_effect answer [] report) (e (state_at rest old) (given_of (told_effect answer [] report)) t))
      → length report.verdicts ≡ 2 → IsWithin most (told_effect answer [] report) → HasRoom (more old.tables) out.reply.packets (told_effect answer [] report)
      → Made v (for_row row e most more) old new out answer
  made_there new left report same reported does two within room = subst (λ (d : Desk C). Made v (for_row row e most more) old d out answer) (sym same)
      (made_so v (for_row row e most more) old left out answer [] report no_bytes reported
      (λ rest. has_there v rest old left (told_effect answer [] report) (λ t. e (state_at rest old) (given_of (told_effect answer [] report)) t) row t there (does rest)) two within room)

  -- an answer, and nothing else
  pub answered_there : out.reply.packets.list ≡ [] → more old.tables ≤ out.reply.packets.spare → out.report ≡ nothing_reported
      → ((rest : Rest) (given : Given) → e (state_at rest old) given t ≡ answered (state_at rest old) answer.status answer.detail)
      → Made v (for_row row e most more) old old out answer
  answered_there no_packets room reported same = made_there old old nothing_reported refl reported
      (λ rest. subst (Does v rest old old (told_effect answer [] nothing_reported)) (sym (same rest (given_of (told_effect answer [] nothing_reported)))) (record {
        effect = record { status = refl; detail = refl; bytes = refl; table = refl; events = refl; shown = refl; questions = refl; calls = refl; notice = refl; next = refl };
        asked = asked_nothing v.verdict v.asked old.kit;
      }))
      refl (record { events = omega arith; notice = tt; bytes = omega arith }) (record { none = no_packets; room = omega (arith, room) })
