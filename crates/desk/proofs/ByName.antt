-- A command that names a table.
use Rattle.std.proofs.Common.{◌≡◌, ◌∙◌, ℕ, List, Option, Some, IsSome, refl, sym, ap, subst, arith}
use Rattle.tbl_kinds.specs.declared.entry.Answer.{Answer}
use Rattle.tbl_kinds.specs.declared.status.TheConstants.Status.{ERR_NO_SUCH_TABLE}
use Rattle.tbl_model.specs.State.{State, Table}
use Rattle.tbl_model.specs.Tables.{table_at}
use Rattle.tbl_model.specs.Effects as model
use Rattle.tbl_model.specs.Effects.{answered}
use Rattle.tbl_model.specs.Subjects.{by_table, if_table}
use Rattle.tbl_model.specs.declared.telemetry.Named.{Named}
use Rattle.tbl_outside.specs.declared.validator.Validator.{Ghosts as ValidatorGhosts}
use Rattle.validation.proofs.Ready.{some_is}
use Rattle.desk.specs.Desk.{state_at, Output, IsEmpty}
use Rattle.desk.specs.Requests.{Does, Made, for_row, command, told}
use Rattle.desk.specs.declared.desk.Desk.{Desk}
use Rattle.desk.proofs.Serving.{does_there}
use Rattle.desk.proofs.Quiet.{refused_at_once}

-- of this name
module _ {C : Type 0} (v : ValidatorGhosts C) (old : Desk C) (out : Output) (answer : Answer) (name : List ℕ) (e : State → ℕ → Table → model.Effect) (most : ℕ) where
  -- that is there
  pub named_made : (new : Desk C) (table : Named) → IsSome (table_at old.tables table.row)
      → ((s : State) (effect : ℕ → Table → model.Effect) → s.tables ≡ old.tables → if_table s name effect ≡ record (by_table s ERR_NO_SUCH_TABLE (table_at old.tables table.row) (effect table.row)) { table = Some table })
      → Made v (for_row table.row (λ s given t. e s table.row t) most (λ tables. 24)) old new out answer
      → Made v (command (λ s. if_table s name (e s)) most) old new (record out { report = record out.report { table = Some table } }) answer
  named_made new table some found made =
      let t = some_is (table_at old.tables table.row) some in record {
        done = λ rest.
            let s = state_at rest old in
            let d = does_there v rest old new (told answer out) (λ t. e s table.row t) table.row t.0 t.1 (made.done rest) in
            let same : if_table s name (e s) ≡ record (e s table.row t.0) { table = Some table } =
            found s (e s) refl ∙ ap (λ (o : Option Table). record (by_table s ERR_NO_SUCH_TABLE o (e s table.row)) { table = Some table }) t.1 in
            subst (Does v rest old new (told answer (record out { report = record out.report { table = Some table } }))) (sym same) (record {
              effect = record { status = d.effect.status; detail = d.effect.detail; bytes = d.effect.bytes; table = refl; events = d.effect.events; shown = d.effect.shown; questions = refl; calls = d.effect.calls; notice = d.effect.notice; next = d.effect.next };
              asked = d.asked;
            });
        two = made.two;
        within = record { events = made.within.events; notice = made.within.notice; bytes = made.within.bytes };
        room = record { none = made.room.none; room = made.room.room };
      }

  -- that isn't there
  pub missing_made : IsEmpty out → answer.status ≡ ERR_NO_SUCH_TABLE → answer.detail ≡ 0
      → ((s : State) (effect : ℕ → Table → model.Effect) → s.tables ≡ old.tables → if_table s name effect ≡ answered s ERR_NO_SUCH_TABLE 0)
      → Made v (command (λ s. if_table s name (e s)) most) old old out answer
  missing_made empty status detail missing =
      refused_at_once {v = v} {meaning = command (λ s. if_table s name (e s)) most} empty (omega arith)
      (λ rest given. rw (missing (state_at rest old) (e (state_at rest old)) refl, status, detail) refl)
