use Rattle.std.proofs.Common.{◌≡◌, ◌∙◌, [], true, false, not, Some, is_some, ap, refl, arith}
use Rattle.tbl_model.specs.Tables.{table_at}
use Rattle.tbl_model.specs.Activations.{abort_of, abort_effect}
use Rattle.validation.proofs.Ready.{some_is}
use Rattle.desk.specs.Desk.{state_at}
use Rattle.load_requests.proofs.Commanded.{is_open, abort_by}
use Rattle.desk.proofs.Quiet.{quietly, refused_at_once}
use Rattle.load_requests.proofs.aborts.abort.Goals as goal

pub returns-in_default : goal.returns-in_default
unfolding abort_effect
returns-in_default g c = record {
  made = λ reply empty. refused_at_once empty (omega arith)
      (λ rest given. let s = state_at rest c.args.desk.now in rw (c.plain.ensures.status, c.plain.ensures.detail) (ap Some (c.in_default.ensures.missing s (abort_of s) refl)));
}

pub returns-then-is_none : goal.returns-then-is_none
returns-then-is_none g c =
    let t = some_is (table_at c.args.desk.now.tables c.in-Some.table.row) c.in-Some.ensures.table in
    let none : is_some t.0.load ≡ false = is_open c.load.result t.0.load (rw t.1 at c.load.ensures.image) ∙ c.is_none.ensures ∙ ap not c.if-is_none.true in
    record {
      made = λ reply empty. let event = empty.event in quietly [] (Some c.in-Some.table)
          (λ rest given. let s = state_at rest c.args.desk.now in rw (c.plain-then-is_none.ensures.status, c.plain-then-is_none.ensures.detail)
          (ap Some (abort_by s c.in-Some.table t.0 t.1 c.args.name.now (λ effect. c.in-Some.ensures.found s effect refl) false none)))
          refl empty.bytes (rw (c.name_table.ensures, empty.report) refl) (omega arith) empty.packets event;
    }

pub returns : goal.returns
returns g c =
    let t = some_is (table_at c.args.desk.now.tables c.in-Some.table.row) c.in-Some.ensures.table in
    let some : is_some t.0.load ≡ true = is_open c.load.result t.0.load (rw t.1 at c.load.ensures.image) ∙ c.is_none.ensures ∙ ap not c.if-is_none.false in
    record {
      made = λ reply empty. let event = empty.event in quietly [] (Some c.in-Some.table)
          (λ rest given. let s = state_at rest c.args.desk.now in rw (c.plain-2.ensures.status, c.plain-2.ensures.detail, c.close_load.ensures, c.drop_pair.ensures)
          (ap Some (abort_by s c.in-Some.table t.0 t.1 c.args.name.now (λ effect. c.in-Some.ensures.found s effect refl) true some)))
          refl empty.bytes (rw (c.name_table.ensures, empty.report) refl) (omega arith) empty.packets event;
    }
