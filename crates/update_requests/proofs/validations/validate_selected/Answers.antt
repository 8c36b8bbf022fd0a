use Rattle.std.proofs.Common.{Bool, Option, Some, sym, ap}
use Rattle.tbl_model.specs.Tables.{table_at}
use Rattle.tbl_model.specs.Validations.{selected, validate_by}
use Rattle.validation.proofs.Ready.{some_is}
use Rattle.desk.specs.Desk.{state_at, output}
use Rattle.desk.proofs.Serving.{serves_so}
use Rattle.update_requests.proofs.validations.validate_selected.Goals as goal

pub returns-in-Some : goal.returns-in-Some
returns-in-Some g c = record {
  made = λ reply free.
      let old = c.args.desk.now in
      let t = some_is (table_at old.tables c.args.row) c.requires.table in
      let is = rw c.in-Some.is at (c.selected.ensures t.0 t.1) in
      serves_so g.C.Validator c.args.row (λ s given t. validate_by s c.args.row t (Some c.in-Some.active)) (λ s given t. validate_by s c.args.row t (selected t c.args.select)) 1 (λ tables. 24)
      old _ (output reply _) c.request_validation.result t.0 t.1 (λ rest given. ap (λ (o : Option Bool). validate_by (state_at rest old) c.args.row t.0 o) (sym is)) (c.request_validation.ensures.made reply free);
}
