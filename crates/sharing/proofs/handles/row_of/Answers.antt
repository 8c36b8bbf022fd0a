use Rattle.std.proofs.Common.{◌∙◌, ap}
use Rattle.tbl_model.specs.TableSteps.{find}
use Rattle.sharing.proofs.Running.{has_name, tells, record_of}
use Rattle.sharing.proofs.handles.row_of.Goals as goal

pub returns-in-Some : goal.returns-in-Some
returns-in-Some c = record {
  ok = λ s tables apps t there.
      tells s c.args.apps.now c.args.app apps (has_name c.name.result _ c.name.ensures.none _ c.is_none.ensures c.if-is_none.false) c.args.tables.now c.args.name.now _ tables
      (c.in-Some.ensures.row ∙ ap (λ name. find name c.args.tables.now) c.bytes.ensures.bytes)
      ∙ record_of s c.args.tables.now c.in-Some.row t tables there;
  table = c.in-Some.ensures.table;
}

pub returns-in-None : goal.returns-in-None
returns-in-None c = λ s tables apps.
    tells s c.args.apps.now c.args.app apps (has_name c.name.result _ c.name.ensures.none _ c.is_none.ensures c.if-is_none.false) c.args.tables.now c.args.name.now _ tables
    (c.in-None.ensures.row ∙ ap (λ name. find name c.args.tables.now) c.bytes.ensures.bytes)
