use Rattle.std.proofs.Common.{List, refl, sym, subst}
use Rattle.std.proofs.lemmas.Result.{IfOk-weaker}
use Rattle.tbl_kinds.specs.declared.request.Actor.TheVariants.{App}
use Rattle.tbl_model.specs.Tables.{table_at}
use Rattle.tbl_model.specs.Telemetry.{Question}
use Rattle.validation.proofs.Ready.{some_is}
use Rattle.tbl_core.specs.Asking.{AsksIn}
use Rattle.tbl_core.specs.Service.{parts_view}
use Rattle.tbl_core.proofs.Owners.{leads_to}
use Rattle.tbl_core.proofs.Questions.{nobody_asks}
use Rattle.tbl_core.proofs.parts.Parts.owner_asks.Goals as goal

pub returns-in-Ok : goal.returns-in-Ok
returns-in-Ok g c =
    let t = some_is (table_at c.args.self.now.desk.tables c.in-Ok.row) c.in-Ok.ensures.table in record {
      asks = IfOk-weaker c.row_asks.result _ _ (λ it is. is (App c.args.app) (leads_to (parts_view c.args.self.now) c.args.app c.args.handle c.in-Ok.row c.args.request.now c.requires.owners t.0 t.1
          (λ s stood effect. c.in-Ok.ensures.ok s effect stood.tables stood.apps))) c.row_asks.ensures.asks;
      same = c.row_asks.ensures.same;
    }

pub returns-in-Err : goal.returns-in-Err
returns-in-Err g c =
    let held = parts_view c.args.self.now in record {
      asks = subst (λ (questions : List Question). AsksIn held (App c.args.app) c.args.request.now questions) (sym c.none.ensures)
          (nobody_asks held c.args.app c.args.handle c.args.request.now c.in-Err.field-0 c.requires.may c.requires.owners (λ s stood effect. c.in-Err.ensures.err s effect stood.tables stood.apps));
      same = refl;
    }
