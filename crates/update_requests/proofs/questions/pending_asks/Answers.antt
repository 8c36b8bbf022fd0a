use Rattle.std.proofs.Common.{◌∙◌, is_some, sym, ap}
use Rattle.tbl_model.specs.Tables.{table_at}
use Rattle.validation.proofs.Ready.{some_is}
use Rattle.update_requests.proofs.Refusing.{is_there}
use Rattle.update_requests.proofs.questions.pending_asks.Goals as goal

pub unreachable-requires : goal.unreachable-requires
unreachable-requires g c =
    let can = c.requires c.args.row c.args.active (sym c.has.ensures ∙ c.if-not-has.false) in
    let t = some_is (table_at c.args.desk.now.tables c.args.row) can.0 in
    let image = sym (c.image.ensures.there t.0 t.1) ∙ ap is_some c.in_default-image.is in
    absurd (cc (is_there t.0 c.args.active (can.1 t.0 t.1).1, image))
