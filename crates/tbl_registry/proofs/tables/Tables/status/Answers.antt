use Rattle.std.proofs.Common.{sym, ◌∙◌}
use Rattle.std.proofs.lemmas.Option.{same_Some}
use Rattle.tbl_registry.proofs.Steps.{access_is}
use Rattle.tbl_registry.proofs.tables.Tables.status.Goals as goal

pub returns-clause-status : goal.returns-clause-status
returns-clause-status c = λ a found.
    let is = access_is c.self.inside.rows.items c.self.inside.handles c.args.handle c.in-Some.field-0-0 c.in-Some.field-0-1 c.in-Some.table.now (rw (← c.deref.ensures.value) c.in-Some.ensures.leads) c.self.invariant.sound in
    let same = same_Some _ a (sym is ∙ rw (← c.self.view_is) at found) in
    rw (c.plain.ensures.status, ← same) (c.pending.ensures c.in-Some.field-0-1)
