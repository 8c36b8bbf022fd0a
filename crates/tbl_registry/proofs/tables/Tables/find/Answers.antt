use Rattle.std.proofs.Common.{sym, ◌∙◌}
use Rattle.tbl_registry.proofs.Named.{named_row, named_hit}
use Rattle.tbl_registry.proofs.tables.Tables.find.Goals as goal

pub returns-then-is_named-clause-row : goal.returns-then-is_named-clause-row
returns-then-is_named-clause-row c = rw (← c.self.view_is) (sym (named_hit c.args.name.now c.self.inside.rows.items _ c.self.invariant.sound.named (rw (← c.deref.ensures.value) (sym c.is_named.ensures ∙ c.if-is_named.true))))

pub returns-in-Some-clause-table : goal.returns-in-Some-clause-table
returns-in-Some-clause-table c = rw (← c.self.view_is) (named_row c.args.name.now c.self.inside.rows.items c.in-Some.row (rw (← c.deref-2.ensures.value) (sym c.in-Some.ensures.row)))
