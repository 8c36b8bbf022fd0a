use Rattle.std.proofs.Common.{sym, ◌∙◌}
use Rattle.tbl_registry.proofs.InUse.{rows_count, none_in_use}
use Rattle.tbl_registry.proofs.tables.Tables.in_use.Goals as goal

pub rows_with_buffer-requires-clause-few : goal.rows_with_buffer-requires-clause-few
rows_with_buffer-requires-clause-few c = rw c.deref.ensures.value c.self.invariant.sound.few

pub returns-then-self-eq0-clause-rows : goal.returns-then-self-eq0-clause-rows
returns-then-self-eq0-clause-rows c = rw (← c.self.view_is) (none_in_use c.self.inside.rows.items (sym c.self.invariant.counted.users ∙ c.if-self-eq0.true))

pub returns-then-self-eq0-clause-within : goal.returns-then-self-eq0-clause-within
returns-then-self-eq0-clause-within c = rw (← c.self.view_is, rows_count c.self.inside.rows.items 0) c.self.invariant.sound.few

pub returns-clause-within : goal.returns-clause-within
returns-clause-within c = rw (← c.self.view_is, rows_count c.self.inside.rows.items 0) c.self.invariant.sound.few
