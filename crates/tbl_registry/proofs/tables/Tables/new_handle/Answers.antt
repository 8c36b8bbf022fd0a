use Rattle.std.proofs.Common.{rules}
use Rattle.tbl_kinds.proofs.FreeLaws.{least_free-map}
use Rattle.tbl_registry.proofs.Steps.{given_sound, given_seen}
use Rattle.tbl_registry.proofs.tables.Tables.new_handle.Goals as goal

pub invariant_of-self-2 : goal.invariant_of-self-2
invariant_of-self-2 c = rw c.in_ok-handle.ensures.added record { sound = given_sound c.self.inside.rows.items c.self.inside.handles c.self.invariant.sound c.in_ok-handle.handle c.args.app c.args.row (rw (← c.self.view_is) at c.requires); counted = c.self.invariant.counted }

pub returns-in_err-handle-clause-least_free : goal.returns-in_err-handle-clause-least_free
returns-in_err-handle-clause-least_free c = rw (← c.self.view_is, least_free-map _ c.self.inside.handles) (search rules)

pub returns-clause-least_free : goal.returns-clause-least_free
returns-clause-least_free c = rw (← c.self.view_is, least_free-map _ c.self.inside.handles) c.in_ok-handle.ensures.least_free

pub returns-clause-given : goal.returns-clause-given
returns-clause-given c = rw (← c.self.view_is, c.in_ok-handle.ensures.added) (given_seen c.self.inside.rows.items c.self.inside.handles c.self.invariant.sound c.in_ok-handle.handle c.args.app c.args.row)
