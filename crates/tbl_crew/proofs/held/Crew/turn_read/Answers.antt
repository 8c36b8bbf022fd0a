use Rattle.tbl_crew.proofs.held.Crew.turn_read.Goals as goal

pub returns-clause-turn : goal.returns-clause-turn
returns-clause-turn g c = rw (← c.self.view_is, ← c.as_mut.ensures.value) c.read_fields.ensures.turn

pub returns-clause-lent : goal.returns-clause-lent
returns-clause-lent g c = rw (← c.self.view_is, ← c.as_mut.ensures.value) c.read_fields.ensures.lent
