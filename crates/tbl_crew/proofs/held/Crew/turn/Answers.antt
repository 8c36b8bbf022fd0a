use Rattle.tbl_crew.proofs.held.Crew.turn.Goals as goal

pub returns : goal.returns
returns g c = record { turn = rw (← c.self.view_is, ← c.as_mut-core.ensures.value) c.turn_fields.ensures.turn }
