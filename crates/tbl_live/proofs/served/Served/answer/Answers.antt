use Rattle.tbl_live.proofs.served.Served.answer.Goals as goal

pub returns : goal.returns
returns g c = rw (← c.self.view_is, ← c.as_mut.ensures.value) c.answer_fields.ensures.answered
