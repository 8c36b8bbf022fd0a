use Rattle.tbl_kinds.proofs.NameFields.{spelled}
use Rattle.tbl_kinds.proofs.uplink.Uplink.again.Goals as goal

pub returns-clause-spelling : goal.returns-clause-spelling
returns-clause-spelling c =
    rw (← c.self.view_is, ← spelled 64 c.self.inside.spelling.list c.self.invariant.1) c.again.ensures.copy
