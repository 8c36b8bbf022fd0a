use Rattle.std.proofs.Common.{◌∙◌}
use Rattle.tbl_kinds.proofs.NameFields.{spelled, read_fits}
use Rattle.tbl_kinds.proofs.uplink.Uplink.spelling.Goals as goal

pub returns-clause-bytes : goal.returns-clause-bytes
returns-clause-bytes c = rw (← c.self.view_is) (c.bytes.ensures ∙ spelled 64 c.self.inside.spelling.list c.self.invariant.1)

pub returns-clause-fits : goal.returns-clause-fits
returns-clause-fits c = rw (← c.self.view_is) (read_fits 64 c.self.inside.spelling.list)
