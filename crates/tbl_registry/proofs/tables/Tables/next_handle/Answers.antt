use Rattle.tbl_kinds.proofs.FreeLaws.{least_free-map}
use Rattle.tbl_registry.proofs.tables.Tables.next_handle.Goals as goal

pub returns : goal.returns
returns c = rw (← c.self.view_is, least_free-map _ c.self.inside.handles) c.next.ensures.least_free
