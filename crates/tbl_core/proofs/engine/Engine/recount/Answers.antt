use Rattle.tbl_core.specs.Service.{works_view}
use Rattle.tbl_core.proofs.Images.{recounted_ready}
use Rattle.tbl_core.proofs.engine.Engine.recount.Goals as goal

pub invariant_of-self : goal.invariant_of-self
invariant_of-self g c = rw c.most_images-self-inside.ensures (recounted_ready g.C.Validator (works_view c.self.inside.works) c.self.invariant)
