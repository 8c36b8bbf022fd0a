use Rattle.std.proofs.Common.{◌-◌}
use Rattle.tbl_adapters.proofs.Growing.{Growing}
use Rattle.tbl_adapters.proofs.moving.lengthen.Given as goal

abbrev pub decreases-zeros : goal.decreases-zeros
decreases-zeros g l = l.size - l.len

abbrev pub invariant-zeros : goal.invariant-zeros
invariant-zeros g l = g.F.RandomAccess.tells → Growing l.size l.len (g.F.RandomAccess.content l.fn.file) (g.F.RandomAccess.content l.file)
