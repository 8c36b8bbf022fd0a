use Rattle.std.proofs.Common.{arith, refl}
use Rattle.tbl_top.proofs.words.drill_of.Goals as goal

pub overflow_cast-result : goal.overflow_cast-result
overflow_cast-result c = omega (arith, (c.in_ok-rounds.ensures c.in_ok-rounds.rounds).0 refl)
