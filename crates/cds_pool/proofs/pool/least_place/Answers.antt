use Rattle.std.proofs.Common.{arith}
use Rattle.cds_pool.proofs.Least.{end_least}
use Rattle.cds_pool.proofs.pool.least_place.Goals as goal

pub returns-clause-found : goal.returns-clause-found
returns-clause-found c =
    (end_least c.args.taken.now c.args.size c.loop-block.block-index c.loop-block.least (omega (arith, c.loop-block-test.false)) c.loop-block.invariant).found

pub returns-clause-within : goal.returns-clause-within
returns-clause-within c =
    (end_least c.args.taken.now c.args.size c.loop-block.block-index c.loop-block.least (omega (arith, c.loop-block-test.false)) c.loop-block.invariant).within

pub returns-clause-least : goal.returns-clause-least
returns-clause-least c =
    (end_least c.args.taken.now c.args.size c.loop-block.block-index c.loop-block.least (omega (arith, c.loop-block-test.false)) c.loop-block.invariant).least

pub returns-clause-none : goal.returns-clause-none
returns-clause-none c =
    (end_least c.args.taken.now c.args.size c.loop-block.block-index c.loop-block.least (omega (arith, c.loop-block-test.false)) c.loop-block.invariant).none
