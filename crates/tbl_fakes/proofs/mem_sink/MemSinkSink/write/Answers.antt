-- A write that didn't fit took what there was room for.
use Rattle.std.proofs.Common.{arith, rules}
use Rattle.std.proofs.lemmas.Grind.{common_steps}
use Rattle.tbl_fakes.proofs.mem_sink.MemSinkSink.write.Goals as goal

pub returns : goal.returns
returns c = record { front = record { count = c.args.self.now.room; grown = grind (arith, common_steps) }; count = search rules; fails = search rules; new_is = search rules }
