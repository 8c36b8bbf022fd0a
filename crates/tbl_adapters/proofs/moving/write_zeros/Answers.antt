use Rattle.std.proofs.lemmas.List.{take-replicate}
use Rattle.tbl_adapters.proofs.Failing.{zeros_written}
use Rattle.tbl_adapters.proofs.moving.write_zeros.Goals as goal

pub returns-clause-written : goal.returns-clause-written
returns-clause-written g c = λ told.
    zeros_written c.write_all.result (g.F.RandomAccess.content c.args.file.now) (g.F.RandomAccess.content c.write_all.new.file) _ c.args.at c.args.count (c.write_all.ensures.written told) (take-replicate c.args.count 512 0 c.requires.few)
