use Rattle.std.proofs.Common.{refl, arith}
use Rattle.tbl_adapters.proofs.Failing.{on_err}
use Rattle.tbl_adapters.proofs.Growing.{growing_more, kept_first, kept_spoiled}
use Rattle.tbl_adapters.proofs.moving.lengthen.Goals as goal

pub returns-in_err-len-clause-kept : goal.returns-in_err-len-clause-kept
returns-in_err-len-clause-kept g c = λ told.
    on_err c.from_residual.result (kept_first (g.F.RandomAccess.content c.args.file.now) (g.F.RandomAccess.content c.len.new.self) (c.len.ensures.kept told))

pub returns-in-Err-clause-kept : goal.returns-in-Err-clause-kept
returns-in-Err-clause-kept g c = λ told.
    kept_spoiled _ c.zeros.len _ (g.F.RandomAccess.content c.args.file.now) (g.F.RandomAccess.content c.zeros.file) (g.F.RandomAccess.content c.write_zeros.new.file) (c.zeros.invariant told) (c.in-Err.ensures.failed told)

pub zeros-preserved : goal.zeros-preserved
zeros-preserved g c = λ told.
    growing_more _ c.zeros.len _ (g.F.RandomAccess.content c.args.file.now) (g.F.RandomAccess.content c.zeros.file) (g.F.RandomAccess.content c.write_zeros.new.file) _ (c.zeros.invariant told) (omega arith) refl (c.in-Ok.ensures.written told)
