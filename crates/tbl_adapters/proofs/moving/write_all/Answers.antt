use Rattle.std.proofs.Common.{◌-◌, arith, length, take, drop}
use Rattle.std.proofs.lemmas.List.{length-take, length-drop, take_rest}
use Rattle.tbl_adapters.proofs.Failing.{on_err}
use Rattle.tbl_adapters.proofs.Padding.{written_more, written_nothing, spoiled_front, spoiled_more}
use Rattle.tbl_adapters.proofs.moving.write_all.Goals as goal

pub returns-in_err-count-clause-failed : goal.returns-in_err-count-clause-failed
returns-in_err-count-clause-failed g c = λ told.
    on_err c.from_residual.result (spoiled_more c.args.at c.pieces.done _ (length c.args.bytes.now) (g.F.RandomAccess.content c.args.file.now) (g.F.RandomAccess.content c.pieces.file) (g.F.RandomAccess.content c.write_some.new.self)
    (take c.pieces.done c.args.bytes.now) (c.pieces.invariant.written told) (c.in_err-count.ensures.failed told)
    (omega (arith, c.pieces.invariant.within, length-take c.pieces.done c.args.bytes.now))
    (omega (arith, c.pieces.invariant.within, length-drop c.pieces.done c.args.bytes.now, length-take (length c.args.bytes.now - c.pieces.done) (drop c.pieces.done c.args.bytes.now))))

pub returns-in-0-clause-failed : goal.returns-in-0-clause-failed
returns-in-0-clause-failed g c = λ told.
    spoiled_front c.args.at (length c.args.bytes.now) (g.F.RandomAccess.content c.args.file.now) (g.F.RandomAccess.content c.write_some.new.self) (take c.pieces.done c.args.bytes.now)
    (written_nothing (g.F.RandomAccess.content c.args.file.now) (g.F.RandomAccess.content c.pieces.file) (g.F.RandomAccess.content c.write_some.new.self) (take c.pieces.done c.args.bytes.now) _ c.args.at _ c.in_ok-count.count
    (c.pieces.invariant.written told) (c.in_ok-count.ensures.written told) c.in-0.is)
    (omega (arith, c.pieces.invariant.within, length-take c.pieces.done c.args.bytes.now))

pub pieces-preserved : goal.pieces-preserved
pieces-preserved g c = record {
  within = omega (arith, c.pieces.invariant.within, c.in_ok-count.ensures.fits, length-drop c.pieces.done c.args.bytes.now, length-take (length c.args.bytes.now - c.pieces.done) (drop c.pieces.done c.args.bytes.now));
  written = λ told. written_more (g.F.RandomAccess.content c.args.file.now) (g.F.RandomAccess.content c.pieces.file) (g.F.RandomAccess.content c.write_some.new.self) c.args.bytes.now _ c.args.at c.pieces.done c.in_ok-count.count
      c.pieces.invariant.within (c.pieces.invariant.written told) (c.in_ok-count.ensures.written told) (take_rest c.args.bytes.now c.pieces.done);
}
