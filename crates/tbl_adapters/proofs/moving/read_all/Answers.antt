use Rattle.std.proofs.Common.{◌∙◌, arith}
use Rattle.tbl_adapters.proofs.Padding.{read_step, read_within}
use Rattle.tbl_adapters.proofs.moving.read_all.Goals as goal

pub pieces-preserved : goal.pieces-preserved
pieces-preserved g c = record {
  within = read_within c.pieces.into c.read_some.new.into _ c.pieces.done c.in_ok-count.count c.pieces.invariant.within (omega (arith, c.in_ok-count.ensures.fits, c.read_some.auto.into));
  kept = λ told. c.read_some.ensures.kept told ∙ c.pieces.invariant.kept told;
  read = λ told. read_step (g.F.RandomAccess.content c.args.file.now) c.pieces.into c.read_some.new.into _ c.args.at c.pieces.done c.in_ok-count.count
      c.pieces.invariant.within (c.pieces.invariant.read told) (omega (arith, c.in_ok-count.ensures.fits, c.read_some.auto.into))
      (rw (← c.pieces.invariant.kept told) (c.in_ok-count.ensures.read told));
}
