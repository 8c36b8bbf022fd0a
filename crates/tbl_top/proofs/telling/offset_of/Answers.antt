use Rattle.std.proofs.Common.{◌+◌, arith}
use Rattle.tbl_top.proofs.OffsetLemmas.{body_bound, offset_more, front_bound}
use Rattle.tbl_top.proofs.telling.offset_of.Goals as goal

pub overflow_add-offset : goal.overflow_add-offset
overflow_add-offset c =
    omega (arith, c.body_len.ensures, body_bound c.args.entries.now c.entries.entry-index c.entry-item.result c.requires.each c.entries-test.true c.entry-item.is)

pub overflow_cast-offset : goal.overflow_cast-offset
overflow_cast-offset c =
    omega (arith, c.body_len.ensures, body_bound c.args.entries.now c.entries.entry-index c.entry-item.result c.requires.each c.entries-test.true c.entry-item.is)

pub overflow_add-offset-in-entries : goal.overflow_add-offset-in-entries
overflow_add-offset-in-entries c =
    omega (
      arith,
      c.body_len.ensures,
      c.entries.invariant,
      offset_more c.args.entries.now c.entries.entry-index c.entry-item.result c.entries-test.true c.entry-item.is,
      front_bound c.args.entries.now (c.entries.entry-index + 1) c.requires.each c.requires.few,
    )

pub entries-preserved : goal.entries-preserved
entries-preserved c =
    omega (arith, c.body_len.ensures, c.entries.invariant, offset_more c.args.entries.now c.entries.entry-index c.entry-item.result c.entries-test.true c.entry-item.is)
