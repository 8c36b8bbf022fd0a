use Rattle.std.proofs.Common.{◌++◌, ◌∙◌, arith, refl, rules}
use Rattle.std.proofs.lemmas.List.{length-append}
use Rattle.tbl_outside.proofs.Streams.{read_more}
use Rattle.tbl_top.proofs.CollectingLemmas.{taken_bound}
use Rattle.tbl_top.proofs.collecting.Collector.read_all.Goals as goal

pub returns-in-Some-clause-reads : goal.returns-in-Some-clause-reads
returns-in-Some-clause-reads g c =
    let old = c.reads.invariant.takes in
    let one = c.in-Some.ensures.reads in
    let ended = one.takes old.0 old.3 old.4 old.5 in
    record {
      read = old.0 ++ one.read;
      came = read_more (g.S.Source.left c.args.source.now) (g.S.Source.left c.reads.source) (g.S.Source.left c.read_piece.new.source) old.0 one.read old.1 one.came;
      pairs = ended.0;
      scripts = ended.1;
      has = ended.2;
      input = one.input;
    }

pub reads-preserved : goal.reads-preserved
reads-preserved g c = record {
  room = search rules;
  takes =
      let old = c.reads.invariant.takes in
      let one = c.in_default.ensures.reads in
      let more = one.takes old.0 old.3 old.4 old.5 in (
        old.0 ++ one.read,
        read_more (g.S.Source.left c.args.source.now) (g.S.Source.left c.reads.source) (g.S.Source.left c.read_piece.new.source) old.0 one.read old.1 one.came,
        omega (arith, old.2, more.0, length-append old.0 one.read),
        more.1,
        more.2,
        more.3,
      );
  once = λ going. c.in_default.ensures.source.goes_on refl (c.reads.invariant.once going);
  still = c.in_default.ensures.source.cause ∙ c.reads.invariant.still;
}

pub unreachable-requires : goal.unreachable-requires
unreachable-requires g c =
    let old = c.reads.invariant.takes in
    omega (arith, old.2, taken_bound old.0 old.3 old.4 c.reads.self old.5)

pub returns-in-Some-clause-source : goal.returns-in-Some-clause-source
returns-in-Some-clause-source g c =
    let one = c.in-Some.ensures.source in
    record {
      cause = search rules;
      goes_on = λ is. absurd cc;
      once = λ going. one.once (c.reads.invariant.once going);
      count = omega (arith, c.reads.invariant.still, one.count);
    }
