use Rattle.std.proofs.Common.{[], ◌++◌, ◌∙◌, refl, subst, arith, inl, inr, rules, Some}
use Rattle.std.proofs.lemmas.List.{length-append}
use Rattle.tbl_outside.proofs.Streams.{read_more}
use Rattle.tbl_stream.specs.Playing.{moment}
use Rattle.tbl_stream.proofs.FeedingLemmas.{open_front}
use Rattle.tbl_stream.proofs.ReadingLemmas.{prepend_nothing, went_nothing, reads_on, reads_open, reads_stopped}
use Rattle.tbl_stream.proofs.reading.read_all.Goals as goal

pub reads-init : goal.reads-init
reads-init g c = record {
  is_open = c.requires;
  room = refl;
  went = ([], prepend_nothing (g.S.Source.left c.args.source.now), went_nothing g.B.Bank g.C.Validator.verdict (moment g.K.Sink c.args.stream.now.played c.args.sink.now) c.args.stream.now.rest c.requires.live, omega arith);
  once = λ going. going;
  source_still = refl;
}

pub returns-in-Some-clause-reads : goal.returns-in-Some-clause-reads
returns-in-Some-clause-reads g c =
    let one = c.in-Some.ensures.reads in
    let went = c.reads.invariant.went in
    record {
      read = went.0 ++ one.read;
      came = read_more (g.S.Source.left c.args.source.now) (g.S.Source.left c.reads.source) (g.S.Source.left c.read_piece.new.source) went.0 one.read went.1 one.came;
      fed = reads_on g.B.Bank g.C.Validator.verdict c.read_piece.new.stream.standing _ _ _ c.args.stream.now.rest went.0 c.reads.stream.rest one.read c.read_piece.new.stream.rest went.2 one.fed;
      ends = one.ends;
      full = λ is. elim (one.full is) [ inl many ↦ inl many | inr long ↦ inr (omega (arith, long, length-append went.0 one.read)) ];
    }

pub reads-preserved : goal.reads-preserved
reads-preserved g c =
    let one = c.in_default.ensures.reads in
    let went = c.reads.invariant.went in
    let stream = c.read_piece.new.stream in
    let all = reads_on g.B.Bank g.C.Validator.verdict stream.standing _ _ _ c.args.stream.now.rest went.0 c.reads.stream.rest one.read stream.rest went.2 one.fed in
    let plays = reads_open g.B.Bank g.C.Validator.verdict stream.standing _ _ _ stream.rest one.ends.0 all in
    record {
      is_open = record { standing_is = one.ends.0; begun = open_front stream.standing stream.played.left all.behind stream.rest one.ends.0 all.leaves all.keeps; live = plays.plays.boot };
      room = search rules;
      went = (
        went.0 ++ one.read,
        read_more (g.S.Source.left c.args.source.now) (g.S.Source.left c.reads.source) (g.S.Source.left c.read_piece.new.source) went.0 one.read went.1 one.came,
        plays,
        omega (arith, went.3, one.ends.1, length-append went.0 one.read),
      );
      once = λ going. c.in_default.ensures.source.goes_on refl (c.reads.invariant.once going);
      source_still = c.in_default.ensures.source.cause ∙ c.reads.invariant.source_still;
    }

pub returns-clause-reads : goal.returns-clause-reads
returns-clause-reads g c =
    let went = c.reads.invariant.went in
    let is_open = c.reads.invariant.is_open in
    rw c.stop.ensures (record {
      read = went.0;
      came = went.1;
      fed = reads_stopped g.B.Bank g.C.Validator.verdict _ _ c.args.stream.now.rest went.0 c.reads.stream.rest _ is_open.begun is_open.live went.2;
      ends = record { ended = λ is e. absurd cc; cut = λ e. absurd cc };
      full = λ is. inr (omega (arith, went.3));
    })

pub returns-in-Some-clause-source : goal.returns-in-Some-clause-source
returns-in-Some-clause-source g c =
    let one = c.in-Some.ensures.source in
    record {
      cause = search rules;
      goes_on = λ is. absurd cc;
      once = λ going. one.once (c.reads.invariant.once going);
      count = omega (arith, c.reads.invariant.source_still, one.count);
    }

pub returns-clause-source : goal.returns-clause-source
returns-clause-source g c = record {
  cause = c.reads.invariant.source_still;
  goes_on = λ is. absurd cc;
  once = λ going over. let still = c.reads.invariant.once going in cc;
  count = omega (arith, c.reads.invariant.source_still);
}
