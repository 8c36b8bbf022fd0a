use Rattle.std.proofs.Common.{[], sym, ap, subst, ◌∙◌, arith, inl, ⊎_elim}
use Rattle.std.specs.Prelude.{take}
use Rattle.std.proofs.lemmas.List.{length-take}
use Rattle.std.specs.Io.KnownBytes.{prepend_known}
use Rattle.tbl_stream.specs.Standing.{TellsFull}
use Rattle.tbl_stream.proofs.FeedingLemmas.{over_is, memory_is, open_answer}
use Rattle.tbl_stream.proofs.ReadingLemmas.{prepend_nothing, reads_piece, reads_at}
use Rattle.tbl_stream.proofs.reading.read_piece.Goals as goal

pub returns-in-Err-clause-reads : goal.returns-in-Err-clause-reads
returns-in-Err-clause-reads g c =
    let is_open = c.requires.is_open in
    record {
      read = [];
      came = prepend_nothing (g.S.Source.left c.args.source.now) ∙ ap (prepend_known []) (sym c.in-Err.ensures.kept);
      fed = reads_at g.B.Bank g.C.Validator.verdict c.args.stream.now.standing _ c.args.stream.now.rest is_open.standing_is is_open.begun is_open.live;
      ends = record { ended = λ is e. absurd cc; cut = λ e. is_open.standing_is };
      full = λ is. absurd (let other = is_open.standing_is in cc);
    }

pub returns-then-count-eq0-clause-reads : goal.returns-then-count-eq0-clause-reads
returns-then-count-eq0-clause-reads g c =
    let is_open = c.requires.is_open in
    record {
      read = [];
      came = c.in-Ok.ensures.moved ∙ ap (λ n. prepend_known (take n c.read.new.into) (g.S.Source.left c.read.new.self)) c.if-count-eq0.true;
      fed = reads_at g.B.Bank g.C.Validator.verdict c.args.stream.now.standing _ c.args.stream.now.rest is_open.standing_is is_open.begun is_open.live;
      ends = record { ended = λ is e. c.in-Ok.ensures.end c.if-count-eq0.true (omega (arith, c.requires.room)); cut = λ e. absurd cc };
      full = λ is. absurd (let other = is_open.standing_is in cc);
    }

pub returns-in-Over-clause-reads : goal.returns-in-Over-clause-reads
returns-in-Over-clause-reads g c =
    let piece = take c.in-Ok.count c.read.new.into in
    let stream = c.feed.new.self in
    let over = ⊎_elim (λ e. over_is stream.standing (sym e ∙ c.feed.ensures.answer)) (λ e. memory_is stream.standing (sym e ∙ c.feed.ensures.answer)) c.in-Over.is in
    record {
      read = piece;
      came = c.in-Ok.ensures.moved;
      fed = reads_piece g.B.Bank g.C.Validator.verdict stream.standing _ _ c.args.stream.now.rest piece stream.rest c.requires.is_open.begun (omega (arith, length-take c.in-Ok.count c.read.new.into, c.in-Ok.ensures.fits, c.requires.room)) c.feed.ensures.feeds.feeds;
      ends = record { ended = λ is. absurd (over is); cut = λ e. absurd cc };
      full = λ is. inl (subst (λ standing. TellsFull standing stream.played.engine.played) is c.feed.ensures.feeds.feeds.played.full);
    }

pub returns-in-More-clause-reads : goal.returns-in-More-clause-reads
returns-in-More-clause-reads g c =
    let piece = take c.in-Ok.count c.read.new.into in
    let stream = c.feed.new.self in
    record {
      read = piece;
      came = c.in-Ok.ensures.moved;
      fed = reads_piece g.B.Bank g.C.Validator.verdict stream.standing _ _ c.args.stream.now.rest piece stream.rest c.requires.is_open.begun (omega (arith, length-take c.in-Ok.count c.read.new.into, c.in-Ok.ensures.fits, c.requires.room)) c.feed.ensures.feeds.feeds;
      ends = (open_answer stream.standing (sym c.in-More.is ∙ c.feed.ensures.answer), omega (arith, length-take c.in-Ok.count c.read.new.into, c.in-Ok.ensures.fits, c.if-count-eq0.false));
      full = λ is. inl (subst (λ standing. TellsFull standing stream.played.engine.played) is c.feed.ensures.feeds.feeds.played.full);
    }
