use Rattle.std.proofs.Common.{arith, rules}
use Rattle.tbl_core.proofs.Answering.{when_answered}
use Rattle.tbl_core.proofs.Ready.{are_ready}
use Rattle.tbl_core.proofs.Steps.{did_play, played}
use Rattle.tbl_core.proofs.playing.Works.play.Goals as goal

pub answer-requires : goal.answer-requires
answer-requires g c = record {
  stands = record {
    fits = c.requires.may.fits;
    begun = c.requires.may.begun;
    nothing = search rules;
    ready = are_ready g.C.Validator _ _ c.requires.ready c.requires.may.room c.requires.may.live;
    numbers = c.requires.ready.numbers;
  };
}

pub returns : goal.returns
returns g c =
    let b = g.B.Bank in
    let answers = when_answered b g.C.Validator _ _ c.answer.result c.if-is_err.ensures.value c.answer.ensures in
    record {
      plays = played c.session_end.result (did_play b g.C.Validator _ _ (record {
        began = c.args.entry.now;
        entry = c.answer.new.entry;
        was = _;
        report = c.answer.new.telemetry.report;
        fits = rw (answers.actor_is, answers.request_is) c.requires.may.fits;
        live = c.requires.may.live;
        ready = c.requires.ready;
        answers = answers;
        gets = c.keep_place.ensures;
        played = omega arith;
        images = omega arith;
      }) c.args.entry.now.actor c.args.entry.now.request answers.actor_is answers.request_is c.session_end.result c.session_end.ensures);
      err = search rules;
    }
