use Rattle.std.proofs.Common.{Ok, refl, arith, rules}
use Rattle.request_effects.specs.Reports.{nothing_reported}
use Rattle.reply_packets.specs.Counters.{counts_view}
use Rattle.tbl_core.proofs.Ready.{are_ready}
use Rattle.tbl_core.proofs.Steps.{did_play}
use Rattle.tbl_core.proofs.playing.Works.play_read.Goals as goal

pub answer_lent-requires-clause-ready : goal.answer_lent-requires-clause-ready
answer_lent-requires-clause-ready g c = are_ready g.C.Validator _ _ c.requires.ready c.requires.may.room c.requires.may.live

pub returns-clause-played : goal.returns-clause-played
returns-clause-played g c =
    let b = g.B.Bank in
    let answers = c.answer_lent.ensures.answers (counts_view c.args.self.now.telemetry.counters) c.requires.ready.numbers in
    record {
      plays = did_play b g.C.Validator _ _ (record {
        began = c.args.entry.now;
        entry = c.answer_lent.new.entry;
        was = nothing_reported;
        report = nothing_reported;
        fits = rw (answers.actor_is, answers.request_is) c.requires.may.fits;
        live = c.requires.may.live;
        ready = c.requires.ready;
        answers = answers;
        gets = c.keep_place.ensures;
        played = omega arith;
        images = omega arith;
      }) c.args.entry.now.actor c.args.entry.now.request answers.actor_is answers.request_is (Ok tt) (rw c.answer_lent.ensures.given refl);
      err = search rules;
    }
