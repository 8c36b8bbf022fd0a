use Rattle.std.proofs.Common.{List, refl, subst, sym}
use Rattle.cds_layout.proofs.SingleBlocks.{store-single}
use Rattle.tbl_kinds.specs.Buffers.{Buffer}
use Rattle.tbl_session.specs.Recovery.{IsHistory}
use Rattle.tbl_session.specs.Session.{opening_of, ran}
use Rattle.tbl_stream.specs.Opening.{opening_by}
use Rattle.tbl_top.specs.Histories.{history_of}
use Rattle.tbl_top.specs.Words.{Asks}
use Rattle.tbl_top.proofs.HistoryLemmas.{served_of, answered_of, up}
use Rattle.tbl_top.proofs.RecoveredLaws.{recovers_both, recovers_last}
use Rattle.tbl_top.proofs.twice.run_again.Goals as goal

pub returns : goal.returns
returns g c =
    let b = g.B.Bank in
    let n = g.N.Bank in
    let met = g.met.B.Bank g.world.𝓛 g.world.𝓜 g.world.𝓡 ((λ s x. x), (λ x. x), (λ x. x), λ x. x) in
    let image = n.now c.reset.result in
    let r = ran g.S.Source g.K.Sink (c.args.first.now.source, c.args.first.now.sink) (c.run-status.new.source, c.run-status.new.sink) c.run-status.result in
    let next = ran g.S.Source g.K.Sink (c.args.second.now.source, c.args.second.now.sink) (c.run.new.source, c.run.new.sink) c.run.result in
    record {
      recovers = (
        c.run-status.result.1,
        c.reset.result,
        c.reset.ensures.left_now,
        λ word next_word admit next_admit asks next_asks.
            let o = opening_by b c.args.service admit in
            let next_o = opening_of n c.reset.result c.args.next_kit.items next_admit in
            let asked = subst (λ (words : List Buffer). Asks words word admit) (sym c.deref.ensures.value) asks in
            let next_asked = subst (λ (words : List Buffer). Asks words next_word next_admit) (sym c.deref-2.ensures.value) next_asks in
            let first = c.run-status.ensures.outcome word admit asked in
            let second = c.run.ensures.outcome next_word next_admit next_asked in
            let entries = history_of word b g.C.Validator.verdict o r first in
            let next_entries = history_of next_word n g.D.Validator.verdict next_o next second in
            let history : b.tells_moments → IsHistory o.state entries = λ told. record { tables = refl; single = store-single (b.now c.args.service.bank); answered = answered_of b g.C.Validator.verdict o r word first (met.tells_both told) } in
            let answered = answered_of n g.D.Validator.verdict next_o next next_word second in (
              record { outcome = first; completes = c.run-status.ensures.complete word admit asked; entries = entries; served = refl },
              record { outcome = second; completes = c.run.ensures.complete next_word next_admit next_asked; entries = next_entries; served = refl },
              λ plays told told_next.
                  let moments = (served_of b g.C.Validator.verdict o r word plays first).moments told in
                  recovers_both o.state entries image c.args.next_kit.items next_admit next_entries (history told)
                  (moments.each image (rw (← c.of-began.ensures) (c.reset.ensures.left told told_next (rw c.of-began.ensures moments.later))))
                  (answered told_next),
              λ plays told told_next may ends.
                  recovers_last o.state entries image c.args.next_kit.items next_admit next_entries (history told)
                  ((served_of b g.C.Validator.verdict o r word plays first).exit told image may)
                  (up b g.C.Validator.verdict o r word plays first ends)
                  (answered told_next),
            ),
      );
      same_words = (refl, refl);
      room = c.run.ensures.room;
    }
