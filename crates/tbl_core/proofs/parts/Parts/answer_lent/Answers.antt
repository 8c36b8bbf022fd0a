use Rattle.std.proofs.Common.{refl, sym, rules}
use Rattle.store_requests.proofs.Moments.{uncalled_leaves}
use Rattle.tbl_core.specs.Service.{parts_view}
use Rattle.tbl_core.proofs.Answering.{quietly_answered}
use Rattle.tbl_core.proofs.Doing.{quietly}
use Rattle.tbl_core.proofs.Nothing.{silent}
use Rattle.tbl_core.proofs.Verdicts.{none_judged}
use Rattle.tbl_core.proofs.parts.Parts.answer_lent.Goals as goal

pub returns : goal.returns
returns g c =
    let b = g.B.Bank in
    let none = none_judged g.C.Validator in
    let is = c.read_lent-answer.ensures.effect in record {
      answers = λ counts are. rw (c.put_answer.ensures, c.in-App-Read.is-1, c.in-App-Read.is-0) (quietly_answered b g.C.Validator _ _ refl refl
          (silent _ refl refl refl)
          (rw c.requires.begun.nothing (quietly g.C.Validator 0 (parts_view c.args.self.now) (parts_view c.args.self.now) _ _
          (λ s stands. let e = is s stands.tables stands.apps in search rules) (λ s stands. let e = is s stands.tables stands.apps in search rules) refl c.read_lent-answer.ensures.quiet))
          c.requires.ready
          (λ told blocks stands. uncalled_leaves b g.met.B.Bank.leaves_only_now g.met.B.Bank.only_now c.args.self.now.store _ blocks refl (stands.shows told))
          c.requires.begun.reply.no_packets refl refl are);
      given = c.requires.begun.nothing;
      lent = rw (c.put_answer.ensures, c.in-App-Read.is-1, c.in-App-Read.is-0) (record {
        answered = λ s stands. let e = is s stands.tables stands.apps in record { effect = _; effect_is = refl; status = sym e.status; bytes = sym e.bytes };
        lent = c.read_lent-answer.ensures.lent;
      });
    }
