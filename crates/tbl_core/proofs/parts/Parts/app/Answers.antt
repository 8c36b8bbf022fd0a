use Rattle.std.proofs.Common.{refl, rules}
use Rattle.store_requests.proofs.Moments.{uncalled_leaves}
use Rattle.tbl_core.proofs.Answering.{quietly_answered}
use Rattle.tbl_core.proofs.Nothing.{silent}
use Rattle.tbl_core.proofs.parts.Parts.app.Goals as goal

pub returns-in_ok-answer-in_default : goal.returns-in_ok-answer-in_default
returns-in_ok-answer-in_default g c =
    let b = g.B.Bank in
    let does = c.in_ok-answer-in_default.ensures.does in
    rw c.put_answer.ensures (quietly_answered b g.C.Validator _ _ refl refl
    (silent c.args.entry.now.request (search rules) (search rules) (search rules))
    (rw (c.requires.stands.begun.nothing, c.requires.actor) does) c.requires.stands.ready
    (λ told blocks stands. uncalled_leaves b g.met.B.Bank.leaves_only_now g.met.B.Bank.only_now c.args.self.now.store _ blocks does.store (stands.shows told))
    c.requires.stands.begun.reply.no_packets c.requires.stands.nothing refl c.requires.stands.numbers)
