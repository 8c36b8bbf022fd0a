use Rattle.std.proofs.Common.{refl}
use Rattle.store_requests.proofs.Moments.{uncalled_leaves}
use Rattle.tbl_core.proofs.Answering.{quietly_answered}
use Rattle.tbl_core.proofs.Nothing.{silent_uplink}
use Rattle.tbl_core.proofs.parts.Parts.uplink_call.Goals as goal

pub returns : goal.returns
returns g c =
    let b = g.B.Bank in
    let does = c.in_ok-answer.ensures.quietly.does in
    λ counts are. rw (c.put_answer.ensures, c.in_ok-answer.ensures.request) (quietly_answered b g.C.Validator _ _ refl refl
    (silent_uplink c.args.entry.now.request c.requires.uplink)
    (rw (c.requires.begun.nothing, c.requires.begun.reply.no_bytes, c.requires.actor) does) c.requires.ready
    (λ told blocks stands. uncalled_leaves b g.met.B.Bank.leaves_only_now g.met.B.Bank.only_now c.args.self.now.store _ blocks does.store (stands.shows told))
    c.requires.begun.reply.no_packets refl refl are)
