use Rattle.tbl_crew.proofs.WorkerLemmas.{known_less}
use Rattle.tbl_crew.proofs.turns.one_turn.Goals as goal

pub plain_turn-requires : goal.plain_turn-requires
plain_turn-requires g c =
    let work = c.requires.work in
    record {
      work = record { within = work.within; own = work.own; seat = work.seat; known = known_less c.args.pins.now c.args.plan c.args.actor c.args.place.now.me.0.seen work.known };
    }
