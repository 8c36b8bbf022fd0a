use Rattle.std.proofs.Common.{ap, arith}
use Rattle.turn_lock.proofs.Steps.{joins}
use Rattle.turn_lock.proofs.lock.TurnLock.join.Goals as goal

pub join_seat-requires : goal.join_seat-requires
join_seat-requires g c =
    let lock = c.args.self.now in (
      c.requires.own.0,
      c.requires.own.1,
      ap (λ m. m.1) c.requires.idle.1,
      omega (arith, lock.sized.0),
      joins g.T.Turns.moves g.T.Turns.actors lock.table.shared.key.value c.args.seat.now.id c.args.other.id c.args.seat.now.me.0 c.args.other.me.0 c.requires.meet (ap (λ m. m.0.taken) c.requires.idle.0) (ap (λ m. m.0.taken) c.requires.idle.1),
    )
