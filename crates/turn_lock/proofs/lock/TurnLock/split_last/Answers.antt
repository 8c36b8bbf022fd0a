use Rattle.std.proofs.Common.{ap, arith, ◌≤◌, ◌-◌}
use Rattle.std.specs.Prelude.{length}
use Rattle.turn_lock.proofs.Steps.{splits}
use Rattle.turn_lock.proofs.lock.TurnLock.split_last.Goals as goal

pub split_seat-requires : goal.split_seat-requires
split_seat-requires g c =
    let lock = c.args.self.now in
    let v = c.args.seat.now.me.0 in
    let fewer : length v.seen - 1 ≤ length v.seen = omega arith in
    (c.requires.own, omega (arith, lock.sized.0), splits g.T.Turns.moves g.T.Turns.actors lock.table.shared.key.value c.args.seat.now.id v _ fewer (ap (λ m. m.0.taken) c.requires.idle))
