use Rattle.std.proofs.Common.{ap, subst}
use Rattle.std.specs.Prelude.{is_some}
use Rattle.turn_lock.specs.Turns.{Since, Knows}
use Rattle.turn_lock.proofs.CallSteps.{closes, same_value, some_value}
use Rattle.turn_lock.proofs.lock.TurnLock.close.Goals as goal

pub unwrap-value-requires : goal.unwrap-value-requires
unwrap-value-requires g c =
    let m = g.T.Turns.moves in
    let k = c.args.self.table.shared.key.value in
    let d = closes m g.T.Turns.actors k c.args.seat.id c.args.seat.me.0 c.args.seat.me.0.seen (ap (λ x. x.0) c.requires.idle) c.requires.all _ _ c.close_with-closed.ensures.values.2 in
    ap is_some (some_value m g.T.Turns.actors k _ d.0 _ d.1 c.take.ensures.value)

pub returns-clause-since : goal.returns-clause-since
returns-clause-since g c =
    let m = g.T.Turns.moves in
    let k = c.args.self.table.shared.key.value in
    let d = closes m g.T.Turns.actors k c.args.seat.id c.args.seat.me.0 c.args.seat.me.0.seen (ap (λ x. x.0) c.requires.idle) c.requires.all _ _ c.close_with-closed.ensures.values.2 in
    subst (λ z. Since m k z) (same_value m g.T.Turns.actors k _ d.0 _ _ d.1 c.take.ensures.value c.unwrap-value.ensures) d.2

pub returns-clause-knows : goal.returns-clause-knows
returns-clause-knows g c =
    let m = g.T.Turns.moves in
    let k = c.args.self.table.shared.key.value in
    let d = closes m g.T.Turns.actors k c.args.seat.id c.args.seat.me.0 c.args.seat.me.0.seen (ap (λ x. x.0) c.requires.idle) c.requires.all _ _ c.close_with-closed.ensures.values.2 in
    subst (λ z. Knows m 0 c.args.seat.me.0.seen z) (same_value m g.T.Turns.actors k _ d.0 _ _ d.1 c.take.ensures.value c.unwrap-value.ensures) d.3
