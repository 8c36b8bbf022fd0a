use Rattle.std.proofs.Common.{Some, ◌∷◌, ap, ◌∙◌, arith}
use Rattle.atomic_table.specs.Table.{rest}
use Rattle.turn_lock.proofs.CallSteps.{gives_at}
use Rattle.turn_lock.proofs.lock.TurnLock.put_back.Goals as goal

pub store-requires : goal.store-requires
store-requires g c =
    let e = c.exchange.ensures in
    let lock = c.args.self.now in
    let v = c.args.seat.now.me.0 in (
      e.0 ∙ c.requires.own,
      omega (arith, lock.sized.0),
      gives_at g.T.Turns.moves g.T.Turns.actors lock.table.shared.key.value _ _ _ v.from v.seen c.args.before.now.value c.args.value
          (e.3 ∙ ap (λ m. (m.0, (0, Some c.args.value) ∷ rest m.1)) c.requires.holds) c.requires.one c.requires.moves,
    )
