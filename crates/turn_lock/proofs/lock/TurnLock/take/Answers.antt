use Rattle.std.proofs.Common.{Some, ◌∷◌, ap, sym, ◌∙◌, arith}
use Rattle.std.specs.Prelude.{is_some}
use Rattle.atomic_table.specs.Table.{rest}
use Rattle.turn_lock.proofs.Lists.{came_out}
use Rattle.turn_lock.proofs.CallSteps.{takes_at, took}
use Rattle.turn_lock.proofs.lock.TurnLock.take.Goals as goal

pub compare_exchange-requires : goal.compare_exchange-requires
compare_exchange-requires g c =
    let inv = c.loop.invariant in
    let lock = c.args.self.now in
    (inv.2 ∙ c.requires.own, omega (arith, lock.sized.0), takes_at g.T.Turns.moves g.T.Turns.actors lock.table.shared.key.value _ _ _ _ _ (inv.3 ∙ c.requires.idle) c.requires.some)

pub exchange-requires : goal.exchange-requires
exchange-requires g c =
    let inv = c.loop.invariant in
    let e = c.compare_exchange.ensures in
    let lock = c.args.self.now in
    let v = c.args.seat.now.me.0 in
    let t = took g.T.Turns.moves g.T.Turns.actors lock.table.shared.key.value lock.table.shared.table_id.slots _ _ _ v.from v.seen c.if-compare_exchange-eq0.true (inv.3 ∙ c.requires.idle) e.2 in
    let had = ap (λ m. m.1) t.1 in
    (e.0 ∙ (inv.2 ∙ c.requires.own), (Some t.0, had ∙ ap (λ l. (0, Some t.0) ∷ rest l) (sym had)))

pub unwrap-requires : goal.unwrap-requires
unwrap-requires g c =
    let inv = c.loop.invariant in
    let e = c.compare_exchange.ensures in
    let lock = c.args.self.now in
    let v = c.args.seat.now.me.0 in
    let t = took g.T.Turns.moves g.T.Turns.actors lock.table.shared.key.value lock.table.shared.table_id.slots _ _ _ v.from v.seen c.if-compare_exchange-eq0.true (inv.3 ∙ c.requires.idle) e.2 in
    ap is_some (sym (came_out _ _ (Some t.0) _ (ap (λ m. m.1) t.1) c.exchange.ensures.2))
