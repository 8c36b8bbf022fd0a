use Rattle.std.proofs.Common.{◌≡◌, [], ◌∷◌, length, ap, arith, rules}
use Rattle.tbl_live.proofs.SeatLemmas.{gathered_last, may_join, gathered_more, alone}
use Rattle.tbl_live.proofs.service.gather.Goals as goal

pub apps-init : goal.apps-init
apps-init g c =
    gathered_last c.args.lock.now.table.shared.table_id (c.args.ground ∷ c.args.apps.items) c.requires c.in-Some.last (c.args.ground ∷ c.pop.new.self.items) c.leave-place.result c.leave-place.ensures (ap (λ l. c.args.ground ∷ l) c.in-Some.ensures.items)

pub join-requires : goal.join-requires
join-requires g c =
    let may = may_join c.args.lock.now.table.shared.table_id (c.args.ground ∷ c.args.apps.items) c.requires c.in-Some-pop.seat (c.args.ground ∷ c.pop-in-apps.new.self.items) c.leave-lower.result c.leave-lower.ensures
    c.apps.place (c.args.ground ∷ c.apps.apps.items) c.apps.invariant (ap (λ l. c.args.ground ∷ l) c.in-Some-pop.ensures.items) in
    record { own = may.own; idle = may.idle; meet = may.meet }

pub apps-preserved : goal.apps-preserved
apps-preserved g c =
    gathered_more c.args.lock.now.table.shared.table_id (c.args.ground ∷ c.args.apps.items) c.requires c.in-Some-pop.seat (c.args.ground ∷ c.pop-in-apps.new.self.items) c.leave-lower.result c.leave-lower.ensures
    c.apps.place (c.args.ground ∷ c.apps.apps.items) c.apps.invariant (ap (λ l. c.args.ground ∷ l) c.in-Some-pop.ensures.items) c.join.new.seat (record { own = c.join.ensures.own; idle = c.join.ensures.idle })

pub join-requires-2 : goal.join-requires-2
join-requires-2 g c =
    let none : length c.apps.apps.items ≡ 0 = search rules in
    let may = may_join c.args.lock.now.table.shared.table_id (c.args.ground ∷ c.args.apps.items) c.requires c.args.ground [] c.leave-lowest.result c.leave-lowest.ensures
    c.apps.place (c.args.ground ∷ c.apps.apps.items) c.apps.invariant (alone c.args.ground c.apps.apps.items none) in
    record { own = may.own; idle = may.idle; meet = may.meet }

pub returns : goal.returns
returns g c =
    let none : length c.apps.apps.items ≡ 0 = search rules in
    let all = gathered_more c.args.lock.now.table.shared.table_id (c.args.ground ∷ c.args.apps.items) c.requires c.args.ground [] c.leave-lowest.result c.leave-lowest.ensures
    c.apps.place (c.args.ground ∷ c.apps.apps.items) c.apps.invariant (alone c.args.ground c.apps.apps.items none) c.join-2.new.seat (record { own = c.join-2.ensures.own; idle = c.join-2.ensures.idle }) in
    let many = all.many in
    record { own = all.own; idle = all.idle; all = omega (arith, many); each = all.each }
