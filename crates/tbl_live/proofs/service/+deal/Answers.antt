use Rattle.std.proofs.Common.{◌≡◌, ◌+◌, ◌-◌, ◌/◌, ◌<◌, ◌≤◌, subst, sym, ◌∙◌, arith, rules}
use Rattle.std.specs.Prelude.{replicate, vec_capacity}
use Rattle.turn_lock.specs.Turns.{Idle}
use Rattle.tbl_live.specs.Seats.{AreDealt, MayDeal, IsOfActor, IsFresh}
use Rattle.tbl_live.proofs.SeatLemmas.{fresh_seat, fresh_is, low_dealt, high_dealt, dealt_push}
use Rattle.tbl_live.proofs.service.+deal.Goals as goal

pub make-requires : goal.make-requires
make-requires g t c =
    let may = c.requires.place in
    let first = c.args.lock.now.table.shared.key.value in
    let one : c.args.count ≡ 1 = search in
    fresh_seat first may.base may.calm c.args.place.table_id c.args.place.me c.args.from (subst (λ n. Idle c.args.place.me c.args.from (replicate n first)) one may.idle)

pub returns-then-count-eq1-clause-dealt : goal.returns-then-count-eq1-clause-dealt
returns-then-count-eq1-clause-dealt g t c =
    let may = c.requires.place in
    let first = c.args.lock.now.table.shared.key.value in
    let id = c.args.lock.now.table.shared.table_id in
    let one : c.args.count ≡ 1 = search in
    let idle = subst (λ n. Idle c.args.place.me c.args.from (replicate n first)) one may.idle in
    let seat = c.make.result in
    let fresh = subst (λ i. IsOfActor i c.args.from seat × IsFresh seat) may.own (fresh_is first may.base may.calm c.args.place.table_id c.args.place.me c.args.from idle seat c.make.ensures) in
    subst (λ n. AreDealt id (c.args.from + n) c.push_reserved.new.self.items) (sym one) (subst (AreDealt id (c.args.from + 1)) (sym c.push_reserved.ensures.items) (dealt_push id c.args.from c.args.seats.now.items seat c.requires.before fresh))

pub deal-requires : goal.deal-requires
deal-requires g t c =
    let may = c.requires.place in
    let first = c.args.lock.now.table.shared.key.value in
    let many : 2 ≤ c.args.count = omega arith in
    let room = c.requires.room in
    let within = may.within in
    let enough : c.args.from + c.args.count / 2 ≤ vec_capacity c.args.seats.now = omega (arith, room) in
    let place : MayDeal c.args.lock.now.table.shared.table_id first c.split-upper.new.seat c.args.from (c.args.count / 2) = record {
      own = c.split-upper.ensures.own.0 ∙ may.own;
      idle = low_dealt c.args.place.me c.split-upper.new.seat.me c.split-upper.result.me c.args.from c.args.count first may.idle c.split-upper.ensures.left;
      some = omega (arith, many);
      within = omega (arith, within);
      base = may.base;
      calm = may.calm;
    } in
    search rules

pub deal-requires-2 : goal.deal-requires-2
deal-requires-2 g t c =
    let may = c.requires.place in
    let first = c.args.lock.now.table.shared.key.value in
    let many : 2 ≤ c.args.count = omega arith in
    let room = c.requires.room in
    let within = may.within in
    let kept = c.deal.ensures.room in
    let enough : (c.args.from + c.args.count / 2) + (c.args.count - c.args.count / 2) ≤ vec_capacity c.deal.new.seats = omega (arith, room, kept) in
    let dealt = c.deal.ensures.dealt in
    let place : MayDeal c.args.lock.now.table.shared.table_id first c.split-upper.result (c.args.from + c.args.count / 2) (c.args.count - c.args.count / 2) = record {
      own = c.split-upper.ensures.own.1 ∙ may.own;
      idle = high_dealt c.args.place.me c.split-upper.new.seat.me c.split-upper.result.me c.args.from c.args.count first may.idle c.split-upper.ensures.right;
      some = omega (arith, many);
      within = omega (arith, within);
      base = may.base;
      calm = may.calm;
    } in
    search rules
