use Rattle.std.proofs.Common.{◌≡◌, List, ◌∷◌, length, drop, sym, subst, rules}
use Rattle.tbl_fakes.specs.declared.calm_bank.CalmBank.{CalmBank}
use Rattle.shipped_kit.specs.declared.validators.FirstByte.{FirstByte}
use Rattle.tbl_live.specs.Seats.{SeatView, AreSeats}
use Rattle.tbl_live.proofs.SeatLemmas.{ground_of, are_apps, still_seats}
use Rattle.live_example.specs.Flights.{AreSame}
use Rattle.tbl_live.proofs.SeatCalls.{written}
use Rattle.live_example.proofs.flight.read_and_load.Goals as goal

pub read_beside-requires-clause-ground : goal.read_beside-requires-clause-ground
read_beside-requires-clause-ground g c = λ lifetimes outlive. ground_of _ _ _ c.requires.seats

pub read_beside-requires-clause-apps : goal.read_beside-requires-clause-apps
read_beside-requires-clause-apps g c = λ lifetimes outlive. rw c.as_mut_slice.ensures.value (are_apps _ _ _ c.requires.seats)

pub returns-clause-seats : goal.returns-clause-seats
returns-clause-seats g c =
    let old = c.args.seats.now.apps.items in
    let ground = c.read_beside.new.ground in
    let new = c.read_beside.new.apps in
    let many : c.args.seats.now.apps.len ≡ length new = search rules in
    let same = subst (λ (xs : List (SeatView CalmBank FirstByte)). AreSame xs new) c.as_mut_slice.ensures.value c.read_beside.ensures.apps in
    subst (λ (l : List (SeatView CalmBank FirstByte)). AreSeats c.args.shared.now.service.of (ground ∷ l)) (sym (written c.args.seats.now.apps.len new (drop (length new) old) many))
    (still_seats _ _ _ c.requires.seats ground new c.read_beside.ensures.ground same.count same.each)
