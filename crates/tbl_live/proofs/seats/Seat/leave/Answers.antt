use Rattle.std.proofs.Common.{ap, refl}
use Rattle.tbl_kinds.specs.Records.{actor_number}
use Rattle.tbl_live.specs.Seats.{calls_in}
use Rattle.tbl_live.proofs.seats.Seat.leave.Goals as goal

pub returns : goal.returns
returns g c =
    let i = c.self.invariant in
    let seen = ap (λ m. m.0.seen) i.idle in
    rw (← c.self.view_is) (record { own = refl; last = i.last; idle = i.idle; one = record { number = refl; calls = ap (calls_in (actor_number c.self.inside.actor)) seen; tells = i.tells } })
