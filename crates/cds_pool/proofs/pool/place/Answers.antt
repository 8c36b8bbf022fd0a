use Rattle.std.proofs.Common.{sym, ◌∙◌}
use Rattle.tbl_kinds.specs.Places.{fits}
use Rattle.cds_pool.proofs.Least.{IsLeast}
use Rattle.cds_pool.proofs.First.{least-place}
use Rattle.cds_pool.proofs.pool.place.Goals as goal

pub returns-in-Some : goal.returns-in-Some
returns-in-Some c =
    let found = c.least_place.ensures in
    let least : IsLeast (fits c.args.taken.now c.args.size) c.least_place.result = record { found = found.found; within = found.within; least = found.least; none = found.none } in
    sym c.in-Some.is ∙ least-place c.args.taken.now c.args.size c.least_place.result least

pub returns-in-None : goal.returns-in-None
returns-in-None c =
    let found = c.least_place.ensures in
    let least : IsLeast (fits c.args.taken.now c.args.size) c.least_place.result = record { found = found.found; within = found.within; least = found.least; none = found.none } in
    sym c.in-None.is ∙ least-place c.args.taken.now c.args.size c.least_place.result least
