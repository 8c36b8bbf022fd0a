use Rattle.tbl_live.proofs.SeatLemmas.{ground_of}
use Rattle.tbl_live.proofs.SeatCalls.{still_ground}
use Rattle.test_live.proofs.lasting.call_by_ground.Goals as goal

pub call_all-requires : goal.call_all-requires
call_all-requires g c = record { ground = ground_of _ _ _ c.requires.seats }

pub returns : goal.returns
returns g c = record { seats = still_ground _ _ _ c.requires.seats _ c.call_all.ensures.same }
