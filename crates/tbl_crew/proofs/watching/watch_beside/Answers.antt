use Rattle.std.proofs.Common.{ap}
use Rattle.tbl_crew.proofs.MoveLemmas.{since_leads}
use Rattle.tbl_crew.proofs.WatchLemmas.{watched_begin, looked_close}
use Rattle.tbl_crew.proofs.SeatLemmas.{first_seat, first_left}
use Rattle.tbl_crew.proofs.EndLemmas.{close_ended, close_others}
use Rattle.tbl_crew.proofs.watching.watch_beside.Goals as goal

pub watch_range-place-requires-clause-all : goal.watch_range-place-requires-clause-all
watch_range-place-requires-clause-all g c lifetimes outlive = record {
  play = record {
    own = c.requires.own;
    seat = first_seat c.args.place.me c.args.lock.table.shared.key.value c.requires.seat;
    left = first_left c.args.place.me c.args.lock.table.shared.key.value c.requires.seat c.args.counts.now c.requires.counted;
  };
  watched = watched_begin g.B.Bank g.C.Validator.verdict c.args.lock.table.shared.key.value c.args.watch c.requires.watch c.requires.empty c.args.place.me.0.seen (ap (λ m. m.0.seen) c.requires.seat);
}

pub returns : goal.returns
returns g c =
    let b = g.B.Bank in
    let v = g.C.Validator.verdict in
    let played = c.watch_range-place in
    record {
      watches = record {
        leads = since_leads b v _ _ c.close.ensures.since;
        others = close_others b v played.result.0.me.0.seen c.close.result played.ensures.sits.seat.1 c.close.ensures.knows played.ensures.others;
        ended = close_ended b v played.result.2 played.result.0.me.0.seen c.close.result played.ensures.sits.seat.1 c.close.ensures.knows played.ensures.ended;
        looked = looked_close b v c.args.lock.table.shared.key.value played.result.1 played.result.2 played.result.0.me.0.seen c.close.result played.ensures.looked c.close.ensures.knows;
      };
    }
