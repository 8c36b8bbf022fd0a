use Rattle.std.proofs.Common.{rules}
use Rattle.std.specs.Prelude.{slice_index}
use Rattle.tbl_crew.proofs.SeatLemmas.{others_seat, others_left, watcher_seat, watcher_left, watcher_watched}
use Rattle.tbl_crew.specs.Seats.{first_crew}
use Rattle.tbl_crew.proofs.watching.seats_of.Goals as goal

pub returns-clause-others : goal.returns-clause-others
returns-clause-others g c =
    let play = c.requires.all.play in
    record {
      own = search rules;
      seat = others_seat c.args.place.me c.split_last-last.new.seat.me play.seat c.split_last-last.ensures.left;
      left = others_left c.args.place.me c.split_last-last.new.seat.me play.seat (slice_index c.args.room.now.counts.now) c.split_last-last.ensures.left play.left;
    }

pub returns-clause-last : goal.returns-clause-last
returns-clause-last g c =
    let play = c.requires.all.play in
    record {
      play = record {
        own = search rules;
        seat = watcher_seat c.args.place.me c.split_last-last.result.me play.seat c.split_last-last.ensures.right;
        left = watcher_left c.args.place.me c.split_last-last.result.me play.seat (slice_index c.args.room.now.counts.now) c.split_last-last.ensures.right play.left;
      };
      watched = watcher_watched c.args.place.me c.split_last-last.result.me play.seat g.B.Bank g.C.Validator.verdict (first_crew c.args.room.now) c.args.watch.now c.split_last-last.ensures.right c.requires.all.watched;
    }
