use Rattle.std.proofs.Common.{rules}
use Rattle.std.specs.Prelude.{slice_index}
use Rattle.tbl_crew.proofs.MoveLemmas.{low_seat, high_seat, low_left, high_left}
use Rattle.tbl_crew.proofs.halves.halve.Goals as goal

pub returns-clause-low : goal.returns-clause-low
returns-clause-low g c = record {
  own = search rules;
  seat = low_seat c.args.place.me c.split-other.new.seat.me c.args.from c.args.count c.requires.play.seat c.split-other.ensures.left;
  left = low_left c.args.place.me c.split-other.new.seat.me c.args.from (slice_index c.args.room.now.counts.now) c.split-other.ensures.left c.requires.play.left;
}

pub returns-clause-high : goal.returns-clause-high
returns-clause-high g c = record {
  own = search rules;
  seat = high_seat c.args.place.me c.split-other.result.me c.args.from c.args.count c.requires.play.seat c.split-other.ensures.right;
  left = high_left c.args.place.me c.split-other.result.me c.args.from (slice_index c.args.room.now.counts.now) c.args.count c.requires.play.seat c.split-other.ensures.right c.requires.play.left;
}
