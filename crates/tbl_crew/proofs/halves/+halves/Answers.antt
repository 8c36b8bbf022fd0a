use Rattle.std.proofs.Common.{◌-◌, ◌/◌, sym, ◌∙◌, arith}
use Rattle.tbl_crew.proofs.MoveLemmas.{played_both}
use Rattle.tbl_crew.proofs.halves.+halves.Goals as goal

pub returns-then-ask_nothing : goal.returns-then-ask_nothing
returns-then-ask_nothing g t c =
    let low = c.play_range-place.ensures.played in
    let high = c.play_range-other.ensures.played in
    let half = c.args.count / 2 in
    record {
      played = played_both c.args.place c.play_range-place.result c.play_range-other.result c.join.new.seat c.args.from half (c.args.count - half) c.args.count (low.own ∙ c.halve-place.ensures.low.own ∙ sym c.requires.play.own)
          low.seat high.seat low.ended high.ended c.join.ensures.own c.join.ensures.idle (omega arith);
    }

pub returns : goal.returns
returns g t c =
    let low = c.join-other.ensures.second in
    let high = c.join-other.ensures.first in
    let half = c.args.count / 2 in
    record {
      played = played_both c.args.place c.join-other.result.1 c.join-other.result.0 c.join-2.new.seat c.args.from half (c.args.count - half) c.args.count (low.own ∙ c.halve-place.ensures.low.own ∙ sym c.requires.play.own)
          low.seat high.seat low.ended high.ended c.join-2.ensures.own c.join-2.ensures.idle (omega arith);
    }
