use Rattle.std.proofs.Common.{◌≡◌, ◌+◌, ◌-◌, ℕ, List, sym, subst, ◌∙◌, refl, inl, inr, rules, arith}
use Rattle.table_watch.specs.Watching.{watcher}
use Rattle.table_watch.specs.declared.watch.Look.{Look}
use Rattle.tbl_crew.specs.Watching.{HaveMissed}
use Rattle.tbl_registry.specs.declared.pin.Pin.{Pin}
use Rattle.tbl_crew.specs.Moves.{AreKnown, AreTurned}
use Rattle.tbl_crew.specs.declared.held.Turn.{Turn}
use Rattle.tbl_crew.proofs.WatchLemmas.{watched_played, watched_pinned, watched_over, missed_turned, was_err, was_ok}
use Rattle.std.specs.Prelude.{slice_index}
use Rattle.tbl_crew.proofs.MoveLemmas.{one_left}
use Rattle.tbl_crew.proofs.WorkerLemmas.{turned_of, known_kept, known_first, left_first, left_after, ended_after, ended_none}
use Rattle.tbl_crew.proofs.watching.watch_script.Goals.{in-Pinned+else-is_err, in-Played}
use Rattle.tbl_crew.proofs.watching.watch_script.Goals as goal

pub turns-init : goal.turns-init
turns-init g c = let play = c.requires.watch.play in record {
  own = refl;
  seat = play.seat;
  known = known_first _ watcher c.args.place.me.0.seen (search rules) play.seat.1;
  left = left_first watcher (slice_index c.args.room.now.counts.now c.from.result) c.args.place.me.0.seen (one_left c.args.room.now.counts.now watcher c.from.result c.args.place.me.0.seen play.seat.1 c.from.ensures play.left);
  watched = c.requires.watch.watched;
}

pub turns-preserved : goal.turns-preserved
turns-preserved g c =
    let e = c.one_turn-turn.ensures.worked in
    let turn = c.one_turn-turn.result.0 in
    let old = c.turns.place.me.0.seen in
    let seen = c.one_turn-turn.new.place.me.0.seen in
    let plan = c.one_turn-turn.result.1 in
    let many : ℕ = (slice_index c.args.room.now.counts.now c.from.result) - c.turns.nth in
    let all : many + c.turns.nth ≡ (slice_index c.args.room.now.counts.now c.from.result) = omega (arith, c.turns-test.true) in
    let turned = λ (count' : ℕ). turned_of g.B.Bank g.C.Validator.verdict watcher count' turn old seen e.turned in
    let known : AreKnown c.turns.pins.items plan watcher seen = subst (λ (l : List Pin). AreKnown l plan watcher seen) c.as_slice.ensures.value e.known in
    let first = c.args.room.now.lock.now.table.shared.key.value in
    record {
      own = e.own ∙ c.turns.invariant.own;
      seat = e.seat;
      known = elim c.match-turn.branch [
        | in-Pinned+else-is_err w ↦ known_kept c.turns.pins.items c.match-turn.pins.items w.in-Pinned.pin plan watcher many seen (rw w.pins-is w.look_and_keep.ensures.keeps) known
            (subst (λ (t : Turn). AreTurned many watcher t seen) w.in-Pinned.is (turned many (c.turns.invariant.left many all)))
        | in-Played w ↦ rw w.pins-is known
      ];
      left = λ count is. left_after watcher count turn seen e.seat.1 (turned (count + 1) (c.turns.invariant.left (count + 1) (omega (arith, is))))
          (λ same. elim c.match-turn.branch [ in-Pinned+else-is_err w ↦ cc (w.in-Pinned.is, same) | in-Played w ↦ cc (w.in-Played.is, same) ])
          (λ same. elim c.match-turn.branch [ in-Pinned+else-is_err w ↦ cc (w.in-Pinned.is, same) | in-Played w ↦ cc (w.in-Played.is, same) ]);
      watched = elim c.match-turn.branch [
        | in-Pinned+else-is_err w ↦ watched_pinned g.B.Bank g.C.Validator.verdict first c.turns.watch turn old seen c.turns.invariant.watched e.turned w.in-Pinned.pin c.match-turn.watch w.in-Pinned.is
            (w.watch-is ∙ was_ok w.look_and_keep.result (sym w.is_err.ensures.value ∙ w.if-is_err.false) w.look_and_keep.ensures.looked)
        | in-Played w ↦ rw w.watch-is (watched_played g.B.Bank g.C.Validator.verdict first c.turns.watch turn old seen c.turns.invariant.watched e.turned w.in-Played.is)
      ];
    }

pub returns-then-is_err : goal.returns-then-is_err
returns-then-is_err g c =
    let b = g.B.Bank in
    let e = c.one_turn-turn.ensures.worked in
    let first = c.args.room.now.lock.now.table.shared.key.value in
    let seen = c.one_turn-turn.new.place.me.0.seen in
    let missed = missed_turned b g.C.Validator.verdict first c.turns.watch c.one_turn-turn.result.0 c.turns.place.me.0.seen seen c.turns.invariant.watched e.turned (inl (c.in-Pinned.pin, c.in-Pinned.is)) in
    let same = was_err c.look_and_keep.result (sym c.is_err.ensures.value ∙ c.if-is_err.true) c.look_and_keep.ensures.err in
    record {
      watched = record {
        own = e.own ∙ c.turns.invariant.own;
        seat = e.seat;
        ended = tt;
        looked = subst (λ (looks : List Look). HaveMissed b g.C.Validator.verdict first looks seen) (sym same) missed;
      };
    }

pub returns-in-PinMemory : goal.returns-in-PinMemory
returns-in-PinMemory g c =
    let e = c.one_turn-turn.ensures.worked in
    record {
      watched = record {
        own = e.own ∙ c.turns.invariant.own;
        seat = e.seat;
        ended = tt;
        looked = missed_turned g.B.Bank g.C.Validator.verdict c.args.room.now.lock.now.table.shared.key.value c.turns.watch c.one_turn-turn.result.0 c.turns.place.me.0.seen c.one_turn-turn.new.place.me.0.seen c.turns.invariant.watched e.turned (inr c.in-PinMemory.is);
      };
    }

pub returns-in-Ended : goal.returns-in-Ended
returns-in-Ended g c =
    let e = c.one_turn-turn.ensures.worked in
    let many : ℕ = (slice_index c.args.room.now.counts.now c.from.result) - c.turns.nth in
    let all : many + c.turns.nth ≡ (slice_index c.args.room.now.counts.now c.from.result) = omega (arith, c.turns-test.true) in
    let turned = turned_of g.B.Bank g.C.Validator.verdict watcher many c.one_turn-turn.result.0 c.turns.place.me.0.seen c.one_turn-turn.new.place.me.0.seen e.turned in
    record {
      watched = record {
        own = e.own ∙ c.turns.invariant.own;
        seat = e.seat;
        ended = ended_after watcher many c.one_turn-turn.result.0 c.one_turn-turn.new.place.me.0.seen e.seat.1 (turned (c.turns.invariant.left many all)) c.in-Ended.is;
        looked = watched_over g.B.Bank g.C.Validator.verdict c.args.room.now.lock.now.table.shared.key.value c.turns.watch c.one_turn-turn.result.0 c.turns.place.me.0.seen c.one_turn-turn.new.place.me.0.seen c.turns.invariant.watched e.turned c.in-Ended.is;
      };
    }

pub returns : goal.returns
returns g c = record {
  watched = record {
    own = c.turns.invariant.own;
    seat = c.turns.invariant.seat;
    ended = ended_none watcher c.turns.place.me.0.seen (c.turns.invariant.left 0 (omega (arith, c.turns-test.false, c.turns.auto.nth-end)));
    looked = c.turns.invariant.watched;
  };
}
