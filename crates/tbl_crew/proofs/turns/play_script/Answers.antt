use Rattle.std.proofs.Common.{◌≡◌, ◌+◌, ◌-◌, ℕ, List, subst, ◌∙◌, refl, rules, arith, inl, inr}
use Rattle.tbl_registry.specs.declared.pin.Pin.{Pin}
use Rattle.tbl_crew.specs.Moves.{AreKnown, AreTurned}
use Rattle.tbl_crew.specs.declared.held.Turn.{Turn}
use Rattle.std.specs.Prelude.{slice_index}
use Rattle.tbl_crew.proofs.MoveLemmas.{one_left}
use Rattle.tbl_crew.proofs.WorkerLemmas.{turned_of, known_kept, known_first, left_first, left_after, ended_after, ended_none}
use Rattle.tbl_crew.proofs.turns.play_script.Goals.{in-Pinned, in-Played}
use Rattle.tbl_crew.proofs.turns.play_script.Goals as goal

pub turns-init : goal.turns-init
turns-init g c = record {
  own = refl;
  seat = c.requires.play.seat;
  known = known_first _ c.args.actor c.args.place.me.0.seen (search rules) c.requires.play.seat.1;
  left = left_first c.args.actor (slice_index c.args.room.now.counts.now c.from.result) c.args.place.me.0.seen (one_left c.args.room.now.counts.now c.args.actor c.from.result c.args.place.me.0.seen c.requires.play.seat.1 c.from.ensures c.requires.play.left);
}

pub turns-preserved : goal.turns-preserved
turns-preserved g c =
    let e = c.one_turn-turn.ensures.worked in
    let turn = c.one_turn-turn.result.0 in
    let seen = c.one_turn-turn.new.place.me.0.seen in
    let plan = c.one_turn-turn.result.1 in
    let many : ℕ = (slice_index c.args.room.now.counts.now c.from.result) - c.turns.nth in
    let all : many + c.turns.nth ≡ (slice_index c.args.room.now.counts.now c.from.result) = omega (arith, c.turns-test.true) in
    let turned = λ (count' : ℕ). turned_of g.B.Bank g.C.Validator.verdict c.args.actor count' turn c.turns.place.me.0.seen seen e.turned in
    let known : AreKnown c.turns.pins.items plan c.args.actor seen = subst (λ (l : List Pin). AreKnown l plan c.args.actor seen) c.as_slice.ensures.value e.known in
    record {
      own = e.own ∙ c.turns.invariant.own;
      seat = e.seat;
      known = elim c.match-turn.branch [
        | in-Pinned w ↦ known_kept c.turns.pins.items c.match-turn.pins.items w.in-Pinned.pin plan c.args.actor many seen (rw w.pins-is w.keep.ensures) known
            (subst (λ (t : Turn). AreTurned many c.args.actor t seen) w.in-Pinned.is (turned many (c.turns.invariant.left many all)))
        | in-Played w ↦ rw w.pins-is known
      ];
      left = λ count is. left_after c.args.actor count turn seen e.seat.1 (turned (count + 1) (c.turns.invariant.left (count + 1) (omega (arith, is))))
          (λ same. elim c.match-turn.branch [ in-Pinned w ↦ cc (w.in-Pinned.is, same) | in-Played w ↦ elim w.in-Played.is [ inl is ↦ cc (is, same) | inr is ↦ cc (is, same) ] ])
          (λ same. elim c.match-turn.branch [ in-Pinned w ↦ cc (w.in-Pinned.is, same) | in-Played w ↦ elim w.in-Played.is [ inl is ↦ cc (is, same) | inr is ↦ cc (is, same) ] ]);
    }

pub returns-in-Ended : goal.returns-in-Ended
returns-in-Ended g c =
    let e = c.one_turn-turn.ensures.worked in
    let many : ℕ = (slice_index c.args.room.now.counts.now c.from.result) - c.turns.nth in
    let all : many + c.turns.nth ≡ (slice_index c.args.room.now.counts.now c.from.result) = omega (arith, c.turns-test.true) in
    let turned = turned_of g.B.Bank g.C.Validator.verdict c.args.actor many c.one_turn-turn.result.0 c.turns.place.me.0.seen c.one_turn-turn.new.place.me.0.seen e.turned in
    record {
      played = record {
        own = e.own ∙ c.turns.invariant.own;
        seat = e.seat;
        ended = ended_after c.args.actor many c.one_turn-turn.result.0 c.one_turn-turn.new.place.me.0.seen e.seat.1 (turned (c.turns.invariant.left many all)) c.in-Ended.is;
      };
    }

pub returns : goal.returns
returns g c = record {
  played = record {
    own = c.turns.invariant.own;
    seat = c.turns.invariant.seat;
    ended = ended_none c.args.actor c.turns.place.me.0.seen (c.turns.invariant.left 0 (omega (arith, c.turns-test.false, c.turns.auto.nth-end)));
  };
}
