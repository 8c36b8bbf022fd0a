use Rattle.std.proofs.Common.{ap, None, ◌∙◌, rules}
use Rattle.tbl_crew.proofs.RestLemmas.{moved_by}
use Rattle.tbl_crew.proofs.WorkerLemmas.{known_back, turned_back}
use Rattle.tbl_crew.proofs.turns.plain_turn.Goals as goal

pub put_back-requires-clause-moves : goal.put_back-requires-clause-moves
put_back-requires-clause-moves g c =
    let work = c.requires.work in
    let t = c.turn-turn in
    let at = ap (λ m. m.0.from) c.take-crew.ensures.holds ∙ ap (λ m. m.0.from) work.seat.0 in
    rw (c.of-before.ensures, at) (moved_by g.B.Bank c.take-crew.result t.new.self c.args.actor g.C.Validator.verdict t.result t.ensures.turn)

pub returns : goal.returns
returns g c =
    let b = g.B.Bank in
    let v = g.C.Validator.verdict in
    let work = c.requires.work in
    let t = c.turn-turn in
    let moved = moved_by b c.take-crew.result t.new.self c.args.actor v t.result t.ensures.turn in
    record {
      worked = record {
        own = search rules;
        seat = search rules;
        known = known_back b v c.args.place.now.me c.take-crew.new.seat.me c.args.actor c.args.pins.now None c.take-crew.result work.seat work.known c.take-crew.ensures.knows c.take-crew.ensures.holds
            t.new.self c.put_back.new.seat.me moved c.put_back.ensures.idle _ c.next_read-next.ensures;
        turned = turned_back b v c.args.place.now.me c.take-crew.new.seat.me c.args.actor c.args.pins.now None c.take-crew.result work.seat work.known c.take-crew.ensures.knows c.take-crew.ensures.holds
            t.new.self c.put_back.new.seat.me moved c.put_back.ensures.idle t.result t.ensures.turn.turns;
      };
    }
