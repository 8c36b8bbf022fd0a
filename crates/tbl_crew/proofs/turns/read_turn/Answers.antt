use Rattle.std.proofs.Common.{ap, refl, Some, ◌∙◌, rules}
use Rattle.tbl_registry.specs.declared.pin.Pin.{Pin}
use Rattle.tbl_core.specs.Service.{IsOfPin}
use Rattle.tbl_crew.proofs.RestLemmas.{moved_by}
use Rattle.tbl_crew.proofs.WorkerLemmas.{known_taken, known_back, turned_back, lent_back, lent_has, lent_handle, next_slice}
use Rattle.tbl_crew.proofs.turns.read_turn.Goals as goal

pub put_back-requires-clause-moves : goal.put_back-requires-clause-moves
put_back-requires-clause-moves g c =
    let work = c.requires.work in
    let t = c.turn_read-turn in
    let at = ap (λ m. m.0.from) c.take-crew.ensures.holds ∙ ap (λ m. m.0.from) work.seat.0 in
    rw (c.of-before.ensures, at) (moved_by g.B.Bank c.take-crew.result t.new.self c.args.actor g.C.Validator.verdict t.result t.ensures.turn)

pub returns-clause-worked : goal.returns-clause-worked
returns-clause-worked g c =
    let b = g.B.Bank in
    let v = g.C.Validator.verdict in
    let work = c.requires.work in
    let t = c.turn_read-turn in
    let moved = moved_by b c.take-crew.result t.new.self c.args.actor v t.result t.ensures.turn in
    record {
      own = search rules;
      seat = search rules;
      known = known_back b v c.args.place.now.me c.take-crew.new.seat.me c.args.actor c.args.pins.now (Some c.args.taken.read) c.take-crew.result work.seat work.known c.take-crew.ensures.knows c.take-crew.ensures.holds
          t.new.self c.put_back.new.seat.me moved c.put_back.ensures.idle _ c.next_read-next.ensures;
      turned = turned_back b v c.args.place.now.me c.take-crew.new.seat.me c.args.actor c.args.pins.now (Some c.args.taken.read) c.take-crew.result work.seat work.known c.take-crew.ensures.knows c.take-crew.ensures.holds
          t.new.self c.put_back.new.seat.me moved c.put_back.ensures.idle t.result t.ensures.turn.turns;
    }

pub returns-clause-lent : goal.returns-clause-lent
returns-clause-lent g c =
    let b = g.B.Bank in
    let v = g.C.Validator.verdict in
    let work = c.requires.work in
    let t = c.turn_read-turn in
    lent_back b v c.args.place.now.me c.take-crew.new.seat.me c.args.actor c.args.pins.now (Some c.args.taken.read) c.take-crew.result work.seat work.known c.take-crew.ensures.knows c.take-crew.ensures.holds
    t.new.self c.put_back.new.seat.me
    (moved_by b c.take-crew.result t.new.self c.args.actor v t.result t.ensures.turn)
    c.put_back.ensures.idle (record { pin = c.args.taken.pin.now; slice = c.args.taken.slice; turn = t.result }) t.ensures.lent

pub turn_read-turn-requires-clause-pin : goal.turn_read-turn-requires-clause-pin
turn_read-turn-requires-clause-pin g c =
    let work = c.requires.work in
    let k = known_taken g.B.Bank g.C.Validator.verdict c.args.place.now.me c.take-crew.new.seat.me c.args.actor c.args.pins.now (Some c.args.taken.read) c.take-crew.result work.seat work.known c.take-crew.ensures.knows c.take-crew.ensures.holds in
    lent_has (λ (p : Pin). IsOfPin p c.take-crew.result.core) c.args.pins.now c.args.taken.read.handle c.args.taken.pin.now k.each c.requires.taken.lent

pub turn_read-turn-requires-clause-slice : goal.turn_read-turn-requires-clause-slice
turn_read-turn-requires-clause-slice g c =
    let work = c.requires.work in
    let k = known_taken g.B.Bank g.C.Validator.verdict c.args.place.now.me c.take-crew.new.seat.me c.args.actor c.args.pins.now (Some c.args.taken.read) c.take-crew.result work.seat work.known c.take-crew.ensures.knows c.take-crew.ensures.holds in
    next_slice c.args.taken.pin.now c.args.taken.read _ c.args.taken.slice.list (k.next c.args.taken.read refl) (lent_handle c.args.pins.now c.args.taken.read.handle c.args.taken.pin.now c.requires.taken.lent) c.requires.taken.slice_is
