use Rattle.std.proofs.Common.{[], ◌∷◌, List, sym, subst, inl, inr, rules}
use Rattle.std.specs.Prelude.{IsErr}
use Rattle.table_watch.specs.Watching.{watcher}
use Rattle.table_watch.specs.declared.watch.Look.{Look}
use Rattle.tbl_crew.specs.Watching.{HasMissed}
use Rattle.tbl_crew.proofs.RestLemmas.{ended_now, moved_by, rest_on}
use Rattle.tbl_crew.proofs.WatchLemmas.{own_turn, watched_played, watched_pinned, watched_over, missed_turned, handed_on}
use Rattle.tbl_crew.proofs.watching.watch_script_rest.Goals as goal

pub requests-preserved : goal.requests-preserved
requests-preserved g c =
    let b = g.B.Bank in
    let was = c.requests.invariant in
    let turned = c.turn.ensures.turn.turns in
    let moved = moved_by b c.requests.crew c.turn.new.self watcher g.C.Validator.verdict c.turn.result c.turn.ensures.turn in
    let own = own_turn b g.C.Validator.verdict c.requests.crew c.turn.new.self c.turn.result turned moved in
    record {
      rest = rest_on b g.C.Validator.verdict c.args.crew.now c.requests.crew c.turn.new.self watcher c.turn.result was.rest c.turn.ensures.turn;
      watched = λ first had. watched_played b g.C.Validator.verdict first c.requests.watch c.turn.result (c.requests.crew ∷ []) (c.turn.new.self ∷ []) (was.watched first had) own c.in-Played.is;
    }

pub requests-preserved-in-Pinned : goal.requests-preserved-in-Pinned
requests-preserved-in-Pinned g c =
    let b = g.B.Bank in
    let was = c.requests.invariant in
    let turned = c.turn.ensures.turn.turns in
    let moved = moved_by b c.requests.crew c.turn.new.self watcher g.C.Validator.verdict c.turn.result c.turn.ensures.turn in
    let own = own_turn b g.C.Validator.verdict c.requests.crew c.turn.new.self c.turn.result turned moved in
    record {
      rest = rest_on b g.C.Validator.verdict c.args.crew.now c.requests.crew c.turn.new.self watcher c.turn.result was.rest c.turn.ensures.turn;
      watched = λ first had. watched_pinned b g.C.Validator.verdict first c.requests.watch c.turn.result (c.requests.crew ∷ []) (c.turn.new.self ∷ []) (was.watched first had) own c.in-Pinned.pin c.look.new.self c.in-Pinned.is c.in_ok-look-in-Pinned.ensures.look;
    }

pub returns-in-Ended : goal.returns-in-Ended
returns-in-Ended g c =
    let b = g.B.Bank in
    let was = c.requests.invariant in
    let turned = c.turn.ensures.turn.turns in
    let moved = moved_by b c.requests.crew c.turn.new.self watcher g.C.Validator.verdict c.turn.result c.turn.ensures.turn in
    let own = own_turn b g.C.Validator.verdict c.requests.crew c.turn.new.self c.turn.result turned moved in
    record {
      rest = rest_on b g.C.Validator.verdict c.args.crew.now c.requests.crew c.turn.new.self watcher c.turn.result was.rest c.turn.ensures.turn;
      ended = ended_now b c.requests.crew c.turn.new.self watcher c.turn.result turned c.in-Ended.is;
      looked = λ first had. watched_over b g.C.Validator.verdict first c.requests.watch c.turn.result (c.requests.crew ∷ []) (c.turn.new.self ∷ []) (was.watched first had) own c.in-Ended.is;
    }

pub returns-in_err-look-in-Pinned-clause-rest : goal.returns-in_err-look-in-Pinned-clause-rest
returns-in_err-look-in-Pinned-clause-rest g c = rest_on g.B.Bank g.C.Validator.verdict c.args.crew.now c.requests.crew c.turn.new.self watcher c.turn.result c.requests.invariant.rest c.turn.ensures.turn

pub returns-in-PinMemory-clause-rest : goal.returns-in-PinMemory-clause-rest
returns-in-PinMemory-clause-rest g c = rest_on g.B.Bank g.C.Validator.verdict c.args.crew.now c.requests.crew c.turn.new.self watcher c.turn.result c.requests.invariant.rest c.turn.ensures.turn

pub returns-in_err-look-in-Pinned-clause-looked : goal.returns-in_err-look-in-Pinned-clause-looked
returns-in_err-look-in-Pinned-clause-looked g c =
    let b = g.B.Bank in
    let turned = c.turn.ensures.turn.turns in
    let moved = moved_by b c.requests.crew c.turn.new.self watcher g.C.Validator.verdict c.turn.result c.turn.ensures.turn in
    let own = own_turn b g.C.Validator.verdict c.requests.crew c.turn.new.self c.turn.result turned moved in
    λ first had.
    let missed = missed_turned b g.C.Validator.verdict first c.requests.watch c.turn.result (c.requests.crew ∷ []) (c.turn.new.self ∷ []) (c.requests.invariant.watched first had) own (inl (c.in-Pinned.pin, c.in-Pinned.is)) in
    let is : IsErr c.from_residual.result = search rules in
    handed_on b g.C.Validator.verdict first c.from_residual.result c.look.new.self c.turn.new.self is (subst (λ (looks : List Look). HasMissed b g.C.Validator.verdict first looks c.turn.new.self) (sym c.in_err-look-in-Pinned.ensures.err) missed)

pub returns-in-PinMemory-clause-looked : goal.returns-in-PinMemory-clause-looked
returns-in-PinMemory-clause-looked g c =
    let b = g.B.Bank in
    let turned = c.turn.ensures.turn.turns in
    let moved = moved_by b c.requests.crew c.turn.new.self watcher g.C.Validator.verdict c.turn.result c.turn.ensures.turn in
    let own = own_turn b g.C.Validator.verdict c.requests.crew c.turn.new.self c.turn.result turned moved in
    λ first had. missed_turned b g.C.Validator.verdict first c.requests.watch c.turn.result (c.requests.crew ∷ []) (c.turn.new.self ∷ []) (c.requests.invariant.watched first had) own (inr c.in-PinMemory.is)
