use Rattle.tbl_crew.proofs.RestLemmas.{ended_now, moved_by, rest_on}
use Rattle.tbl_crew.proofs.WatchLemmas.{watched_other}
use Rattle.tbl_crew.proofs.rest.play_script_rest.Goals as goal

pub requests-preserved : goal.requests-preserved
requests-preserved g c =
    let b = g.B.Bank in
    let v = g.C.Validator.verdict in
    let was = c.requests.invariant in
    record {
      rest = rest_on b v c.args.crew.now c.requests.crew c.turn.new.self c.args.actor c.turn.result was.rest c.turn.ensures.turn;
      watched = λ apart first looks had. watched_other b v first looks c.requests.crew c.turn.new.self c.args.actor apart (was.watched apart first looks had)
          (moved_by b c.requests.crew c.turn.new.self c.args.actor v c.turn.result c.turn.ensures.turn);
    }

pub requests-preserved-in-Played : goal.requests-preserved-in-Played
requests-preserved-in-Played g c =
    let b = g.B.Bank in
    let v = g.C.Validator.verdict in
    let was = c.requests.invariant in
    record {
      rest = rest_on b v c.args.crew.now c.requests.crew c.turn.new.self c.args.actor c.turn.result was.rest c.turn.ensures.turn;
      watched = λ apart first looks had. watched_other b v first looks c.requests.crew c.turn.new.self c.args.actor apart (was.watched apart first looks had)
          (moved_by b c.requests.crew c.turn.new.self c.args.actor v c.turn.result c.turn.ensures.turn);
    }

pub returns-in-Ended : goal.returns-in-Ended
returns-in-Ended g c =
    let b = g.B.Bank in
    let v = g.C.Validator.verdict in
    let was = c.requests.invariant in
    record {
      rest = rest_on b v c.args.crew.now c.requests.crew c.turn.new.self c.args.actor c.turn.result was.rest c.turn.ensures.turn;
      ended = ended_now b c.requests.crew c.turn.new.self c.args.actor c.turn.result c.turn.ensures.turn.turns c.in-Ended.is;
      watched = λ apart first looks had. watched_other b v first looks c.requests.crew c.turn.new.self c.args.actor apart (was.watched apart first looks had)
          (moved_by b c.requests.crew c.turn.new.self c.args.actor v c.turn.result c.turn.ensures.turn);
    }
