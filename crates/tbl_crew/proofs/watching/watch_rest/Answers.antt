use Rattle.std.proofs.Common.{arith}
use Rattle.tbl_crew.proofs.WatchLemmas.{watched_first}
use Rattle.tbl_crew.proofs.EndLemmas.{rest_watched}
use Rattle.tbl_crew.proofs.watching.watch_rest.Goals as goal

pub returns : goal.returns
returns g c =
    let b = g.B.Bank in
    let v = g.C.Validator.verdict in
    let first = c.args.crew.now in
    let begun = watched_first b v first c.args.watch.now c.requires.watch c.requires.empty in
    let last = c.watch_script_rest.ensures in
    record {
      watches = rest_watched b v first c.play_rest.new.crew c.watch_script_rest.new.crew c.watch_script_rest.result c.watch_script_rest.new.watch c.play_rest.ensures.leads c.play_rest.ensures.ended last.rest last.ended
          (last.looked first (c.play_rest.ensures.watched (omega arith) first c.args.watch.now begun));
    }
