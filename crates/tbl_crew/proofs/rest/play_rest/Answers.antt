use Rattle.std.proofs.Common.{arith}
use Rattle.tbl_crew.proofs.RestLemmas.{ended_next}
use Rattle.tbl_crew.proofs.rest.play_rest.Goals as goal

pub actors-preserved : goal.actors-preserved
actors-preserved g c =
    let was = c.actors.invariant in
    let played = c.play_script_rest.ensures in
    record {
      leads = λ o scripts led. played.rest.leads o scripts (was.leads o scripts led);
      ended = ended_next c.actors.crew c.play_script_rest.new.crew c.actors.actor was.ended played.ended played.rest.went_on played.rest.kept;
      watched = λ few first looks had. played.watched (λ same. omega (arith, few, same, c.actors-test.true)) first looks (was.watched few first looks had);
    }
