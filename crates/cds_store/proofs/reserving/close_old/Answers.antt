use Rattle.tbl_outside.proofs.Moments.{leaves_among}
use Rattle.cds_store.proofs.Closing.{old_leaves}
use Rattle.cds_store.proofs.reserving.close_old.Goals as goal

pub returns-in-Some-clause-alters : goal.returns-in-Some-clause-alters
returns-in-Some-clause-alters g c =
    let deletes = c.close.ensures.deletes in
    record {
      sound = c.close.ensures.sound;
      ok = rw c.in-Some.is deletes.ok;
      err = rw c.in-Some.is deletes.err;
      moments = λ m blocks stands. leaves_among (deletes.moments m blocks stands) (λ image. old_leaves c.args.old c.in-Some.slot blocks image c.in-Some.is);
      steady = deletes.steady;
      counted = deletes.counted;
    }
