use Rattle.std.proofs.Common.{rules, arith}
use Rattle.std.proofs.lemmas.Result.{on_ok_weaker}
use Rattle.tbl_outside.proofs.Moments.{leaves_among}
use Rattle.cds_store.proofs.CarriedOver.{version_torn, version_tidy}
use Rattle.cds_store.proofs.carrying.write_version.Goals as goal

pub returns-clause-changes : goal.returns-clause-changes
returns-clause-changes g c old carried =
    let b = g.B.Bank in
    let now = b.now c.args.bank.now in
    let new = b.now c.write.new.bank in
    let writes = c.write.ensures.writes in
    record {
      done =
          on_ok_weaker c.write.result
          (λ done told. version_tidy old now new (carried told) (writes.torn told) (omega (arith, c.requires.room, g.met.B.Bank.whole c.args.bank.now told)) (done told))
          writes.done;
      left = λ told. version_torn old now new (carried told) (writes.torn told);
      moments = λ m. leaves_among (writes.moments m) (λ image torn. version_torn old now image (carried (g.met.B.Bank.tells_both m)) torn);
      bank_calls = search rules;
    }
