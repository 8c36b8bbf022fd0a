use Rattle.std.proofs.Common.{sym, subst}
use Rattle.tbl_outside.proofs.Moments.{started}
use Rattle.cds_layout.specs.Images.{store_of}
use Rattle.cds_store.specs.Moments.{ShowsIn}
use Rattle.cds_store.specs.Recovery.{ShowsStill}
use Rattle.cds_store.proofs.Settled.{shows_itself}
use Rattle.cds_store.proofs.recovery.recover.Goals as goal

pub returns-in-Err-clause-err : goal.returns-in-Err-clause-err
returns-in-Err-clause-err g c =
    let b = g.B.Bank in
    let bank = c.args.bank in
    let own = shows_itself (b.now bank) in
    subst (ShowsStill b bank) (sym c.in-Err.ensures.err)
    record {
      left = λ told. own;
      moments = λ m. started b.clock b.left_since bank (ShowsIn (store_of (b.now bank)))
          (λ image left. subst (ShowsIn (store_of (b.now bank))) (sym (g.met.B.Bank.leaves_only_now bank image m (g.met.B.Bank.only_now bank image m left))) own);
      room = c.requires;
    }
