use Rattle.std.proofs.Common.{Err, refl, sym, subst}
use Rattle.bank_mirror.specs.declared.mirror.OpenBack.{OpenBack}
use Rattle.bank_mirror.specs.Begun.{IsMade}
use Rattle.bank_mirror.proofs.mirror.made.Goals as goal

pub returns-in-Err : goal.returns-in-Err
returns-in-Err g c =
    let back : OpenBack _ _ = record { cause = c.in-Err.cause; first = c.end-first.result.0; second = c.end-first.result.1; past = c.end-first.result.2 } in
    subst (λ opened. IsMade c.args.banks opened (Err back)) (sym c.in-Err.is) (refl, c.end-first.ensures)
