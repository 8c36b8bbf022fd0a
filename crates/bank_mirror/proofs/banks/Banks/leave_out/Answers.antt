use Rattle.std.proofs.Common.{◌≡◌, inl, true, Ok, Err, refl, sym, ◌∙◌, subst, rules}
use Rattle.tbl_outside.proofs.Moments.{leaves_among}
use Rattle.bank_mirror.specs.declared.opening.Opened.{Opened}
use Rattle.bank_mirror.specs.declared.in_use.InUse.TheVariants.{FirstOut, SecondOut}
use Rattle.bank_mirror.specs.Openings.{EndsAlone}
use Rattle.bank_mirror.proofs.Bytes.{pair-fresh, pair-stale}
use Rattle.bank_mirror.proofs.Moments.{told_moments, none_called}
use Rattle.bank_mirror.proofs.banks.Banks.leave_out.Goals as goal

pub returns-in-First : goal.returns-in-First
returns-in-First g c =
    let a = g.A.Bank in
    let b = g.B.Bank in
    let old = c.args.self.now in
    let held = c.requires c.in-First.is in
    let o : Opened = record { in_use = SecondOut; mark_failed = true } in
    subst (λ alone. EndsAlone a b alone old old (Ok o)) (sym c.in-First.is) (record {
      opened = record { out = refl; held = held; left = (refl, refl); mark = refl };
      failed = tt;
      takes = record {
        bytes = λ told. pair-fresh (a.now old.first) (b.now old.second) (held told);
        holds = record {
          bytes = λ told. inl refl;
          moments = λ told.
              let one = told_moments a told.0 g.met.A.Bank.counts_now g.met.A.Bank.leaves_now g.met.A.Bank.leaves_only_now g.met.A.Bank.only_now in
              let two = told_moments b told.1 g.met.B.Bank.counts_now g.met.B.Bank.leaves_now g.met.B.Bank.leaves_only_now g.met.B.Bank.only_now in
              leaves_among (none_called a b one two old) (λ image is. inl is);
          goes_on = search rules;
        };
      };
    })

pub returns-in-Ok : goal.returns-in-Ok
returns-in-Ok g c =
    let old = c.args.self.now in
    let new = c.set_mark.new.self in
    let sets = c.in-Ok.ensures in
    let o : Opened = record { in_use = FirstOut; mark_failed = true } in
    subst (λ alone. EndsAlone g.A.Bank g.B.Bank alone old new (Ok o)) (sym c.in-Second.is) (record {
      opened = record { out = refl; held = sets.marked; left = sets.other; mark = refl };
      failed = tt;
      takes = record { bytes = λ told. pair-stale (g.A.Bank.now new.first) (g.B.Bank.now new.second) (sets.marked told) ∙ sets.front told; holds = sets.holds };
    })

pub returns-in-Err : goal.returns-in-Err
returns-in-Err g c =
    let sets = c.in-Err.ensures in
    subst (λ alone. EndsAlone g.A.Bank g.B.Bank alone c.args.self.now c.set_mark.new.self (Err c.in-Err.fault)) (sym c.in-Second.is) (record {
      opened = tt;
      failed = record { second = λ is. absurd (cc is); left = sets.other; counted = sets.counted };
      takes = record { bytes = tt; holds = sets.holds };
    })
