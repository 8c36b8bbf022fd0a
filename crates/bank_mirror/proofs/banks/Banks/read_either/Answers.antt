use Rattle.std.proofs.Common.{◌≡◌, ◌+◌, ◌≤◌, inl, length, refl, sym, ◌∙◌, ap, subst, arith, rules}
use Rattle.std.proofs.lemmas.Result.{on_ok_weaker}
use Rattle.tbl_kinds.specs.Numbers.{piece}
use Rattle.tbl_outside.specs.Counts.{Rose}
use Rattle.bank_mirror.specs.declared.in_use.InUse.TheVariants.{Both}
use Rattle.bank_mirror.proofs.GoodOne.{of_err}
use Rattle.bank_mirror.proofs.Bytes.{pair-fresh, piece-agreed}
use Rattle.bank_mirror.proofs.Calling.{held_on, keeps_twice}
use Rattle.bank_mirror.proofs.Excuses.{first_fails, second_fails}
use Rattle.bank_mirror.proofs.banks.Banks.read_either.Goals as goal

pub returns-in-Ok : goal.returns-in-Ok
returns-in-Ok g c =
    let old = c.args.self.now in
    let one = c.in-Ok.ensures in
    record {
      piece = record {
        read = λ told. one.reads.read told.0 ∙ ap (piece c.args.at (length c.args.into.now)) (sym (pair-fresh (g.A.Bank.now old.first) (g.B.Bank.now old.second) (c.requires.held told).0));
        stops = search rules;
        keeps = one.keeps;
      };
      in_use = record {
        held = held_on g.A.Bank g.B.Bank Both old c.read_first.new.self one.keeps c.requires.held;
        excuse = λ mark_failed opening since excused. tt;
        out = tt;
        last = λ is. absurd (cc is);
        fault = λ is. absurd (cc is);
        cause = λ is. absurd (cc is);
      };
      stays = λ _. refl;
    }

pub returns-in-Err : goal.returns-in-Err
returns-in-Err g c =
    let a = g.A.Bank in
    let b = g.B.Bank in
    let old = c.args.self.now in
    let mid = c.read_first.new.self in
    let new = c.read_second.new.self in
    let one = c.in-Err.ensures in
    let two = c.read_second.ensures in
    let first = a.now old.first in
    let second = b.now old.second in
    let count = length c.args.into.now in
    let keeps = keeps_twice a b (λ told. (g.met.A.Bank.tells_both told.0, g.met.B.Bank.tells_both told.1)) old mid new one.keeps two.keeps in
    let failed = of_err c.read_second.result two.reads.failed in
    let first_rose : Rose (a.faults old.first) (a.faults new.first) = subst (λ bank. Rose (a.faults old.first) (a.faults bank)) (sym two.other) one.reads.failed.0 in
    record {
      piece = record {
        read = on_ok_weaker c.read_second.result
            (λ read told.
            let fits : c.args.at + count ≤ length first = omega (arith, g.met.A.Bank.whole old.first told.0, c.requires.room) in
            let same_count : length c.read_first.new.into ≡ count = omega arith in
            read told.1
            ∙ ap (λ n. piece c.args.at n (b.now mid.second)) same_count
            ∙ ap (λ bank. piece c.args.at count (b.now bank)) one.other
            ∙ piece-agreed c.args.at count first second fits (c.requires.held told).1
            ∙ ap (piece c.args.at count) (sym (pair-fresh first second (c.requires.held told).0)))
            two.reads.read;
        stops = search rules;
        keeps = keeps;
      };
      in_use = record {
        held = held_on a b Both old new keeps c.requires.held;
        excuse = λ mark_failed opening since excused. tt;
        out = tt;
        last = λ is. absurd (cc is);
        fault = λ is. inl first_rose;
        cause = λ is mark_failed opening since excused. inl (first_fails a b opening old new since first_rose, second_fails a b opening old new since (second_fails a b (old.first, old.second) mid new one.keeps.goes_on.counts (failed is).0));
      };
      stays = λ _. refl;
    }
