use Rattle.std.proofs.Common.{◌+◌, ◌≤◌, length, sym, ◌∙◌, ap, subst, refl, arith, rules}
use Rattle.std.specs.Prelude.{IsErr}
use Rattle.std.proofs.lemmas.Result.{on_ok_weaker}
use Rattle.tbl_kinds.specs.Numbers.{piece}
use Rattle.bank_mirror.specs.declared.in_use.InUse.TheVariants.{FirstOut, SecondOut}
use Rattle.bank_mirror.specs.declared.in_use.Alone.TheVariants.{First, Second}
use Rattle.bank_mirror.specs.BanksInUse.{in_use_alone}
use Rattle.bank_mirror.specs.CallsInUse.{ReadsStill}
use Rattle.bank_mirror.proofs.GoodOne.{of_err, fresh_by, stale_by, alone_stays}
use Rattle.bank_mirror.proofs.Bytes.{pair-fresh, piece-stale}
use Rattle.bank_mirror.proofs.Calling.{held_on}
use Rattle.bank_mirror.proofs.banks.Banks.read_alone.Goals as goal

pub returns-in-First : goal.returns-in-First
returns-in-First g c =
    let a = g.A.Bank in
    let b = g.B.Bank in
    let old = c.args.self.now in
    let new = c.read_first.new.self in
    let call = c.read_first.ensures in
    let fresh = fresh_by a b c.args.good old c.in-First.is c.requires.held in
    subst (λ good. ReadsStill a b (in_use_alone good) old new c.args.at c.args.into.now c.read_first.new.into c.read_first.result) (sym c.in-First.is) (record {
      piece = record {
        read = on_ok_weaker c.read_first.result (λ read told. read told.0 ∙ ap (piece c.args.at (length c.args.into.now)) (sym (pair-fresh (a.now old.first) (b.now old.second) (fresh told)))) call.reads.read;
        stops = search rules;
        keeps = call.keeps;
      };
      in_use = alone_stays a b First old new (IsErr c.read_first.result) call.keeps.goes_on (held_on a b SecondOut old new call.keeps fresh) call.other (λ is. (of_err c.read_first.result call.reads.failed is).0);
      stays = λ _. refl;
    })

pub returns-in-Second : goal.returns-in-Second
returns-in-Second g c =
    let a = g.A.Bank in
    let b = g.B.Bank in
    let old = c.args.self.now in
    let new = c.read_second.new.self in
    let call = c.read_second.ensures in
    let stale = stale_by a b c.args.good old c.in-Second.is c.requires.held in
    subst (λ good. ReadsStill a b (in_use_alone good) old new c.args.at c.args.into.now c.read_second.new.into c.read_second.result) (sym c.in-Second.is) (record {
      piece = record {
        read = on_ok_weaker c.read_second.result
            (λ read told.
            let fits : c.args.at + length c.args.into.now ≤ length (a.now old.first) = omega (arith, g.met.A.Bank.whole old.first told.0, c.requires.room) in
            read told.1 ∙ piece-stale c.args.at (length c.args.into.now) (a.now old.first) (b.now old.second) fits (stale told))
            call.reads.read;
        stops = search rules;
        keeps = call.keeps;
      };
      in_use = alone_stays a b Second old new (IsErr c.read_second.result) call.keeps.goes_on (held_on a b FirstOut old new call.keeps stale) call.other (λ is. (of_err c.read_second.result call.reads.failed is).0);
      stays = λ _. refl;
    })
