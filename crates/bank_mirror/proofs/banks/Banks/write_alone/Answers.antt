use Rattle.std.proofs.Common.{◌≡◌, ◌≤◌, length, sym, ◌∙◌, subst, arith}
use Rattle.tbl_outside.specs.declared.bank.Written.TheVariants.{Failed}
use Rattle.bank_mirror.specs.declared.in_use.Alone.TheVariants.{First, Second}
use Rattle.bank_mirror.specs.Pairs.{BothTell, BothTellMoments, front_of, bytes_of}
use Rattle.bank_mirror.specs.BanksInUse.{in_use_alone}
use Rattle.bank_mirror.specs.CallsInUse.{WritesStill}
use Rattle.bank_mirror.proofs.Bytes.{pair-fresh, pair-stale}
use Rattle.bank_mirror.proofs.GoodOne.{fresh_by, stale_by, alone_stays}
use Rattle.bank_mirror.proofs.Excuses.{first_broke, second_broke}
use Rattle.bank_mirror.proofs.Writing.{writes_as, first_writes, first_held, second_writes, mark_stays}
use Rattle.bank_mirror.proofs.banks.Banks.write_alone.Goals as goal

pub returns-in-First : goal.returns-in-First
returns-in-First g c =
    let a = g.A.Bank in
    let b = g.B.Bank in
    let both : BothTellMoments a b → BothTell a b = λ told. (g.met.A.Bank.tells_both told.0, g.met.B.Bank.tells_both told.1) in
    let old = c.args.self.now in
    let new = c.write_first.new.self in
    let call = c.write_first.ensures in
    let fresh = fresh_by a b c.args.good old c.in-First.is c.requires.held in
    subst (λ good. WritesStill a b (in_use_alone good) old new c.args.at c.args.bytes.now c.write_first.result) (sym c.in-First.is) (record {
      writes = writes_as a b both old new c.args.at c.args.bytes.now (a.now old.first) (bytes_of a b old) c.write_first.result (λ told. sym (pair-fresh (a.now old.first) (b.now old.second) (fresh told)))
          (first_writes a b both old new c.args.at c.args.bytes.now c.write_first.result fresh call.writes call.calls);
      in_use = alone_stays a b First old new (c.write_first.result ≡ Failed) call.calls.goes_on (first_held a b both old new c.args.at (length c.args.bytes.now) fresh call.writes.torn call.calls.other) call.calls.other
          (λ failed. first_broke a b old new c.write_first.result failed call.writes.counted);
      once = λ is. absurd (cc is);
    })

pub returns-in-Second : goal.returns-in-Second
returns-in-Second g c =
    let a = g.A.Bank in
    let b = g.B.Bank in
    let both : BothTellMoments a b → BothTell a b = λ told. (g.met.A.Bank.tells_both told.0, g.met.B.Bank.tells_both told.1) in
    let old = c.args.self.now in
    let new = c.write_second.new.self in
    let call = c.write_second.ensures in
    let stale = stale_by a b c.args.good old c.in-Second.is c.requires.held in
    let larger : BothTell a b → length (a.now old.first) ≤ length (b.now old.second) = λ told. omega (arith, g.met.A.Bank.whole old.first told.0, g.met.B.Bank.whole old.second told.1, call.larger) in
    subst (λ good. WritesStill a b (in_use_alone good) old new c.args.at c.args.bytes.now c.write_second.result) (sym c.in-Second.is) (record {
      writes = writes_as a b both old new c.args.at c.args.bytes.now (front_of a b old) (bytes_of a b old) c.write_second.result (λ told. sym (pair-stale (a.now old.first) (b.now old.second) (stale told)))
          (second_writes a b both g.met.A.Bank.whole old new c.args.at c.args.bytes.now c.write_second.result c.requires.room larger stale call.writes call.calls);
      in_use = alone_stays a b Second old new (c.write_second.result ≡ Failed) call.calls.goes_on (λ told. mark_stays a b both g.met.A.Bank.whole old new c.args.at (length c.args.bytes.now) c.requires.room call.writes.torn call.calls.other told ∙ stale told) call.calls.other
          (λ failed. second_broke a b old new c.write_second.result failed call.writes.counted);
      once = λ is. absurd (cc is);
    })
