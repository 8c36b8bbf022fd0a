use Rattle.std.proofs.Common.{◌≡◌, Ok, refl, sym, ◌∙◌, ap, subst}
use Rattle.bank_mirror.specs.declared.in_use.Alone.TheVariants.{First, Second}
use Rattle.bank_mirror.specs.Counts.{CopyBroke}
use Rattle.bank_mirror.proofs.GoodOne.{fresh_by, stale_by, same_by, one_failed}
use Rattle.bank_mirror.proofs.Opened.{ends_since, same_front, copy_holds, copy_broke}
use Rattle.bank_mirror.proofs.banks.Banks.copy_good.Goals as goal

pub clear_mark-requires : goal.clear_mark-requires
clear_mark-requires g c =
    let copies = c.copy_from.ensures.copies in
    record {
      held = stale_by g.A.Bank g.B.Bank c.args.good c.copy_from.new.self c.in-Second.is copies.held;
      front = same_front g.A.Bank g.B.Bank g.met.A.Bank.whole c.args.self.now c.copy_from.new.self copies.holds.goes_on.first_size (c.in-Ok-Done.ensures.done (ap Ok c.in-Ok-Done.field-0-is));
    }

pub returns-in-First : goal.returns-in-First
returns-in-First g c =
    let a = g.A.Bank in
    let b = g.B.Bank in
    let old = c.args.self.now in
    let new = c.copy_from.new.self in
    let copies = c.copy_from.ensures.copies in
    record {
      opened = record {
        held = λ told. (fresh_by a b c.args.good new c.in-First.is copies.held told, same_front a b g.met.A.Bank.whole old new copies.holds.goes_on.first_size (c.in-Ok-Done.ensures.done (ap Ok c.in-Ok-Done.field-0-is)) told);
        excuse = tt;
        mark = λ is. absurd (cc is);
        unmarked = λ told fresh. refl;
        cleared = λ told marked. absurd (cc (sym (fresh_by a b c.args.good old c.in-First.is c.requires.held told) ∙ marked));
      };
      failed = tt;
      holds = copy_holds a b (λ told. (g.met.A.Bank.tells_both told.0, g.met.B.Bank.tells_both told.1)) c.args.good old new c.requires.held copies;
    }

pub returns-in-Second : goal.returns-in-Second
returns-in-Second g c =
    let a = g.A.Bank in
    let b = g.B.Bank in
    let copies = c.copy_from.ensures.copies in
    ends_since a b (λ told. (g.met.A.Bank.tells_both told.0, g.met.B.Bank.tells_both told.1)) c.args.self.now c.copy_from.new.self c.clear_mark.new.self c.clear_mark.result
    (copy_holds a b (λ told. (g.met.A.Bank.tells_both told.0, g.met.B.Bank.tells_both told.1)) c.args.good c.args.self.now c.copy_from.new.self c.requires.held copies)
    (same_by a b c.args.good c.args.self.now c.copy_from.new.self c.requires.held copies.held) c.clear_mark.ensures

pub returns-in-Ok-Failed : goal.returns-in-Ok-Failed
returns-in-Ok-Failed g c =
    let old = c.args.self.now in
    let new = c.copy_from.new.self in
    record {
      opened = copy_broke g.A.Bank g.B.Bank c.args.good old new c.in_use.result c.in_use.ensures c.copy_from.ensures.copies
          (subst (CopyBroke g.A.Bank g.B.Bank c.args.good (old.first, old.second) new) c.in-Ok-Failed.field-0-is c.in-Ok-Failed.ensures.ends.broke);
      failed = tt;
      holds = copy_holds g.A.Bank g.B.Bank (λ told. (g.met.A.Bank.tells_both told.0, g.met.B.Bank.tells_both told.1)) c.args.good old new c.requires.held c.copy_from.ensures.copies;
    }

pub returns-in-Ok-Stopped : goal.returns-in-Ok-Stopped
returns-in-Ok-Stopped g c =
    let old = c.args.self.now in
    let new = c.copy_from.new.self in
    record {
      opened = tt;
      failed = record {
        counted = subst (CopyBroke g.A.Bank g.B.Bank c.args.good (old.first, old.second) new) c.in-Ok-Stopped.field-0-is c.in-Ok-Stopped.ensures.ends.broke;
        last = λ is. absurd (cc is);
      };
      holds = copy_holds g.A.Bank g.B.Bank (λ told. (g.met.A.Bank.tells_both told.0, g.met.B.Bank.tells_both told.1)) c.args.good old new c.requires.held c.copy_from.ensures.copies;
    }

pub returns-in-Err : goal.returns-in-Err
returns-in-Err g c =
    let old = c.args.self.now in
    let new = c.copy_from.new.self in
    record {
      opened = tt;
      failed = record { counted = one_failed g.A.Bank g.B.Bank c.args.good (old.first, old.second) new c.in-Err.ensures.ends.unread; last = λ is. c.in-Err.ensures.ends.last };
      holds = copy_holds g.A.Bank g.B.Bank (λ told. (g.met.A.Bank.tells_both told.0, g.met.B.Bank.tells_both told.1)) c.args.good old new c.requires.held c.copy_from.ensures.copies;
    }
