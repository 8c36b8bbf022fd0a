use Rattle.std.proofs.Common.{◌≡◌, ◌+◌, ◌≤◌, false, true, length, take, sym, ◌∙◌, ap, subst, arith, rules}
use Rattle.tbl_kinds.specs.Numbers.{patched}
use Rattle.tbl_outside.specs.declared.bank.Written.TheVariants.{Done}
use Rattle.bank_mirror.specs.declared.in_use.Alone.TheVariants.{First, Second}
use Rattle.bank_mirror.specs.Pairs.{BothTell, is_marked}
use Rattle.bank_mirror.specs.Copies.{Copies}
use Rattle.bank_mirror.proofs.Bytes.{copied_more}
use Rattle.bank_mirror.proofs.Calling.{same_mark}
use Rattle.bank_mirror.proofs.GoodOne.{fresh_by, stale_by}
use Rattle.bank_mirror.proofs.Copying.{read_copies, over_copies, back_copies, copies_twice}
use Rattle.bank_mirror.proofs.banks.Banks.copy_piece.Goals as goal

pub returns-in-Ok : goal.returns-in-Ok
returns-in-Ok g c =
    let a = g.A.Bank in
    let b = g.B.Bank in
    let old = c.args.self.now in
    let mid = c.read_first.new.self in
    let new = c.write_second.new.self in
    let one = c.in-Ok.ensures in
    let two = c.write_second.ensures in
    let at = c.args.at in
    let count = length c.args.piece.now in
    let fresh = fresh_by a b c.args.good old c.in-First.is c.requires.reach.held in
    let fresh_still : BothTell a b → is_marked a b mid ≡ false = λ told. same_mark a b old mid one.keeps told ∙ fresh told in
    record {
      done = λ is told.
          let done : c.write_second.result ≡ Done = cc in
          let fits : at + count ≤ length (a.now old.first) = omega (arith, g.met.A.Bank.whole old.first told.0, c.requires.reach.room) in
          let within : at ≤ length (b.now old.second) = omega (arith, g.met.A.Bank.whole old.first told.0, g.met.B.Bank.whole old.second told.1, c.requires.reach.room, two.larger, one.keeps.goes_on.first_size, one.keeps.goes_on.second_size) in
          ap (take (at + count)) (two.writes.done done told.1 ∙ (λ i. patched (b.now (one.other i)) at (one.reads.read told.0 i)))
          ∙ copied_more at count (a.now old.first) (b.now old.second) fits within (c.requires.copied told)
          ∙ ap (take (at + count)) (sym (ap a.now two.calls.other ∙ one.reads.kept told.0));
      copies = subst (λ good. Copies a b good old new) (sym c.in-First.is)
          (copies_twice a b (λ told. (g.met.A.Bank.tells_both told.0, g.met.B.Bank.tells_both told.1)) First old mid new (read_copies a b (λ told. (g.met.A.Bank.tells_both told.0, g.met.B.Bank.tells_both told.1)) First old mid one.keeps fresh)
          (over_copies a b (λ told. (g.met.A.Bank.tells_both told.0, g.met.B.Bank.tells_both told.1)) g.met.A.Bank.whole mid new at (length c.read_first.new.into) (omega (arith, c.requires.reach.room, one.keeps.goes_on.first_size)) fresh_still two.writes.torn two.calls));
      ends = search rules;
    }

pub returns-in-Err : goal.returns-in-Err
returns-in-Err g c =
    let old = c.args.self.now in
    record {
      done = λ is. absurd (cc is);
      copies = subst (λ good. Copies g.A.Bank g.B.Bank good old c.read_first.new.self) (sym c.in-First.is)
          (read_copies g.A.Bank g.B.Bank (λ told. (g.met.A.Bank.tells_both told.0, g.met.B.Bank.tells_both told.1)) First old c.read_first.new.self c.read_first.ensures.keeps (fresh_by g.A.Bank g.B.Bank c.args.good old c.in-First.is c.requires.reach.held));
      ends = search rules;
    }

pub returns-in-Ok-read_second : goal.returns-in-Ok-read_second
returns-in-Ok-read_second g c =
    let a = g.A.Bank in
    let b = g.B.Bank in
    let old = c.args.self.now in
    let mid = c.read_second.new.self in
    let new = c.write_first.new.self in
    let one = c.in-Ok-read_second.ensures in
    let two = c.write_first.ensures in
    let at = c.args.at in
    let count = length c.args.piece.now in
    let stale = stale_by a b c.args.good old c.in-Second.is c.requires.reach.held in
    let stale_still : BothTell a b → is_marked a b mid ≡ true = λ told. same_mark a b old mid one.keeps told ∙ stale told in
    record {
      done = λ is told.
          let done : c.write_first.result ≡ Done = cc in
          let fits : at + count ≤ length (b.now old.second) = omega (arith, g.met.A.Bank.whole old.first told.0, g.met.B.Bank.whole old.second told.1, c.requires.reach.room, one.larger) in
          let within : at ≤ length (a.now old.first) = omega (arith, g.met.A.Bank.whole old.first told.0, c.requires.reach.room) in
          ap (λ bank. take (at + count) (b.now bank)) two.calls.other
          ∙ ap (take (at + count)) (one.reads.kept told.1)
          ∙ sym (
          ap (take (at + count)) (two.writes.done done told.0 ∙ (λ i. patched (a.now (one.other i)) at (one.reads.read told.1 i)))
          ∙ copied_more at count (b.now old.second) (a.now old.first) fits within (sym (c.requires.copied told))
          );
      copies = subst (λ good. Copies a b good old new) (sym c.in-Second.is)
          (copies_twice a b (λ told. (g.met.A.Bank.tells_both told.0, g.met.B.Bank.tells_both told.1)) Second old mid new (read_copies a b (λ told. (g.met.A.Bank.tells_both told.0, g.met.B.Bank.tells_both told.1)) Second old mid one.keeps stale)
          (back_copies a b (λ told. (g.met.A.Bank.tells_both told.0, g.met.B.Bank.tells_both told.1)) mid new at (length c.read_second.new.into) stale_still two.writes.torn two.calls));
      ends = search rules;
    }

pub returns-in-Err-read_second : goal.returns-in-Err-read_second
returns-in-Err-read_second g c =
    let old = c.args.self.now in
    record {
      done = λ is. absurd (cc is);
      copies = subst (λ good. Copies g.A.Bank g.B.Bank good old c.read_second.new.self) (sym c.in-Second.is)
          (read_copies g.A.Bank g.B.Bank (λ told. (g.met.A.Bank.tells_both told.0, g.met.B.Bank.tells_both told.1)) Second old c.read_second.new.self c.read_second.ensures.keeps (stale_by g.A.Bank g.B.Bank c.args.good old c.in-Second.is c.requires.reach.held));
      ends = search rules;
    }
