use Rattle.std.proofs.Common.{◌≡◌, inr, length, sym, subst}
use Rattle.tbl_outside.specs.Bank.{Torn}
use Rattle.tbl_outside.proofs.Pieces.{torn_same}
use Rattle.tbl_outside.specs.declared.bank.Written.TheVariants.{Failed}
use Rattle.bank_mirror.specs.declared.in_use.InUse.TheVariants.{Unread}
use Rattle.bank_mirror.specs.Pairs.{bytes_of}
use Rattle.bank_mirror.specs.Kept.{LeavesInUse}
use Rattle.bank_mirror.proofs.GoodOne.{alone_again, unread_still}
use Rattle.bank_mirror.proofs.Calling.{same_bytes, keeps_holds}
use Rattle.bank_mirror.proofs.Writing.{writes_after}
use Rattle.bank_mirror.proofs.banks.Banks.write_unread.Goals as goal

pub returns-in-Ok : goal.returns-in-Ok
returns-in-Ok g c =
    let a = g.A.Bank in
    let b = g.B.Bank in
    let old = c.args.self.now in
    let mid = c.good_one.new.self in
    let new = c.write_alone.new.self in
    let reads = c.good_one.ensures in
    let bytes = bytes_of a b old in
    record {
      writes = writes_after a b (λ told. (g.met.A.Bank.tells_both told.0, g.met.B.Bank.tells_both told.1)) old mid new c.args.at c.args.bytes.now (bytes_of a b mid) bytes c.write_alone.result
          (keeps_holds a b old mid (Torn c.args.at (length c.args.bytes.now) bytes) (torn_same c.args.at (length c.args.bytes.now) bytes) reads.keeps) reads.stops (same_bytes a b old mid reads.keeps) c.write_alone.ensures.writes;
      in_use = subst (LeavesInUse a b Unread old new (c.write_alone.result ≡ Failed)) (sym c.in_use.ensures)
          (alone_again a b c.in-Ok.good old mid new c.good_one.result (c.write_alone.result ≡ Failed) reads c.write_alone.ensures.writes.holds.goes_on c.write_alone.ensures.in_use);
      once = λ is. absurd (cc is);
    }

pub returns-in-Err : goal.returns-in-Err
returns-in-Err g c =
    let old = c.args.self.now in
    let reads = c.in-Err.ensures in
    let bytes = bytes_of g.A.Bank g.B.Bank old in
    record {
      writes = record {
        done = λ is. absurd (cc is);
        holds = keeps_holds g.A.Bank g.B.Bank old c.good_one.new.self (Torn c.args.at (length c.args.bytes.now) bytes) (torn_same c.args.at (length c.args.bytes.now) bytes) reads.keeps;
        counted = (inr reads.failed, reads.stops);
      };
      in_use = unread_still g.A.Bank g.B.Bank old c.good_one.new.self _ reads.keeps reads.failed reads.last;
      once = λ is. absurd (cc is);
    }
