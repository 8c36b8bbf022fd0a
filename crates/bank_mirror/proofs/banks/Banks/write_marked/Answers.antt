use Rattle.std.proofs.Common.{◌≡◌, ◌==◌, ◌+◌, ◌≤◌, inl, true, length, refl, sym, ◌∙◌, ap, subst, arith}
use Rattle.bank_mirror.specs.Pairs.{BothTell, stale, is_marked, front_of}
use Rattle.bank_mirror.specs.BanksInUse.{IsHeld, IsExcused}
use Rattle.bank_mirror.proofs.Excuses.{goes_twice, since_on, first_failed_on, second_failed_on, second_fails, second_broke}
use Rattle.bank_mirror.proofs.GoodOne.{marked_excuse, mark_is_known}
use Rattle.bank_mirror.proofs.Writing.{mark_torn, mark_broke, mark_stays, second_writes, writes_after}
use Rattle.bank_mirror.proofs.banks.Banks.write_marked.Goals as goal

pub returns-in-Done : goal.returns-in-Done
returns-in-Done g c =
    let a = g.A.Bank in
    let b = g.B.Bank in
    let old = c.args.self.now in
    let mid = c.write_mark.new.self in
    let new = c.write_second.new.self in
    let at = c.args.at in
    let bytes = c.args.bytes.now in
    let moves = c.write_mark.ensures.moves in
    let call = c.write_second.ensures in
    let marked : BothTell a b → is_marked a b mid ≡ true = λ told. ap (λ n. n == stale) (c.in-Done.ensures.done refl told) in
    let room : at + length bytes ≤ a.size mid.first = omega (arith, c.requires.room, moves.goes_on.first_size) in
    let larger : BothTell a b → length (a.now mid.first) ≤ length (b.now mid.second) = λ told. omega (arith, g.met.A.Bank.whole mid.first told.0, g.met.B.Bank.whole mid.second told.1, call.larger) in
    record {
      writes = writes_after a b (λ told. (g.met.A.Bank.tells_both told.0, g.met.B.Bank.tells_both told.1)) old mid new at bytes (front_of a b mid) (front_of a b old) c.write_second.result
          (mark_torn a b (λ told. (g.met.A.Bank.tells_both told.0, g.met.B.Bank.tells_both told.1)) old mid at (length bytes) c.requires.torn moves) (ap a.stops moves.other, c.in-Done.ensures.counted.1) moves.front
          (second_writes a b (λ told. (g.met.A.Bank.tells_both told.0, g.met.B.Bank.tells_both told.1)) g.met.A.Bank.whole mid new at bytes c.write_second.result room larger marked call.writes call.calls);
      held = λ told. mark_stays a b (λ told. (g.met.A.Bank.tells_both told.0, g.met.B.Bank.tells_both told.1)) g.met.A.Bank.whole mid new at (length bytes) room call.writes.torn call.calls.other told ∙ marked told;
      excuse = λ mark_failed opening since first. inl (first_failed_on a b opening old new since (goes_twice a b old mid new moves.goes_on call.calls.goes_on) first);
      last = λ is. absurd (cc is);
      failed = λ is. second_fails a b (old.first, old.second) mid new moves.goes_on.counts (second_broke a b mid new c.write_second.result is call.writes.counted);
      other = call.calls.other ∙ moves.other;
    }

pub returns-in-Ok : goal.returns-in-Ok
returns-in-Ok g c =
    let new = c.good_one.new.self in
    let reads = c.good_one.ensures in
    let marks = c.write_mark.ensures in
    record {
      writes = mark_broke g.A.Bank g.B.Bank (λ told. (g.met.A.Bank.tells_both told.0, g.met.B.Bank.tells_both told.1)) c.args.self.now c.write_mark.new.self new c.args.at c.args.bytes.now c.write_mark.result
          c.requires.torn marks.moves reads.keeps reads.stops c.in_default.not-Done marks.counted;
      held = subst (λ in_use. IsHeld g.A.Bank g.B.Bank in_use new) (sym c.in_use.ensures) c.in-Ok.ensures.good;
      excuse = λ mark_failed opening since first. subst (IsExcused g.A.Bank g.B.Bank mark_failed opening new) (sym c.in_use.ensures)
          (marked_excuse g.A.Bank g.B.Bank c.in-Ok.good c.write_mark.result mark_failed opening c.args.self.now c.write_mark.new.self new since first marks.moves.goes_on reads.keeps.goes_on c.in_default.not-Done marks.counted);
      last = λ is. absurd (mark_is_known g.A.Bank g.B.Bank c.in-Ok.good (sym c.in_use.ensures ∙ is));
      failed = λ is. second_failed_on g.A.Bank g.B.Bank (c.args.self.now.first, c.args.self.now.second) c.write_mark.new.self new marks.moves.goes_on.counts reads.keeps.goes_on (second_broke g.A.Bank g.B.Bank c.args.self.now c.write_mark.new.self c.write_mark.result is marks.counted);
      other = reads.other ∙ marks.moves.other;
    }

pub returns-in-Err : goal.returns-in-Err
returns-in-Err g c =
    let a = g.A.Bank in
    let b = g.B.Bank in
    let old = c.args.self.now in
    let mid = c.write_mark.new.self in
    let new = c.good_one.new.self in
    let reads = c.in-Err.ensures in
    let marks = c.write_mark.ensures in
    record {
      writes = mark_broke a b (λ told. (g.met.A.Bank.tells_both told.0, g.met.B.Bank.tells_both told.1)) old mid new c.args.at c.args.bytes.now c.write_mark.result
          c.requires.torn marks.moves reads.keeps reads.stops c.in_default.not-Done marks.counted;
      held = λ told. tt;
      excuse = λ mark_failed opening since first. (
        first_failed_on a b opening old new since (goes_twice a b old mid new marks.moves.goes_on reads.keeps.goes_on) first,
        second_fails a b opening mid new (since_on a b opening old mid since marks.moves.goes_on) reads.failed,
      );
      last = λ is. reads.last;
      failed = λ is. second_fails a b (old.first, old.second) mid new marks.moves.goes_on.counts reads.failed;
      other = reads.other ∙ marks.moves.other;
    }
