use Rattle.std.proofs.Common.{◌≡◌, ◌==◌, inr, true, refl, sym, ◌∙◌, ap, subst}
use Rattle.bank_mirror.specs.Pairs.{stale, bytes_of}
use Rattle.bank_mirror.specs.BanksInUse.{IsHeld, IsExcused}
use Rattle.bank_mirror.proofs.Calling.{mark_holds, holds_kept}
use Rattle.bank_mirror.proofs.Excuses.{second_failed_on, second_fails}
use Rattle.bank_mirror.proofs.GoodOne.{one_is_out}
use Rattle.bank_mirror.proofs.Opened.{mark_excuse}
use Rattle.bank_mirror.proofs.banks.Banks.clear_mark.Goals as goal

pub returns-in-Done : goal.returns-in-Done
returns-in-Done g c =
    let moves = c.write_mark.ensures.moves in
    record {
      opened = record {
        held = λ told. (ap (λ n. n == stale) (c.in-Done.ensures.done refl told), moves.front told ∙ c.requires.front told ∙ sym (ap g.A.Bank.now moves.other));
        excuse = tt;
        mark = λ is. absurd (cc is);
        unmarked = λ told fresh. refl;
        cleared = λ told marked is. c.in-Done.ensures.done refl told;
      };
      failed = tt;
      holds = mark_holds g.A.Bank g.B.Bank (λ told. (g.met.A.Bank.tells_both told.0, g.met.B.Bank.tells_both told.1)) c.args.self.now c.write_mark.new.self c.requires.held c.requires.front moves;
    }

pub returns-in-Stopped : goal.returns-in-Stopped
returns-in-Stopped g c = record {
  opened = tt;
  failed = record { counted = inr c.in-Stopped.ensures.counted.0; last = λ is. absurd (cc is) };
  holds = mark_holds g.A.Bank g.B.Bank (λ told. (g.met.A.Bank.tells_both told.0, g.met.B.Bank.tells_both told.1)) c.args.self.now c.write_mark.new.self c.requires.held c.requires.front c.write_mark.ensures.moves;
}

pub returns-in-Ok : goal.returns-in-Ok
returns-in-Ok g c =
    let a = g.A.Bank in
    let b = g.B.Bank in
    let old = c.args.self.now in
    let mid = c.write_mark.new.self in
    let new = c.good_one.new.self in
    let moves = c.write_mark.ensures.moves in
    let keeps = c.good_one.ensures.keeps in
    record {
      opened = record {
        held = subst (λ in_use. IsHeld a b in_use new) (sym c.in_use.ensures) c.in-Ok.ensures.good;
        excuse = subst (IsExcused a b true (old.first, old.second) new) (sym c.in_use.ensures) (mark_excuse a b c.in-Ok.good (old.first, old.second) new);
        mark = λ is. second_failed_on a b (old.first, old.second) mid new moves.goes_on.counts keeps.goes_on c.in-Failed.ensures.counted.0;
        unmarked = λ told fresh. absurd (cc (sym (c.requires.held told) ∙ fresh));
        cleared = λ told marked is. absurd (one_is_out a b c.in-Ok.good (sym c.in_use.ensures ∙ is));
      };
      failed = tt;
      holds = holds_kept a b (λ told. (g.met.A.Bank.tells_both told.0, g.met.B.Bank.tells_both told.1)) old mid new (λ image. image ≡ bytes_of a b old)
          (mark_holds a b (λ told. (g.met.A.Bank.tells_both told.0, g.met.B.Bank.tells_both told.1)) old mid c.requires.held c.requires.front moves) keeps;
    }

pub returns-in-Err : goal.returns-in-Err
returns-in-Err g c =
    let a = g.A.Bank in
    let b = g.B.Bank in
    let old = c.args.self.now in
    let mid = c.write_mark.new.self in
    let new = c.good_one.new.self in
    let moves = c.write_mark.ensures.moves in
    record {
      opened = tt;
      failed = record { counted = inr (second_fails a b (old.first, old.second) mid new moves.goes_on.counts c.in-Err.ensures.failed); last = λ is. c.in-Err.ensures.last };
      holds = holds_kept a b (λ told. (g.met.A.Bank.tells_both told.0, g.met.B.Bank.tells_both told.1)) old mid new (λ image. image ≡ bytes_of a b old)
          (mark_holds a b (λ told. (g.met.A.Bank.tells_both told.0, g.met.B.Bank.tells_both told.1)) old mid c.requires.held c.requires.front moves) c.good_one.ensures.keeps;
    }
