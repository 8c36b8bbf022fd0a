use Rattle.std.proofs.Common.{◌≡◌, refl, sym, ◌∙◌, subst}
use Rattle.std.proofs.lemmas.Result.{IfOk-weaker, IfErr-weaker}
use Rattle.bank_mirror.specs.Pairs.{bytes_of}
use Rattle.bank_mirror.specs.Openings.{CallsCounted}
use Rattle.bank_mirror.proofs.Calling.{same_mark, keeps_holds}
use Rattle.bank_mirror.proofs.Excuses.{check_counted}
use Rattle.bank_mirror.proofs.Opened.{ends_since}
use Rattle.bank_mirror.proofs.banks.Banks.open_checked.Goals as goal

pub returns-in-Ok-true : goal.returns-in-Ok-true
returns-in-Ok-true g c =
    let loses = c.in-Ok-true.ensures in
    record {
      ends = record {
        opened = tt;
        failed = record {
          counted = loses.looks.done;
          last = λ is. absurd (cc is);
          blank = λ is told. sym (loses.found told) ∙ c.in-Ok-true.field-0-test;
          untouched = λ is told. loses.looks.keeps.kept told;
        };
        holds = keeps_holds g.A.Bank g.B.Bank c.args.self.now c.loses_store.new.self (λ image. image ≡ bytes_of g.A.Bank g.B.Bank c.args.self.now) refl loses.looks.keeps;
      };
      keeps = tt;
    }

pub returns-in-Ok-false : goal.returns-in-Ok-false
returns-in-Ok-false g c =
    let a = g.A.Bank in
    let b = g.B.Bank in
    let old = c.args.self.now in
    let mid = c.loses_store.new.self in
    let new = c.agree.new.self in
    let keeps = c.loses_store.ensures.looks.keeps in
    let ends = ends_since a b (λ told. (g.met.A.Bank.tells_both told.0, g.met.B.Bank.tells_both told.1)) old mid new c.agree.result (keeps_holds a b old mid (λ image. image ≡ bytes_of a b old) refl keeps) (λ told. sym (same_mark a b old mid keeps told)) c.agree.ensures in
    record {
      ends = record {
        opened = ends.opened;
        failed = IfErr-weaker c.agree.result _ _
            (λ fault fails. record {
              counted = check_counted a b (old.first, old.second) new fault fails.counted;
              last = fails.last;
              blank = λ is. absurd (subst (CallsCounted a b (old.first, old.second) new) is fails.counted);
              untouched = λ is. absurd (subst (CallsCounted a b (old.first, old.second) new) is fails.counted);
            })
            ends.failed;
        holds = ends.holds;
      };
      keeps = IfOk-weaker c.agree.result _ _ (λ o _ told. sym (c.in-Ok-false.ensures.found told) ∙ c.in-Ok-false.field-0-test) ends.opened;
    }

pub returns : goal.returns
returns g c =
    let looks = c.in-Err.ensures.looks in
    record {
      ends = record {
        opened = tt;
        failed = record {
          counted = looks.failed;
          last = λ is. looks.last;
          blank = λ is. absurd (cc is);
          untouched = λ is. absurd (cc is);
        };
        holds = keeps_holds g.A.Bank g.B.Bank c.args.self.now c.loses_store.new.self (λ image. image ≡ bytes_of g.A.Bank g.B.Bank c.args.self.now) refl looks.keeps;
      };
      keeps = tt;
    }
