use Rattle.std.proofs.Common.{◌≡◌, true, false, sym, ◌∙◌, ap}
use Rattle.std.proofs.lemmas.Result.{IfOk-weaker}
use Rattle.std.specs.Prelude.{◌&&◌}
use Rattle.bank_mirror.specs.Checks.{is_blank, is_live}
use Rattle.bank_mirror.proofs.Calling.{looks_twice}
use Rattle.bank_mirror.proofs.banks.Banks.is_blank_over_live.Goals as goal

pub returns-in-Ok-true : goal.returns-in-Ok-true
returns-in-Ok-true g c =
    let blank = c.in-Ok-true.ensures in
    record {
      found = IfOk-weaker c.second_is_live.result _ _
          (λ it live told.
          live told
          ∙ ap (is_live c.args.live_mark.now) (blank.looks.keeps.kept told).1
          ∙ ap (λ z. z && is_live c.args.live_mark.now (g.B.Bank.now c.args.self.now.second)) (sym c.in-Ok-true.field-0-test ∙ blank.found told))
          c.second_is_live.ensures.found;
      looks = looks_twice g.A.Bank g.B.Bank (λ told. (g.met.A.Bank.tells_both told.0, g.met.B.Bank.tells_both told.1)) c.args.self.now c.first_is_blank.new.self c.second_is_live.new.self c.second_is_live.result blank.looks.keeps blank.looks.done c.second_is_live.ensures.looks;
    }

pub returns-in-Ok-false : goal.returns-in-Ok-false
returns-in-Ok-false g c =
    let blank = c.in-Ok-false.ensures in
    record {
      found = λ told. ap (λ z. z && is_live c.args.live_mark.now (g.B.Bank.now c.args.self.now.second)) (sym c.in-Ok-false.field-0-test ∙ blank.found told);
      looks = record { keeps = blank.looks.keeps; done = blank.looks.done; failed = tt; last = tt };
    }
