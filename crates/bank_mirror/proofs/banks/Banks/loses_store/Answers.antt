use Rattle.std.proofs.Common.{◌≡◌, true, false, sym, ◌∙◌, ap}
use Rattle.std.proofs.lemmas.Result.{IfOk-weaker}
use Rattle.std.specs.Prelude.{◌&&◌, if◌then◌else◌}
use Rattle.bank_mirror.specs.Pairs.{is_marked}
use Rattle.bank_mirror.specs.Checks.{is_blank, is_live}
use Rattle.bank_mirror.proofs.GoodOne.{fresh_by, stale_by}
use Rattle.bank_mirror.proofs.Calling.{same_mark, looks_twice}
use Rattle.bank_mirror.proofs.banks.Banks.loses_store.Goals as goal

pub returns-in-Ok-Second : goal.returns-in-Ok-Second
returns-in-Ok-Second g c =
    let a = g.A.Bank in
    let b = g.B.Bank in
    let old = c.args.self.now in
    let reads = c.in-Ok-Second.ensures in
    record {
      found = λ told.
          let marked : is_marked a b old ≡ true = sym (same_mark a b old c.good_one.new.self reads.keeps told) ∙ stale_by a b _ c.good_one.new.self c.in-Ok-Second.field-0-is reads.good told in
          ap (λ s. if s then false else (is_blank (a.now old.first) && is_live c.args.live_mark.now (b.now old.second))) (sym marked);
      looks = record { keeps = reads.keeps; done = reads.done; failed = tt; last = tt };
    }

pub returns-in-Ok-First : goal.returns-in-Ok-First
returns-in-Ok-First g c =
    let a = g.A.Bank in
    let b = g.B.Bank in
    let old = c.args.self.now in
    let reads = c.in-Ok-First.ensures in
    record {
      found = IfOk-weaker c.is_blank_over_live.result _ _
          (λ it is told.
          let fresh : is_marked a b old ≡ false = sym (same_mark a b old c.good_one.new.self reads.keeps told) ∙ fresh_by a b _ c.good_one.new.self c.in-Ok-First.field-0-is reads.good told in
          is told
          ∙ (λ i. is_blank ((reads.keeps.kept told).0 i) && is_live c.args.live_mark.now ((reads.keeps.kept told).1 i))
          ∙ ap (λ s. if s then false else (is_blank (a.now old.first) && is_live c.args.live_mark.now (b.now old.second))) (sym fresh))
          c.is_blank_over_live.ensures.found;
      looks = looks_twice a b (λ told. (g.met.A.Bank.tells_both told.0, g.met.B.Bank.tells_both told.1)) old c.good_one.new.self c.is_blank_over_live.new.self c.is_blank_over_live.result reads.keeps reads.done c.is_blank_over_live.ensures.looks;
    }
