use Rattle.std.proofs.Common.{◌≡◌, inl, inr, ⊎_elim, true, ◌∙◌, sym}
use Rattle.std.proofs.lemmas.Result.{IfOk-weaker, IfErr-weaker}
use Rattle.bank_mirror.specs.Pairs.{AsWas, front_of, bytes_of, is_marked}
use Rattle.bank_mirror.proofs.Bytes.{pair-stale}
use Rattle.bank_mirror.proofs.Calling.{holds_twice}
use Rattle.bank_mirror.proofs.Excuses.{calls_counted, open_counted}
use Rattle.bank_mirror.proofs.Opened.{opens_since}
use Rattle.bank_mirror.proofs.banks.Banks.open_second.Goals as goal

pub returns-in-Ok : goal.returns-in-Ok
returns-in-Ok g c =
    let a = g.A.Bank in
    let b = g.B.Bank in
    let old = c.args.self.now in
    let mid = c.set_mark.new.self in
    let new = c.agree.new.self in
    let sets = c.in-Ok.ensures in
    let ends = c.agree.ensures in
    record {
      opened = IfOk-weaker c.agree.result _ _ (λ o. opens_since a b (is_marked a b mid) true old mid new o.in_use o.mark_failed sets.holds.goes_on (λ told. sym (sets.marked told))) ends.opened;
      takes = record {
        bytes = IfOk-weaker c.agree.result _ _ (λ o _ told. ends.holds.bytes told ∙ pair-stale (a.now mid.first) (b.now mid.second) (sets.marked told) ∙ sets.front told) ends.opened;
        holds = holds_twice a b (λ told. (g.met.A.Bank.tells_both told.0, g.met.B.Bank.tells_both told.1)) old mid new (AsWas a b old.first old.second (front_of a b old)) (λ image. image ≡ bytes_of a b mid) sets.holds ends.holds
            (λ told image is. ⊎_elim (λ same. inl (is ∙ same)) (λ same. inr (is ∙ same)) (sets.holds.bytes told));
      };
      counted = IfErr-weaker c.agree.result _ _
          (λ fault fails. open_counted a b (old.first, old.second) new fault (calls_counted a b (old.first, old.second) mid new fault sets.holds.goes_on.counts fails.counted)) ends.failed;
    }

pub returns : goal.returns
returns g c = record {
  opened = tt;
  takes = record { bytes = tt; holds = c.set_mark.ensures.holds };
  counted = open_counted g.A.Bank g.B.Bank (c.args.self.now.first, c.args.self.now.second) c.set_mark.new.self c.in-Err.fault c.in-Err.ensures.counted;
}
