use Rattle.std.proofs.lemmas.Result.{IfErr-weaker}
use Rattle.bank_mirror.proofs.Opened.{open_fails}
use Rattle.bank_mirror.proofs.banks.Banks.open.Goals as goal

pub returns : goal.returns
returns g c = record {
  opened = c.agree.ensures.opened;
  failed = IfErr-weaker c.agree.result _ _ (λ fault. open_fails g.A.Bank g.B.Bank (c.args.self.now.first, c.args.self.now.second) c.agree.new.self fault) c.agree.ensures.failed;
  holds = c.agree.ensures.holds;
}
