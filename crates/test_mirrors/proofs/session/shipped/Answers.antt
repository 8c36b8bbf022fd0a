use Rattle.std.proofs.Common.{arith}
use Rattle.std.proofs.lemmas.Result.{IfOk-weaker}
use Rattle.shipped_kit.specs.Verdicts.{asked_of}
use Rattle.tbl_core.proofs.Functions.{seldom_asked}
use Rattle.test_mirrors.proofs.session.shipped.Goals as goal

pub returns : goal.returns
returns c = IfOk-weaker c.make.result _ _ (λ kit is. rw is (seldom_asked asked_of 1 _ (λ k d within. let none = c.in_ok-shipped_entries.ensures.fresh k d within in omega (arith, none)))) c.make.ensures
