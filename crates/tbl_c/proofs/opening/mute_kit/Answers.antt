use Rattle.std.proofs.Common.{arith, ◌^◌}
use Rattle.std.proofs.lemmas.Result.{IfOk-weaker}
use Rattle.handed_kit.specs.Answering.{Spoken}
use Rattle.tbl_core.proofs.Functions.{seldom_asked}
use Rattle.tbl_c.proofs.opening.mute_kit.Goals as goal

pub returns-clause-asked : goal.returns-clause-asked
returns-clause-asked c = IfOk-weaker c.make.result _ _ (λ kit is. rw is (seldom_asked (λ (it : Spoken). it.asked) (2 ^ 62) c.in_ok-entries.entries.items
    (λ number entry within. let never = c.in_ok-entries.ensures.asked number entry within in omega (arith, never)))) c.make.ensures
