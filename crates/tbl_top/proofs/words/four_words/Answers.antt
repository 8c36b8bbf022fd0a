use Rattle.std.proofs.Common.{◌∙◌, rules}
use Rattle.tbl_top.proofs.WordsLemmas.{of_play, of_crew, of_no_lists}
use Rattle.tbl_top.proofs.words.four_words.Goals as goal

pub returns-in_err-admit : goal.returns-in_err-admit
returns-in_err-admit c = λ requested admit. (
  λ is. absurd (cc (c.from_residual.ensures, is)),
  λ spells. c.from_residual.ensures ∙ of_no_lists _ _ _ _ c.read_admit.result c.in_err-admit.was c.read_admit.ensures requested admit spells,
)

pub returns-then-eq : goal.returns-then-eq
returns-then-eq c = of_play c.args.word.now c.args.more.now _ _ c.in_ok-admit.admit c.read_admit.result c.in_ok-admit.was c.read_admit.ensures (search rules) (search rules)

pub returns-then-eq-2 : goal.returns-then-eq-2
returns-then-eq-2 c = of_crew c.args.word.now c.args.more.now _ _ c.in_ok-admit.admit c.read_admit.result c.in_ok-admit.was c.read_admit.ensures (search rules) (search rules)
