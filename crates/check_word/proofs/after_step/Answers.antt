use Rattle.std.proofs.Common.{bit_xor, ◌∙◌}
use Rattle.check_word.proofs.Steps.{after_step_is}
use Rattle.check_word.proofs.after_step.Goals as goal

pub returns : goal.returns
returns c =
    (λ i. bit_xor (c.word_of_rest.ensures i) (bit_xor (c.added.ensures i) (c.added-2.ensures i)))
    ∙ after_step_is c.args.word c.args.step.now c.told-step
