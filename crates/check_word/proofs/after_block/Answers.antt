use Rattle.std.proofs.Common.{refl}
use Rattle.check_word.specs.Left.{after_block}
use Rattle.check_word.proofs.after_block.Goals as goal

pub returns : goal.returns
unfolding after_block
returns c = refl
