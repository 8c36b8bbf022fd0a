use Rattle.std.proofs.Common.{arith}
use Rattle.check_word.proofs.Steps.{word_is}
use Rattle.check_word.proofs.added.Goals as goal

pub returns : goal.returns
returns c = word_is c.args.place c.args.byte c.requires (omega arith)
