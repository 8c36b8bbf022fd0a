use Rattle.tbl_stream.proofs.WordsLemmas.{lists_are}
use Rattle.std.proofs.Common.{rules}
use Rattle.tbl_stream.proofs.words.lists_of.Goals as goal

pub returns : goal.returns
returns c = lists_are c.args.word.now c.args.spacecraft.now c.args.processors.now c.read_admit.result (search rules) c.read_admit.ensures
