use Rattle.tbl_top.proofs.WordsLemmas.{of_three}
use Rattle.tbl_top.proofs.words.three_words.Goals as goal

pub returns : goal.returns
returns c = λ requested admit.
    let both = of_three c.args.word.now c.args.seed.now c.args.rounds.now c.drill_of.result c.drill_of.ensures requested admit in
    let found = c.admitting_all.ensures requested admit in
    (λ is. both.0 (found.0 is), λ spells. found.1 (both.1 spells))
