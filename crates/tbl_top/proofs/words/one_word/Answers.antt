use Rattle.tbl_top.proofs.WordsLemmas.{of_one}
use Rattle.tbl_top.proofs.words.one_word.Goals as goal

pub returns : goal.returns
returns c = λ requested admit.
    let both = of_one c.args.word.now c.lone_word.result c.lone_word.ensures requested admit in
    let found = c.admitting_all.ensures requested admit in
    (λ is. both.0 (found.0 is), λ spells. found.1 (both.1 spells))
