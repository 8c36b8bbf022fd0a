use Rattle.std.proofs.Common.{◌≡◌, sym, ◌∙◌, arith}
use Rattle.std.specs.Prelude.{codes}
use Rattle.tbl_top.specs.Words.{AsksWithShape}
use Rattle.tbl_top.proofs.WordsLemmas.{two_items, with_shape, on_err}
use Rattle.tbl_top.proofs.words.word_of.Goals as goal

pub returns-in-len2-clause-memory : goal.returns-in-len2-clause-memory
returns-in-len2-clause-memory c =
    let first = c.word-item-then-words-lt3 in
    let second = c.shape-item in
    let are = two_items c.args.words.now first.result second.result (omega arith) (omega arith) first.is second.is in
    let named = c.bytes-in-len2.result.now ≡ codes "describe" in
    on_err c.two_words.result named (AsksWithShape c.args.words.now) (λ (is : named). with_shape c.args.words.now first.result second.result are (sym c.bytes-in-len2.ensures ∙ is)) c.two_words.ensures.memory
