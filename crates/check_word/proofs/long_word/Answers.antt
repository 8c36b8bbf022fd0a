use Rattle.std.proofs.Common.{◌≡◌, ◌-◌, ◌/◌, ◌%◌, ◌++◌, length, take, replicate, ap, ◌∙◌, arith}
use Rattle.std.specs.List.{fold}
use Rattle.std.proofs.lemmas.List.{take_all}
use Rattle.check_word.specs.Left.{after_blocks, word_of}
use Rattle.check_word.proofs.Blocks.{by_left}
use Rattle.check_word.proofs.long_word.Goals as goal

pub returns : goal.returns
returns c =
    let bytes = c.args.bytes.now in
    let odd = length bytes % 256 in
    let none = replicate 16 (replicate 16 0) in
    let cut = c.as_rchunks.ensures in
    let all : c.loop-bytes.left ≡ fold after_blocks c.after_blocks-left.result c.as_rchunks.result.1.now =
    c.loop-bytes.invariant
    ∙ ap (fold after_blocks c.after_blocks-left.result) (take_all c.loop-bytes.bytes-index c.as_rchunks.result.1.now c.loop-bytes-test.false) in
    let front : c.after_blocks-left.result ≡ after_blocks none (replicate (256 - odd) 0 ++ take odd bytes) =
    c.after_blocks-left.ensures
    ∙ ap (after_blocks none) (c.filled.ensures ∙ (λ i. replicate (256 - cut.front_len i) 0 ++ cut.front i)) in
    c.word_of.ensures
    ∙ ap word_of (all ∙ (λ i. fold after_blocks (front i) (cut.back i)))
    ∙ by_left odd (length bytes / 256) bytes (omega arith) (omega arith) c.type_inv.bytes
