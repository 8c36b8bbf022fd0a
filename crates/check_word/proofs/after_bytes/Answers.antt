use Rattle.std.proofs.Common.{◌≡◌, ap, ◌∙◌, ◌/◌, length, rules}
use Rattle.std.specs.List.{fold}
use Rattle.tbl_kinds.specs.Check.{after_byte}
use Rattle.check_word.proofs.Steps.{in_chunks}
use Rattle.check_word.proofs.after_bytes.Goals as goal

pub returns : goal.returns
returns c =
    let steps : c.fold-word.result ≡ fold (fold after_byte) c.args.word c.as_chunks.result.0.now = search rules in
    let tail : c.fold.result ≡ fold after_byte c.fold-word.result c.as_chunks.result.1.now = search rules in
    let cut = c.as_chunks.ensures in
    tail
    ∙ (λ i. fold after_byte ((steps ∙ ap (fold (fold after_byte) c.args.word) cut.front) i) (cut.back i))
    ∙ in_chunks after_byte 32 (length c.args.bytes.now / 32) c.args.word c.args.bytes.now
