use Rattle.std.proofs.Common.{◌≡◌, ℕ, List, ap, ◌∙◌, bit_xor, rules}
use Rattle.std.specs.List.{fold}
use Rattle.cfe_headers.proofs.Words.{with_eight, of_word, whole}
use Rattle.cfe_headers.proofs.packets.checksum_from.Goals as goal

pub returns : goal.returns
returns c =
    let word : c.fold-word.result ≡ fold with_eight 0 c.as_chunks.result.0.now = search rules in
    let tail : c.fold.result ≡ fold bit_xor (bit_xor c.args.sum c.xor_of_bytes.result) c.as_chunks.result.1.now = search rules in
    let cut = c.as_chunks.ensures in
    let joined : c.xor_of_bytes.result ≡ of_word (fold with_eight 0 c.as_chunks.result.0.now) = c.xor_of_bytes.ensures ∙ ap of_word word in
    tail
    ∙ (λ i. fold bit_xor (bit_xor c.args.sum ((joined ∙ ap (λ (eights : List (List ℕ)). of_word (fold with_eight 0 eights)) cut.front) i)) (cut.back i))
    ∙ whole c.args.sum c.args.bytes.now (search rules)
