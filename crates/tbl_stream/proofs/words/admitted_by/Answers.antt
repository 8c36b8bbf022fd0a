use Rattle.std.proofs.Common.{◌≡◌, ◌↔◌, ℕ, List, [], ◌∷◌, Option, Some, map, sym, ap, subst, ◌∙◌, arith}
use Rattle.tbl_kinds.specs.Admitted.{Admitted}
use Rattle.tbl_stream.specs.Words.{Spells, given_bytes}
use Rattle.tbl_stream.proofs.WordsLemmas.{three_items}
use Rattle.tbl_stream.proofs.words.admitted_by.Goals as goal

pub returns-in-len3 : goal.returns-in-len3
returns-in-len3 c = λ admit.
    let first = c.word-item in
    let second = c.spacecraft-item in
    let third = c.processors-item in
    let are = three_items c.args.words.now first.result second.result third.result (omega arith) (omega arith) first.is second.is third.is in
    let each : c.bytes.result.now ∷ c.bytes-in-len3.result.now ∷ c.bytes-in-len3-2.result.now ∷ [] ≡ first.result.list ∷ second.result.list ∷ third.result.list ∷ []
    = λ i. c.bytes.ensures i ∷ c.bytes-in-len3.ensures i ∷ c.bytes-in-len3-2.ensures i ∷ [] in
    subst (λ (words : List (List ℕ)). (◌≡◌ {A = Option Admitted} c.lists_of.result (Some admit)) ↔ Spells words admit) (each ∙ sym (ap (map given_bytes) are)) (c.lists_of.ensures admit)
