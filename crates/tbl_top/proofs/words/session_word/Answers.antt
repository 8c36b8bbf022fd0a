use Rattle.std.proofs.Common.{◌≡◌, ◌↔◌, ℕ, List, [], ◌∷◌, Option, Some, map, sym, ap, subst, ◌∙◌, arith}
use Rattle.tbl_top.specs.Words.{Spells, given_bytes}
use Rattle.tbl_top.proofs.WordsLemmas.{CommandWord, one_item, four_items}
use Rattle.tbl_top.proofs.words.session_word.Goals as goal

pub returns-in-len1 : goal.returns-in-len1
returns-in-len1 c = λ given admit threads.
    let are = one_item c.args.words.now c.word-item.result (omega arith) (omega arith) c.word-item.is in
    let named : c.bytes.result.now ∷ [] ≡ map given_bytes c.args.words.now = ap (λ (bytes : List ℕ). bytes ∷ []) c.bytes.ensures ∙ sym (ap (map given_bytes) are) in
    subst (λ (words : List (List ℕ)). (◌≡◌ {A = Option CommandWord} c.one_word.result (Some (given, admit))) ↔ Spells words given admit) named (c.one_word.ensures given admit)

pub returns-in-len4 : goal.returns-in-len4
returns-in-len4 c = λ given admit threads.
    let first = c.word-item-then-words-lt5 in
    let second = c.more-item in
    let third = c.spacecraft-item in
    let fourth = c.processors-item in
    let are = four_items c.args.words.now first.result second.result third.result fourth.result (omega arith) (omega arith) first.is second.is third.is fourth.is in
    let each : c.bytes-in-len4.result.now ∷ c.bytes-in-len4-2.result.now ∷ c.bytes-in-len4-3.result.now ∷ c.bytes-in-len4-4.result.now ∷ []
    ≡ first.result.list ∷ second.result.list ∷ third.result.list ∷ fourth.result.list ∷ []
    = λ i. c.bytes-in-len4.ensures i ∷ c.bytes-in-len4-2.ensures i ∷ c.bytes-in-len4-3.ensures i ∷ c.bytes-in-len4-4.ensures i ∷ [] in
    subst (λ (words : List (List ℕ)). (◌≡◌ {A = Option CommandWord} c.four_words.result (Some (given, admit))) ↔ Spells words given admit) (each ∙ sym (ap (map given_bytes) are)) (c.four_words.ensures given admit)
