use Rattle.std.proofs.Common.{◌≡◌, ◌≢◌, ℕ, ◌<◌, ◌+◌, List, [], ◌∷◌, length, take, drop, Some, refl, sym, subst, ◌∙◌, rules}
use Rattle.std.specs.Prelude.{codes}
use Rattle.std.specs.List.{position_or_len}
use Rattle.admit_lists.specs.Lists.{is_comma, SpellsId, SpellsList}
use Rattle.admit_lists.proofs.Spelled.{any_alone, one_spelled, two_spelled}
use Rattle.admit_lists.proofs.reading.read_list.Goals as goal

pub returns-then-eq : goal.returns-then-eq
returns-then-eq c = λ ids.
    let any : c.args.word.now ≡ codes "any" = search rules in (
      λ is. let none : ids ≡ [] = search rules in subst (SpellsList c.args.word.now) (sym none) any,
      λ spells. let none = any_alone c.args.word.now any ids spells in search rules,
    )

pub returns-then-comma-word : goal.returns-then-comma-word
returns-then-comma-word c =
    let other : c.args.word.now ≢ codes "any" = search rules in
    one_spelled (λ ids. record { items = ids }) (λ v. v.items) (λ ids. refl) c.args.word.now other c.read_one.result (sym c.comma_in-comma.ensures.comma ∙ c.if-comma-word.true) c.read_one.ensures.one c.read_one.ensures.len

pub returns : goal.returns
returns c =
    let other : c.args.word.now ≢ codes "any" = search rules in
    let at = c.comma_in-comma.ensures.comma in
    let within : position_or_len is_comma c.args.word.now < length c.args.word.now = search rules in
    two_spelled (λ ids. record { items = ids }) (λ v. v.items) (λ ids. refl) c.args.word.now other c.read_two.result within
    (subst (λ (n : ℕ). (first second : ℕ) → (c.read_two.result ≡ Some (record { items = first ∷ second ∷ [] }) → SpellsId (take n c.args.word.now) first × SpellsId (drop (n + 1) c.args.word.now) second)
    × (SpellsId (take n c.args.word.now) first × SpellsId (drop (n + 1) c.args.word.now) second → c.read_two.result ≡ Some (record { items = first ∷ second ∷ [] }))) at
    (subst (λ (rest : List ℕ). (first second : ℕ) → (c.read_two.result ≡ Some (record { items = first ∷ second ∷ [] }) → SpellsId (take c.comma_in-comma.result c.args.word.now) first × SpellsId rest second)
    × (SpellsId (take c.comma_in-comma.result c.args.word.now) first × SpellsId rest second → c.read_two.result ≡ Some (record { items = first ∷ second ∷ [] }))) c.split_at.ensures.back c.read_two.ensures.two))
    c.read_two.ensures.len
