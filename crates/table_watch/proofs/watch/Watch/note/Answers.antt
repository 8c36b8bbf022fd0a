use Rattle.std.proofs.Common.{◌≡◌, ℕ, List, [], ◌∷◌, ◌++◌, Option, Some, if◌then◌else◌, ap, ◌∙◌, sym}
use Rattle.std.specs.Str.{bytes_eq}
use Rattle.indexmap.specs.IndexMap.{get}
use Rattle.table_watch.specs.Looks.{latest_word}
use Rattle.table_watch.specs.declared.watch.Look.{Look}
use Rattle.table_watch.proofs.Words.{known_next}
use Rattle.table_watch.proofs.watch.Watch.note.Goals as goal

pub invariant_of-self-2 : goal.invariant_of-self-2
invariant_of-self-2 c name =
    let look : Look = record { place = c.args.place; name = c.copy-2.result; word = c.args.word; before = c.in-Ok.before } in
    let known = get bytes_eq c.self.inside.words in
    let names = c.copy.ensures ∙ sym c.copy-2.ensures in
    let items = c.push_reserved.ensures.items ∙ ap (λ (ls : List Look). ls ++ look ∷ []) c.in_ok-reserve.ensures.items in
    known_next known (get bytes_eq c.insert.new.self) c.self.inside.looks.items look c.self.invariant
    (λ n. c.in-Ok.ensures.updates.0 n ∙ ap (λ (key : List ℕ). if bytes_eq key n then Some c.args.word else known n) names)
    name
    ∙ sym (ap (λ (ls : List Look). latest_word ls name) items)
