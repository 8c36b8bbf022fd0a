-- The check words that are known after a look more.
use Rattle.std.proofs.Common.{◌≡◌, ℕ, List, [], ◌∷◌, ◌++◌, Bool, Option, Some, None, if◌then◌else◌, sym, ap, ◌∙◌}
use Rattle.std.proofs.lemmas.List.Sums.{fold_push}
use Rattle.std.specs.Str.{bytes_eq}
use Rattle.table_watch.specs.Looks.{known_after, latest_word}
use Rattle.table_watch.specs.declared.watch.Look.{Look}

-- the map knows what the looks say, and after its entry for the next look it still does
pub known_next : (before after : List ℕ → Option ℕ) (looks : List Look) (look : Look)
    → ((name : List ℕ) → before name ≡ latest_word looks name)
    → ((name : List ℕ) → after name ≡ (if bytes_eq look.name name then Some look.word else before name))
    → (name : List ℕ) → after name ≡ latest_word (looks ++ look ∷ []) name
known_next before after looks look knew put name =
    put name ∙ ap (λ (known : Option ℕ). if bytes_eq look.name name then Some look.word else known) (knew name) ∙ sym (fold_push (known_after name) None looks look)
