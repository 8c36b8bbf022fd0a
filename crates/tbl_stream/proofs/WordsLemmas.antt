-- What the words ask for.
use Rattle.std.proofs.Common.{◌≡◌, ◌↔◌, ◌<◌, ◌≤◌, List, ℕ, [], ◌∷◌, length, get_or, Option, Some, arith}
use Rattle.std.specs.Prelude.{codes}
use Rattle.tbl_kinds.specs.Buffers.{Buffer}
use Rattle.tbl_kinds.specs.Admitted.{Admitted}
use Rattle.admit_lists.specs.Lists.{SpellsAdmit}
use Rattle.tbl_stream.specs.Words.{Spells}

pub lists_are : (word spacecraft processors : List ℕ) (found : Option Admitted) → word ≡ codes "admit" → ((admit : Admitted) → (found ≡ Some admit) ↔ SpellsAdmit spacecraft processors admit)
    → (admit : Admitted) → (found ≡ Some admit) ↔ Spells (word ∷ spacecraft ∷ processors ∷ []) admit
lists_are word spacecraft processors found named all admit = (λ is. (named, (all admit).0 is), λ spells. (all admit).1 spells.1)

-- a list of three
pub three_items : (words : List Buffer) (first second third : Buffer) → 3 ≤ length words → length words < 4 → first ≡ get_or words 0 first → second ≡ get_or words 1 second → third ≡ get_or words 2 third
    → words ≡ first ∷ second ∷ third ∷ []
three_items [] first second third least most e f g = absurd (omega (arith, least))
three_items (a ∷ []) first second third least most e f g = absurd (omega (arith, least))
three_items (a ∷ b ∷ []) first second third least most e f g = absurd (omega (arith, least))
three_items (a ∷ b ∷ c ∷ []) first second third least most e f g = cc
three_items (a ∷ b ∷ c ∷ d ∷ words) first second third least most e f g = absurd (omega (arith, most))
