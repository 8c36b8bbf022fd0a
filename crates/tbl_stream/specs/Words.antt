-- The words of the program.
use Rattle.std.specs.Prelude.{◌≡◌, ℕ, List, [], ◌∷◌, map, codes}
use Rattle.tbl_kinds.specs.Admitted.{Admitted, all_admitted}
use Rattle.tbl_kinds.specs.Buffers.{Buffer}
use Rattle.admit_lists.specs.Lists.{SpellsAdmit}

-- with no word files of all spacecraft and processors are admitted, and after `admit` those of two lists
abbrev pub Spells : List (List ℕ) → Admitted → Type 0
Spells [] admit = admit ≡ all_admitted
Spells (word ∷ spacecraft ∷ processors ∷ []) admit = (word ≡ codes "admit") × SpellsAdmit spacecraft processors admit
Spells words admit = ⊥

abbrev pub given_bytes : Buffer → List ℕ
given_bytes text = text.list

abbrev pub Asks : List Buffer → Admitted → Type 0
Asks words admit = Spells (map given_bytes words) admit

-- the words are none that are known
abbrev pub IsUnknown : List Buffer → Type 0
IsUnknown words = (admit : Admitted) → ¬ Asks words admit
