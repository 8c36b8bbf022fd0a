-- Looks at the images of tables.
use Rattle.std.specs.Prelude.{◌≡◌, ℕ, ◌==◌, List, [], ◌∷◌, ◌++◌, Bool, if◌then◌else◌, Option, Some, None, Result, IfOk, OnOk, OnErr}
use Rattle.std.specs.List.{fold}
use Rattle.std.specs.Str.{bytes_eq}
use Rattle.tbl_kinds.specs.declared.bytes.Memory.{Memory}
use Rattle.table_watch.specs.declared.watch.Look.{Look}
use Rattle.table_watch.specs.declared.watch.Seen.{Seen}
use Rattle.table_watch.specs.declared.watch.Seen.TheVariants.{First, Same, Changed}

-- the check word that is known of a name after a look more
abbrev pub known_after : List ℕ → Option ℕ → Look → Option ℕ
known_after name known look = if bytes_eq look.name name then Some look.word else known

-- the check word of the latest look at a table of this name
abbrev pub latest_word : List Look → List ℕ → Option ℕ
latest_word looks name = fold (known_after name) None looks

-- the next look: the place of the entry that got the image, the table's full name, the image's check word, and the one that the latest
-- look before at a table of that name had
abbrev pub next_look : List Look → ℕ → List ℕ → ℕ → Look
next_look looks place name word = record { place = place; name = name; word = word; before = latest_word looks name }

abbrev pub looked : List Look → ℕ → List ℕ → ℕ → List Look
looked looks place name word = looks ++ next_look looks place name word ∷ []

-- what is seen of a check word compared with the one before
abbrev pub seen_after : Option ℕ → ℕ → Seen
seen_after None word = First
seen_after (Some old) word = if old == word then Same word else Changed old word

-- a look is noted, and answered by what it saw; if memory ran out, nothing changes
pub record Notes (place : ℕ) (name : List ℕ) (word : ℕ) (old new : List Look) (result : Result Seen Memory) : Type 0 where
  pub look : OnOk result (new ≡ looked old place name word)
  pub seen : IfOk result (λ seen. seen ≡ seen_after (latest_word old name) word)
  pub err : OnErr result (new ≡ old)
