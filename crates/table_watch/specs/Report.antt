-- The report of a watcher: a line for each look, and how many looks there were and how many saw a change.
use Rattle.std.specs.Prelude.{ℕ, ◌/◌, ◌%◌, ◌==◌, List, [], ◌∷◌, ◌++◌, length, codes, count_by, Bool, true, false, not, if◌then◌else◌, Option, Some, None}
use Rattle.std.specs.Fmt.{decimal, digit_glyph}
use Rattle.std.specs.List.{flat_map}
use Rattle.table_watch.specs.declared.watch.Look.{Look}

-- a check word as four of 0 to 9 and A to F
abbrev pub word_text : ℕ → List ℕ
word_text word = digit_glyph true (word / 4096) ∷ digit_glyph true (word / 256 % 16) ∷ digit_glyph true (word / 16 % 16) ∷ digit_glyph true (word % 16) ∷ []

abbrev pub changed_text : ℕ → List ℕ
changed_text old = codes "changed " ++ word_text old

-- `first`, `same` or `changed` with the check word before
abbrev pub seen_text : Option ℕ → ℕ → List ℕ
seen_text None word = codes "first"
seen_text (Some old) word = if old == word then codes "same" else changed_text old

-- the place, the name, the check word, and what was seen
abbrev pub line_of : Look → List ℕ
line_of look = decimal look.place ++ codes " " ++ look.name ++ codes " " ++ word_text look.word ++ codes " " ++ seen_text look.before look.word ++ codes "\n"

abbrev pub is_changed : Look → Bool
is_changed look = has_changed look.before look.word
  where
    has_changed : Option ℕ → ℕ → Bool
    has_changed None word = false
    has_changed (Some old) word = not (old == word)

abbrev pub counts_line : List Look → List ℕ
counts_line looks = codes "watched " ++ decimal (length looks) ++ codes " changed " ++ decimal (count_by is_changed looks) ++ codes "\n"

unfoldable pub report : List Look → List ℕ
report looks = flat_map line_of looks ++ counts_line looks
