-- What the entries show, and that their names differ.
use Rattle.std.specs.Prelude.{◌≡◌, ℕ, List, [], ◌∷◌, map, Bool, false}
use Rattle.std.specs.Str.{bytes_eq}
use Rattle.tbl_kinds.specs.Drawer.{File}
use Rattle.file_drawer.specs.declared.drawer.Entry.{Entry}

-- the name, and the bytes under it
abbrev pub file_of : Entry → File
file_of entry = (entry.name, entry.contents)

-- the files, in the order of the entries
abbrev pub files_of : List Entry → List File
files_of entries = map file_of entries

-- an entry has this name
abbrev pub is_named : List ℕ → Entry → Bool
is_named name entry = bytes_eq name entry.name

-- the name is none of these
abbrev pub IsNewTo : List (List ℕ) → List ℕ → Type 0
IsNewTo [] name = Unit {0}
IsNewTo (other ∷ others) name = (bytes_eq other name ≡ false) × IsNewTo others name

-- no name comes twice
abbrev pub AreApart : List (List ℕ) → Type 0
AreApart [] = Unit {0}
AreApart (name ∷ others) = IsNewTo others name × AreApart others
