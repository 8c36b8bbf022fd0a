-- The drawer: named files in order of the first uplink of their names.
use Rattle.std.specs.Prelude.{◌≡◌, ℕ, ◌-◌, ◌==◌, List, [], ◌∷◌, map, take, length, Bool, ◌&&◌, if◌then◌else◌, Option, Some, None, IsNone, is_none}
use Rattle.std.specs.Str.{bytes_eq}

-- a name and the contents under it
abbrev pub File : Type 0
File = List ℕ × List ℕ

-- the names, in their order
abbrev pub names : List File → List (List ℕ)
names files = map (λ (file : File). file.0) files

-- the contents under a name
abbrev pub contents_of : List File → List ℕ → Option (List ℕ)
contents_of [] name = None
contents_of (file ∷ files) name = if bytes_eq name file.0 then Some file.1 else contents_of files name

-- the files after one is put: a name that is there keeps its place, and a new one goes last
abbrev pub with_file : List File → List ℕ → List ℕ → List File
with_file [] name contents = (name, contents) ∷ []
with_file (file ∷ files) name contents = if bytes_eq name file.0 then (file.0, contents) ∷ files else file ∷ with_file files name contents

-- the files after the last one that was put is taken back: its old contents are there again, or else it is taken away
abbrev pub undone : List File → List ℕ → Option (List ℕ) → List File
undone files name (Some old) = with_file files name old
undone files name None = take (length files - 1) files

-- how many files there can be
abbrev pub drawer_limit : ℕ
drawer_limit = 64

-- 64 files of other names are there
abbrev pub is_full_for : List File → List ℕ → Bool
is_full_for files name = is_none (contents_of files name) && length files == drawer_limit

abbrev pub IsFullFor : List File → List ℕ → Type 0
IsFullFor files name = IsNone (contents_of files name) × (length files ≡ drawer_limit)
