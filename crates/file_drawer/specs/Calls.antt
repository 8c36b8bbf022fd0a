-- What calls of a drawer promise.
use Rattle.std.specs.Prelude.{◌≡◌, ◌-◌, ◌<◌, ◌↔◌, ℕ, List, length, take, slice_get, Option, None, Some, IsSome, IsNone, IfSome, IfNone, Result, Err, IfOk, OnOk, OnErr}
use Rattle.tbl_kinds.specs.Drawer.{File, contents_of, names, undone, with_file, IsFullFor}
use Rattle.file_drawer.specs.declared.drawer.PutFault.{PutFault}
use Rattle.file_drawer.specs.declared.drawer.PutFault.TheVariants.{Full, Memory}

-- all but the last of some files
abbrev pub without_last : List File → List File
without_last files = take (length files - 1) files

-- the file of this name is at this place
abbrev pub IsAt : List File → ℕ → List ℕ → Type 0
IsAt files place name = slice_get (names files) place ≡ Some name

-- the place of the file of a name is found
pub record Finds (files : List File) (name : List ℕ) (found : Option ℕ) : Type 0 where
  pub at : IfSome found (λ place. IsAt files place name)
  pub within : IfSome found (λ place. place < length files)
  pub absent : IfNone found (contents_of files name ≡ None)

-- other contents are at a place, and those that were there are given
pub record Replaces (place : ℕ) (contents : List ℕ) (old new : List File) (given : List ℕ) : Type 0 where
  pub file : (name : List ℕ) → IsAt old place name → new ≡ with_file old name contents
  pub replaced : (name : List ℕ) → IsAt old place name → contents_of old name ≡ Some given

-- what was put under a name can be taken back: it is there, and last if it is new
pub record CanUndo (files : List File) (name : List ℕ) (old : Option (List ℕ)) : Type 0 where
  pub there : IsSome (contents_of files name)
  pub last : IfNone old (IsAt files (length files - 1) name)

-- a file is put under its name: a name that is there keeps its place and is never refused, and a new one is put last
pub record Puts (name contents : List ℕ) (old new : List File) (result : Result (Option (List ℕ)) PutFault) : Type 0 where
  pub file : OnOk result (new ≡ with_file old name contents)
  pub replaced : IfOk result (λ given. given ≡ contents_of old name)
  pub there : OnOk result (IsSome (contents_of new name))
  pub last : IfOk result (λ given. IfNone given (IsAt new (length new - 1) name))
  pub undone : IfOk result (λ given. undone new name given ≡ old)
  pub full : (result ≡ Err Full) ↔ IsFullFor old name
  pub memory : result ≡ Err Memory → IsNone (contents_of old name)
  pub err : OnErr result (new ≡ old)
