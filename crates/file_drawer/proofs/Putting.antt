-- Files that are put and taken back, and what the entries show of it.
use Rattle.std.proofs.Common.{◌≡◌, ℕ, ◌+◌, ◌-◌, ◌<◌, ◌≤◌, Bool, true, false, if◌then◌else◌, List, [], ◌∷◌, ◌++◌, map, take, length, Option, Some, None, IsSome, is_some, IfNone, slice_get, slice_set, slice_index_or, zero, suc, refl, sym, ap, ◌∙◌, arith}
use Rattle.std.proofs.Math.Seq.{take-append_seam}
use Rattle.std.proofs.lemmas.List.{length-append, length-map, length-set, length-take, take-map}
use Rattle.std.specs.Cmp.Lexicographic.{nat_list_eq_equiv}
use Rattle.std.proofs.lemmas.Option.{same_Some}
use Rattle.std.specs.Option.{option_map}
use Rattle.std.specs.Str.{bytes_eq}
use Rattle.tbl_kinds.specs.Drawer.{File, names, contents_of, with_file, undone}
use Rattle.file_drawer.specs.declared.drawer.Entry.{Entry}
use Rattle.file_drawer.specs.Entries.{file_of, files_of, IsNewTo, AreApart}

-- ---- lists of files

-- a file that was put is there
pub contents_of-with_file : (files : List File) (name contents : List ℕ) → contents_of (with_file files name contents) name ≡ Some contents
contents_of-with_file [] name contents = ap (λ b. if b then Some contents else None) (nat_list_eq_equiv.refl name)
contents_of-with_file (file ∷ files) name contents = by (bytes_eq name file.0) refl (contents_of-with_file files name contents)
  where
    by : (b : Bool) → bytes_eq name file.0 ≡ b → contents_of (with_file files name contents) name ≡ Some contents
        → contents_of (if b then (file.0, contents) ∷ files else file ∷ with_file files name contents) name ≡ Some contents
    by true same rest = ap (λ b. if b then Some contents else contents_of files name) same
    by false other rest = ap (λ b. if b then Some file.1 else contents_of (with_file files name contents) name) other ∙ rest

-- a new name goes last
pub with_file-new : (files : List File) (name contents : List ℕ) → contents_of files name ≡ None → with_file files name contents ≡ files ++ (name, contents) ∷ []
with_file-new [] name contents absent = refl
with_file-new (file ∷ files) name contents absent = by (bytes_eq name file.0) absent (with_file-new files name contents)
  where
    by : (b : Bool) → (if b then Some file.1 else contents_of files name) ≡ None
        → (contents_of files name ≡ None → with_file files name contents ≡ files ++ (name, contents) ∷ [])
        → (if b then (file.0, contents) ∷ files else file ∷ with_file files name contents) ≡ file ∷ (files ++ (name, contents) ∷ [])
    by true none rest = absurd (cc)
    by false none rest = ap (λ (fs : List File). file ∷ fs) (rest none)

-- the old contents put back leave the files as they were
with_file-with_file : (files : List File) (name contents old : List ℕ) → contents_of files name ≡ Some old → with_file (with_file files name contents) name old ≡ files
with_file-with_file [] name contents old there = absurd (cc)
with_file-with_file (file ∷ files) name contents old there = by (bytes_eq name file.0) refl there (with_file-with_file files name contents old)
  where
    by : (b : Bool) → bytes_eq name file.0 ≡ b → (if b then Some file.1 else contents_of files name) ≡ Some old
        → (contents_of files name ≡ Some old → with_file (with_file files name contents) name old ≡ files)
        → with_file (if b then (file.0, contents) ∷ files else file ∷ with_file files name contents) name old ≡ file ∷ files
    by true same found rest =
        let e : old ≡ file.1 = cc in
        ap (λ b. if b then (file.0, old) ∷ files else (file.0, contents) ∷ with_file files name old) same ∙ ap (λ (bytes : List ℕ). let put : File = (file.0, bytes) in put ∷ files) e
    by false other found rest =
        ap (λ b. if b then (file.0, old) ∷ with_file files name contents else file ∷ with_file (with_file files name contents) name old) other
        ∙ ap (λ (fs : List File). file ∷ fs) (rest found)

take-push : {X : Type 0} (xs : List X) (x : X) → take (length (xs ++ x ∷ []) - 1) (xs ++ x ∷ []) ≡ xs
take-push xs x =
    let e : length (xs ++ x ∷ []) - 1 ≡ length xs = omega (arith, length-append xs (x ∷ [])) in
    ap (λ n. take n (xs ++ x ∷ [])) e ∙ take-append_seam xs (x ∷ [])

slice_get-push : {X : Type 0} (xs : List X) (x : X) → slice_get (xs ++ x ∷ []) (length xs) ≡ Some x
slice_get-push [] x = refl
slice_get-push (y ∷ xs) x = slice_get-push xs x

map-push : {X Y : Type 0} (f : X → Y) (xs : List X) (x : X) → map f (xs ++ x ∷ []) ≡ map f xs ++ f x ∷ []
map-push f [] x = refl
map-push {X} {Y} f (y ∷ xs) x = ap (λ (ys : List Y). f y ∷ ys) (map-push f xs x)

-- taking back leaves the files as they were
pub undone-with_file : (files : List File) (name contents : List ℕ) (old : Option (List ℕ)) → old ≡ contents_of files name → undone (with_file files name contents) name old ≡ files
undone-with_file files name contents None is =
    ap (λ (fs : List File). take (length fs - 1) fs) (with_file-new files name contents (sym is)) ∙ take-push files (name, contents)
undone-with_file files name contents (Some old) is = with_file-with_file files name contents old (sym is)

-- a new name is the last one
last_name : (files : List File) (name contents : List ℕ) → contents_of files name ≡ None
    → slice_get (names (with_file files name contents)) (length (with_file files name contents) - 1) ≡ Some name
last_name files name contents absent =
    let file : File = (name, contents) in
    let e : length (files ++ file ∷ []) - 1 ≡ length (names files) = omega (arith, length-append files (file ∷ []), length-map files (λ (f : File). f.0)) in
    ap (λ (fs : List File). slice_get (names fs) (length fs - 1)) (with_file-new files name contents absent)
    ∙ ap (λ (ns : List (List ℕ)). slice_get ns (length (files ++ file ∷ []) - 1)) (map-push (λ (f : File). f.0) files file)
    ∙ ap (λ n. slice_get (names files ++ name ∷ []) n) e
    ∙ slice_get-push (names files) name

-- ---- after a put

module _ (old new : List File) (name contents : List ℕ) (put : new ≡ with_file old name contents) where
  pub there_after : IsSome (contents_of new name)
  there_after = ap (λ (fs : List File). is_some (contents_of fs name)) put ∙ ap is_some (contents_of-with_file old name contents)

  pub last_after : (was : Option (List ℕ)) → was ≡ contents_of old name → IfNone was (slice_get (names new) (length new - 1) ≡ Some name)
  last_after None is = ap (λ (fs : List File). slice_get (names fs) (length fs - 1)) put ∙ last_name old name contents (sym is)
  last_after (Some bytes) is = tt

  pub undone_after : (was : Option (List ℕ)) → was ≡ contents_of old name → undone new name was ≡ old
  undone_after was is = ap (λ (fs : List File). undone fs name was) put ∙ undone-with_file old name contents was is

-- ---- names that differ

new_to_push : (others : List (List ℕ)) (name last : List ℕ) → IsNewTo others name → bytes_eq last name ≡ false → IsNewTo (others ++ last ∷ []) name
new_to_push [] name last new differ = (differ, tt)
new_to_push (other ∷ others) name last new differ = (new.0, new_to_push others name last new.1 differ)

new_to_take : (others : List (List ℕ)) (name : List ℕ) (n : ℕ) → IsNewTo others name → IsNewTo (take n others) name
new_to_take [] name zero new = tt
new_to_take [] name (suc n) new = tt
new_to_take (other ∷ others) name zero new = tt
new_to_take (other ∷ others) name (suc n) new = (new.0, new_to_take others name n new.1)

apart_take : (others : List (List ℕ)) (n : ℕ) → AreApart others → AreApart (take n others)
apart_take [] zero apart = tt
apart_take [] (suc n) apart = tt
apart_take (name ∷ others) zero apart = tt
apart_take (name ∷ others) (suc n) apart = (new_to_take others name n apart.0, apart_take others n apart.1)

new_at : (others : List (List ℕ)) (name other : List ℕ) (place : ℕ) → IsNewTo others name → slice_get others place ≡ Some other → bytes_eq other name ≡ false
new_at [] name other place new at = absurd (cc)
new_at (first ∷ others) name other zero new at = rw (← same_Some first other at) new.0
new_at (first ∷ others) name other (suc place) new at = new_at others name other place new.1 at

-- a new name goes last
pub apart_push : (files : List File) (name contents : List ℕ) → contents_of files name ≡ None → AreApart (names files) → AreApart (names (files ++ (name, contents) ∷ []))
apart_push [] name contents absent apart = (tt, tt)
apart_push (file ∷ files) name contents absent apart = by (bytes_eq name file.0) refl absent (apart_push files name contents)
  where
    by : (b : Bool) → bytes_eq name file.0 ≡ b → (if b then Some file.1 else contents_of files name) ≡ None
        → (contents_of files name ≡ None → AreApart (names files) → AreApart (names (files ++ (name, contents) ∷ [])))
        → AreApart (file.0 ∷ names (files ++ (name, contents) ∷ []))
    by true same none rest = absurd (cc)
    by false other none rest =
        (rw (map-push (λ (f : File). f.0) files (name, contents)) (new_to_push (names files) file.0 name apart.0 other), rest none apart.1)

-- ---- what a drawer's files keep

-- after a file is put last
pub pushed_fits : (files more : List File) (name contents : List ℕ) → more ≡ files ++ (name, contents) ∷ [] → length files < 64 → contents_of files name ≡ None → AreApart (names files)
    → length more ≤ 64 × AreApart (names more)
pushed_fits files more name contents is room absent apart =
    let size : length more ≡ length files + 1 = ap (λ (fs : List File). length fs) is ∙ length-append files ((name, contents) ∷ []) in
    (omega (arith, size, room), rw is (apart_push files name contents absent apart))

-- after the last ones are taken away
pub taken_fits : (files fewer : List File) (n : ℕ) → fewer ≡ take n files → length files ≤ 64 × AreApart (names files) → length fewer ≤ 64 × AreApart (names fewer)
taken_fits files fewer n is kept =
    let size : length fewer ≤ length files = rw is (omega (arith, length-take n files)) in
    (omega (arith, size, kept.0), rw (is, ← take-map (λ (f : File). f.0) n files) (apart_take (names files) n kept.1))

-- ---- entries

-- other contents under the same name
abbrev pub refilled : Entry → List ℕ → Entry
refilled entry contents = record entry { contents = contents }

-- the file at a place is the file of its name
contents_at : (entries : List Entry) (place : ℕ) (name : List ℕ) (d : Entry) → AreApart (names (files_of entries))
    → slice_get (names (files_of entries)) place ≡ Some name → contents_of (files_of entries) name ≡ Some (slice_index_or entries place d).contents
contents_at [] place name d apart at = absurd (cc)
contents_at (entry ∷ entries) zero name d apart at =
    rw (← same_Some entry.name name at) (ap (λ b. if b then Some entry.contents else contents_of (files_of entries) entry.name) (nat_list_eq_equiv.refl entry.name))
contents_at (entry ∷ entries) (suc place) name d apart at =
    ap (λ b. if b then Some entry.contents else contents_of (files_of entries) name) (new_at (names (files_of entries)) entry.name name place apart.0 at)
    ∙ contents_at entries place name d apart.1 at

-- other contents at a place are other contents of the file of its name
with_file_at : (entries : List Entry) (place : ℕ) (name : List ℕ) (d : Entry) (contents : List ℕ) → AreApart (names (files_of entries))
    → slice_get (names (files_of entries)) place ≡ Some name
    → files_of (slice_set entries place (refilled (slice_index_or entries place d) contents)) ≡ with_file (files_of entries) name contents
with_file_at [] place name d contents apart at = absurd (cc)
with_file_at (entry ∷ entries) zero name d contents apart at =
    rw (← same_Some entry.name name at)
    (sym (ap (λ b. if b then (entry.name, contents) ∷ files_of entries else file_of entry ∷ with_file (files_of entries) entry.name contents) (nat_list_eq_equiv.refl entry.name)))
with_file_at (entry ∷ entries) (suc place) name d contents apart at =
    ap (λ (fs : List File). file_of entry ∷ fs) (with_file_at entries place name d contents apart.1 at)
    ∙ sym (ap (λ b. if b then (entry.name, contents) ∷ files_of entries else file_of entry ∷ with_file (files_of entries) name contents)
    (new_at (names (files_of entries)) entry.name name place apart.0 at))

-- and the names stay
names_at : (entries : List Entry) (place : ℕ) (d : Entry) (contents : List ℕ)
    → names (files_of (slice_set entries place (refilled (slice_index_or entries place d) contents))) ≡ names (files_of entries)
names_at [] place d contents = refl
names_at (entry ∷ entries) zero d contents = refl
names_at (entry ∷ entries) (suc place) d contents = ap (λ (ns : List (List ℕ)). entry.name ∷ ns) (names_at entries place d contents)

-- the same of an entry that was read at the place
pub contents_read : (entries : List Entry) (place : ℕ) (name : List ℕ) (entry : Entry) → entry ≡ slice_index_or entries place entry → AreApart (names (files_of entries))
    → slice_get (names (files_of entries)) place ≡ Some name → contents_of (files_of entries) name ≡ Some entry.contents
contents_read entries place name entry read apart at = contents_at entries place name entry apart at ∙ ap (λ (e : Entry). Some e.contents) (sym read)

module _ (entries : List Entry) (place : ℕ) (entry : Entry) (contents : List ℕ) (read : entry ≡ slice_index_or entries place entry) where
  set_is : slice_set entries place (refilled entry contents) ≡ slice_set entries place (refilled (slice_index_or entries place entry) contents)
  set_is = ap (λ (e : Entry). slice_set entries place (refilled e contents)) read

  pub refilled_file : (name : List ℕ) → AreApart (names (files_of entries)) → slice_get (names (files_of entries)) place ≡ Some name
      → files_of (slice_set entries place (refilled entry contents)) ≡ with_file (files_of entries) name contents
  refilled_file name apart at = ap (λ (es : List Entry). files_of es) set_is ∙ with_file_at entries place name entry contents apart at

  pub refilled_fits : length (files_of entries) ≤ 64 × AreApart (names (files_of entries))
      → length (files_of (slice_set entries place (refilled entry contents))) ≤ 64 × AreApart (names (files_of (slice_set entries place (refilled entry contents))))
  refilled_fits kept =
      let same : names (files_of (slice_set entries place (refilled entry contents))) ≡ names (files_of entries) =
      ap (λ (es : List Entry). names (files_of es)) set_is ∙ names_at entries place entry contents in
      let size : length (files_of (slice_set entries place (refilled entry contents))) ≡ length (files_of entries) =
      length-map (slice_set entries place (refilled entry contents)) file_of ∙ length-set entries place (refilled entry contents) ∙ sym (length-map entries file_of) in
      (rw size kept.0, rw same kept.1)

-- the name at a place is that of the entry there
pub listed : (entries : List Entry) (place : ℕ) (r : Option Entry) → r ≡ slice_get entries place → option_map (λ (entry : Entry). entry.name) r ≡ slice_get (names (files_of entries)) place
listed entries place r is = ap (option_map (λ (entry : Entry). entry.name)) is ∙ sym (by entries place)
  where
    by : (entries : List Entry) (place : ℕ) → slice_get (names (files_of entries)) place ≡ option_map (λ (entry : Entry). entry.name) (slice_get entries place)
    by [] place = refl
    by (entry ∷ entries) zero = refl
    by (entry ∷ entries) (suc place) = by entries place

-- the last file is taken away
pub dropped : (old new : List Entry) (last : Entry) → old ≡ new ++ last ∷ [] → files_of new ≡ take (length (files_of old) - 1) (files_of old)
dropped old new last is =
    let e : files_of old ≡ files_of new ++ file_of last ∷ [] = ap (λ (es : List Entry). files_of es) is ∙ map-push file_of new last in
    sym (ap (λ (fs : List File). take (length fs - 1) fs) e ∙ take-push (files_of new) (file_of last))
