-- Files that are found by their names.
use Rattle.std.proofs.Common.{◌≡◌, ℕ, ◌<◌, ◌≤◌, true, false, if◌then◌else◌, List, [], ◌∷◌, length, Option, Some, None, IfNone, IfSome, cond, nat_lt, position, slice_get, slice_index_or, zero, suc, refl, sym, ap, ◌∙◌, arith}
use Rattle.std.proofs.lemmas.Bool.Decides.{nat_tests}
use Rattle.std.proofs.lemmas.List.Quantifiers.{position-Some}
use Rattle.std.proofs.lemmas.List.Sums.{fails_before_first}
use Rattle.std.proofs.lemmas.Slice.Eq.{bytes_eq-Decides}
use Rattle.std.proofs.lemmas.Option.{slice_get_within, get_or_from_slice_get}
use Rattle.std.specs.List.{position_or_len}
use Rattle.tbl_kinds.specs.Drawer.{names, contents_of}
use Rattle.file_drawer.specs.declared.drawer.Entry.{Entry}
use Rattle.file_drawer.specs.Entries.{files_of, is_named}

named_at : (entries : List Entry) (place : ℕ) (name : List ℕ) (d : Entry) → place < length entries → is_named name (slice_index_or entries place d) ≡ true
    → slice_get (names (files_of entries)) place ≡ Some name
named_at [] place name d within same = absurd (omega arith)
named_at (entry ∷ entries) zero name d within same = ap Some (sym ((bytes_eq-Decides name entry.name).0 same))
named_at (entry ∷ entries) (suc place) name d within same = named_at entries place name d (omega arith) same

none_among : (entries : List Entry) (name : List ℕ)
    → ((k : ℕ) (d : Entry) → k < length entries → is_named name (slice_index_or entries k d) ≡ false) → contents_of (files_of entries) name ≡ None
none_among [] name none = refl
none_among (entry ∷ entries) name none =
    ap (λ b. if b then Some entry.contents else contents_of (files_of entries) name) (none 0 entry (omega arith))
    ∙ none_among entries name (λ k d within. none (suc k) d (omega arith))

past_none : (n all : ℕ) → cond (nat_lt n all) (Some n) None ≡ None → all ≤ n
past_none n all none = grind (arith, nat_tests)

-- an entry of the name that was read at a place
pub named_read : (entries : List Entry) (place : ℕ) (name : List ℕ) (entry : Entry) → slice_get entries place ≡ Some entry → is_named name entry ≡ true
    → slice_get (names (files_of entries)) place ≡ Some name
named_read entries place name entry read same =
    let is : slice_index_or entries place entry ≡ entry = get_or_from_slice_get entries place entry entry read in
    named_at entries place name entry (slice_get_within entries place entry read) (rw is same)

-- what is found first has the name
pub first_named : (entries : List Entry) (name : List ℕ) (r : Option ℕ) → r ≡ position (is_named name) entries → IfSome r (λ place. slice_get (names (files_of entries)) place ≡ Some name)
first_named entries name None is = tt
first_named entries name (Some place) is =
    let nothing : Entry = record { name = []; contents = [] } in
    let found = position-Some (is_named name) entries place nothing (sym is) in
    named_at entries place name nothing found.0 found.1

-- and if none is found, there is no such file
pub none_named : (entries : List Entry) (name : List ℕ) (r : Option ℕ) → r ≡ position (is_named name) entries → IfNone r (contents_of (files_of entries) name ≡ None)
none_named entries name (Some place) is = tt
none_named entries name None is =
    let past : length entries ≤ position_or_len (is_named name) entries = past_none (position_or_len (is_named name) entries) (length entries) (sym is) in
    none_among entries name (λ k d within. fails_before_first (is_named name) entries k d (omega arith))
