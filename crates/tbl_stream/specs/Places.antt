-- The transcript of a stream, whose numbers go round.
use Rattle.std.specs.Prelude.{ℕ, ◌+◌, ◌%◌, ◌^◌, List, [], ◌∷◌, ◌++◌, length}
use Rattle.tbl_kinds.specs.Transcript.{entry_bytes, end_bytes, offset_of}
use Rattle.tbl_kinds.specs.declared.entry.Entry.{Entry}

-- FFFFFFFF begins the end record and is no entry's place: after FFFFFFFE comes 0
abbrev pub place_count : ℕ
place_count = 4294967295

abbrev pub place_of : ℕ → ℕ
place_of number = number % place_count

-- the entries from a place on
abbrev pub told_from : ℕ → List Entry → List ℕ
told_from place [] = []
told_from place (e ∷ es) = entry_bytes (place_of place) e ++ told_from (place + 1) es

-- the end record has the place that a further entry would have, and the number of bytes of the records that were played, in four bytes
abbrev pub end_of : ℕ → List Entry → List ℕ
end_of status entries = end_bytes status (place_of (length entries)) (offset_of entries % 2 ^ 32)

abbrev pub told_with_end : List Entry → ℕ → List ℕ
told_with_end entries status = told_from 0 entries ++ end_of status entries
