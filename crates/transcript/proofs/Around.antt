-- An entry's spelling as what stands around the bytes of its reply.
use Rattle.std.proofs.Common.{◌≡◌, ℕ, List, ◌++◌, take, drop, append_assoc}
use Rattle.tbl_kinds.specs.Transcript.{EntryFields, entry_spelling}
use Rattle.transcript.specs.Writing.{front_of, rest_of}

around : (f : EntryFields) → front_of f ++ f.bytes ++ rest_of f ≡ entry_spelling f
unfolding entry_spelling
around f = simp append_assoc

-- with bytes between that are the reply's
pub whole : (f : EntryFields) (bytes : List ℕ) → bytes ≡ f.bytes → front_of f ++ bytes ++ rest_of f ≡ entry_spelling f
whole f bytes same = rw same (around f)

-- what was put together is parted, and the bytes are put between
pub parts : (f : EntryFields) (together front bytes rest : List ℕ) → together ≡ front_of f ++ rest_of f → front ≡ take 17 together → rest ≡ drop 17 together → bytes ≡ f.bytes
    → front ++ bytes ++ rest ≡ entry_spelling f
parts f together front bytes rest is front_is rest_is same = rw (front_is, rest_is, is, same) (around f)
