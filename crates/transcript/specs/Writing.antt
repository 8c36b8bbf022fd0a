-- The parts of an entry's spelling around the bytes of its reply.
use Rattle.std.specs.Prelude.{ℕ, List, [], ◌∷◌, ◌++◌, length}
use Rattle.tbl_kinds.specs.Numbers.{four}
use Rattle.tbl_kinds.specs.Transcript.{EntryFields}

-- what stands before them
abbrev pub front_of : EntryFields → List ℕ
front_of f = four f.place ++ f.actor ∷ [] ++ four f.status ++ four f.detail ++ four (length f.bytes)

-- and after them
abbrev pub rest_of : EntryFields → List ℕ
rest_of f = four (length f.packets) ++ f.packets
