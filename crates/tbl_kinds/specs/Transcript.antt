-- The transcript: each entry of a history, and then the end record.
use Rattle.std.specs.Prelude.{ℕ, ◌+◌, ◌-◌, ◌^◌, ◌<◌, ◌≤◌, List, [], ◌∷◌, ◌++◌, length, map, sum_by}
use Rattle.tbl_kinds.specs.Numbers.{four}
use Rattle.tbl_kinds.specs.Records.{Pair, spelling, actor_number}
use Rattle.tbl_kinds.specs.declared.entry.Entry.{Entry}

-- an entry's request with its actor
abbrev pub pair_of : Entry → Pair
pair_of e = record { actor = e.actor; request = e.request }

abbrev pub pairs_of : List Entry → List Pair
pairs_of entries = map pair_of entries

-- what the spelling of an entry tells
pub record EntryFields : Type 0 where
  pub place : ℕ
  pub actor : ℕ
  pub status : ℕ
  pub detail : ℕ
  pub bytes : List ℕ
  pub packets : List ℕ

-- place, actor, status, detail, and then the reply's bytes and its packets, each after its length
unfoldable pub entry_spelling : EntryFields → List ℕ
entry_spelling f =
    four f.place ++ f.actor ∷ [] ++ four f.status ++ four f.detail
    ++ four (length f.bytes) ++ f.bytes ++ four (length f.packets) ++ f.packets

abbrev pub fields_of : ℕ → Entry → EntryFields
fields_of place e = record {
  place = place;
  actor = actor_number e.actor;
  status = e.reply.status.0;
  detail = e.reply.detail;
  bytes = e.reply.bytes.list;
  packets = e.reply.packets.list;
}

abbrev pub entry_bytes : ℕ → Entry → List ℕ
entry_bytes place e = entry_spelling (fields_of place e)

-- the numbers fit their fields, the actor is one, and the place isn't FFFFFFFF, which begins the end record
pub record IsEntry (f : EntryFields) : Type 0 where
  pub place : f.place < 2 ^ 32 - 1
  pub actor : f.actor ≤ 16
  pub status : f.status < 2 ^ 32
  pub detail : f.detail < 2 ^ 32
  pub bytes : length f.bytes < 2 ^ 32
  pub packets : length f.packets < 2 ^ 32

-- the entries from a place on
abbrev pub entries_bytes : ℕ → List Entry → List ℕ
entries_bytes place [] = []
entries_bytes place (e ∷ es) = entry_bytes place e ++ entries_bytes (place + 1) es

-- FFFFFFFF, the status of the run, the number of entries, and where in the input the played records end
unfoldable pub end_bytes : ℕ → ℕ → ℕ → List ℕ
end_bytes status count offset = four 0xFFFFFFFF ++ status ∷ [] ++ four count ++ four offset

-- how many bytes the spellings of all requests have
abbrev pub offset_of : List Entry → ℕ
offset_of entries = sum_by (λ p. length (spelling p)) (pairs_of entries)

abbrev pub transcript : List Entry → ℕ → List ℕ
transcript entries status = entries_bytes 0 entries ++ end_bytes status (length entries) (offset_of entries)
