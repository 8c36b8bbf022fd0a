-- What is read at the front of bytes.
use Rattle.std.specs.Prelude.{◌≡◌, ℕ, List, ◌++◌, length}
use Rattle.tbl_kinds.specs.Transcript.{EntryFields, IsEntry, entry_spelling, end_bytes}
use Rattle.transcript.specs.declared.reading.EntryHead.{EntryHead}
use Rattle.transcript.specs.declared.reading.EndRecord.{EndRecord}

-- an entry without its reply's bytes and packets
abbrev pub head_of : EntryFields → EntryHead
head_of f = record {
  place = f.place;
  actor = f.actor;
  status = f.status;
  detail = f.detail;
  bytes_len = length f.bytes;
  packets_len = length f.packets;
}

-- the bytes begin with the spelling of an entry that has this head
pub record BeginsWithEntry (bytes : List ℕ) (head : EntryHead) : Type 0 where
  pub fields : EntryFields
  pub is_entry : IsEntry fields
  pub is_head : head ≡ head_of fields
  pub more : List ℕ
  pub parts : bytes ≡ entry_spelling fields ++ more

-- the bytes begin with the spelling of this end record
pub record BeginsWithEnd (bytes : List ℕ) (end : EndRecord) : Type 0 where
  pub more : List ℕ
  pub parts : bytes ≡ end_bytes end.status end.count end.offset ++ more
