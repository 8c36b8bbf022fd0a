-- Laws of spellings and of inputs.
use Rattle.std.specs.Prelude.{◌≡◌, ℕ, ◌<◌, ◌≤◌, List, [], ◌++◌, length, map}
use Rattle.std.specs.List.{AllByRecursion}
use Rattle.tbl_kinds.specs.Records.{Pair, IsRecord, spelling, without_room, joined, record_limit, AreRecords}
use Rattle.tbl_kinds.specs.Heads.{IsShort, IsBad, BeginsNone, EndsBefore}

-- where two spellings, each with bytes after it, are equal, the spellings are, and the bytes after them
abbrev pub SpellingsStandApart : Type 0
SpellingsStandApart = (p q : Pair) (x y : List ℕ) → IsRecord p → IsRecord q → spelling p ++ x ≡ spelling q ++ y → (spelling p ≡ spelling q) × (x ≡ y)

-- a spelling is of one actor, and of one request but for the room after its bytes
abbrev pub SpellingsAreOfOneRequest : Type 0
SpellingsAreOfOneRequest = (p q : Pair) → IsRecord p → IsRecord q → spelling p ≡ spelling q → (p.actor ≡ q.actor) × (without_room p.request ≡ without_room q.request)

-- no bytes, short ones and bad ones begin with no spelling
pub record RefusedBytesBeginNone : Type 0 where
  pub end : BeginsNone []
  pub short : (bytes : List ℕ) → IsShort bytes → BeginsNone bytes
  pub bad : (bytes : List ℕ) → IsBad bytes → BeginsNone bytes

abbrev pub BadStaysBad : Type 0
BadStaysBad = (bytes more : List ℕ) → IsBad bytes → IsBad (bytes ++ more)

-- the longest record has 32,836 bytes
abbrev pub ShortIsBelowTheLongest : Type 0
ShortIsBelowTheLongest = (bytes : List ℕ) → IsShort bytes → length bytes < 32836

-- records one after another, up to a rest from which no further one is read, are the longest list of records at the front of an input
abbrev pub ReadInOrderIsTheLongest : Type 0
ReadInOrderIsTheLongest = (input : List ℕ) (pairs : List Pair) (rest : List ℕ) → AllByRecursion IsRecord pairs → length pairs ≤ record_limit
    → input ≡ joined pairs ++ rest → EndsBefore pairs rest → AreRecords input pairs

-- any two lists of an input's records have the same spellings
abbrev pub InputsHaveOneReading : Type 0
InputsHaveOneReading = (input : List ℕ) (pairs others : List Pair) → AreRecords input pairs → AreRecords input others → map spelling pairs ≡ map spelling others
