-- What was read of an input, while it could hold records.
use Rattle.std.specs.Prelude.{◌≡◌, ◌⊎◌, ℕ, ◌<◌, ◌≤◌, List, [], ◌++◌, length}
use Rattle.std.specs.List.{AllByRecursion}
use Rattle.tbl_kinds.specs.Heads.{IsShort}
use Rattle.tbl_kinds.specs.Records.{Pair, IsRecord, joined, record_limit}

-- after so many records comes nothing, or the beginning of one that a session may still have
abbrev pub IsBeginning : ℕ → List ℕ → Type 0
IsBeginning played rest = (rest ≡ []) ⊎ (IsShort rest × (played < record_limit))

-- how many bytes are asked for at a time
abbrev pub piece_limit : ℕ
piece_limit = 4096

-- what was read is records, except for the beginning of one record and one piece
abbrev pub rest_limit : ℕ
rest_limit = 36932

-- Before the last piece there were records, and at most the beginning of a further one: nothing was read after a piece with which a bad
-- record, or a byte too many, was there.
pub record StopsReading (read : List ℕ) : Type 0 where
  pub records : List Pair
  pub beginning : List ℕ
  pub last : List ℕ
  pub parts : read ≡ joined records ++ beginning ++ last
  pub each : AllByRecursion IsRecord records
  pub few : length records ≤ record_limit
  pub begun : IsBeginning (length records) beginning
  pub short : length last ≤ piece_limit

-- the input is the spellings of a session's records and nothing else
pub record IsWellFormed (input : List ℕ) : Type 0 where
  pub pairs : List Pair
  pub each : AllByRecursion IsRecord pairs
  pub few : length pairs ≤ record_limit
  pub parts : input ≡ joined pairs
