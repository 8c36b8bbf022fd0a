-- What was read of the input.
use Rattle.std.specs.Prelude.{◌≡◌, ◌⊎◌, ℕ, ◌+◌, ◌^◌, ◌<◌, ◌≤◌, List, ◌++◌, length, Bool, true, false, Option, Some, None}
use Rattle.std.specs.List.{AllByRecursion}
use Rattle.std.specs.Io.KnownBytes.{prepend_known, IsAtEnd}
use Rattle.std.proofs.Common.{ℤ}
use Rattle.tbl_kinds.specs.Records.{Pair, IsRecord, joined}
use Rattle.tbl_kinds.specs.Transcript.{pairs_of}
use Rattle.tbl_kinds.specs.declared.entry.Entry.{Entry}
use Rattle.tbl_core.specs.Service.{image_limit}
use Rattle.tbl_outside.specs.Counts.{Rose}
use Rattle.tbl_outside.specs.Streams.{ReadsOn as GaveBytes, ReadsToEnd}
use Rattle.tbl_outside.specs.declared.bank.Bank.{Ghosts}
use Rattle.tbl_outside.specs.declared.stream.Sink.{Ghosts as SinkGhosts}
use Rattle.tbl_outside.specs.declared.stream.Source.{Ghosts as SourceGhosts}
use Rattle.tbl_session.specs.Inputs.{piece_limit}
use Rattle.tbl_stream.specs.Feeding.{IsKept}
use Rattle.tbl_stream.specs.Limits.{and_more}
use Rattle.tbl_stream.specs.Playing.{Moment, Plays, Streaming, IsLive}
use Rattle.tbl_stream.specs.Standing.{IsFront, Leaves}
use Rattle.tbl_stream.specs.declared.standing.Standing.{Standing}
use Rattle.tbl_stream.specs.declared.standing.Standing.TheVariants.{Open, Full}

-- whether a read failed, by the count of those that did
abbrev pub HasFailed : Bool → ℕ → ℕ → Type 0
HasFailed true before after = Rose before after
HasFailed false before after = after ≡ before

-- the same if the reading may go on
abbrev pub HasFailedAtEnd : Option Bool → ℕ → ℕ → Type 0
HasFailedAtEnd None before after = after ≡ before
HasFailedAtEnd (Some failed) before after = HasFailed failed before after

-- What a reading was like for its source, by whether it ended and whether a read failed then.
pub record ReadsFrom {S : Type 0} (s : SourceGhosts S) (ended : Option Bool) (before after : S) : Type 0 where
  -- a read failed only if that is told
  pub cause : HasFailedAtEnd ended (s.faults before) (s.faults after)
  -- if it may go on, bytes came and the source goes on
  pub goes_on : ended ≡ None → GaveBytes (s.how_far before) (s.how_far after)
  -- nothing is read after the end or after a read that failed
  pub once : ReadsToEnd (s.how_far before) (s.how_far after)
  -- the count of failed reads doesn't fall
  pub count : s.faults before ≤ s.faults after

-- a stream that is still open ends only if the input does or a read failed, and nothing is found out about the input after that
pub record EndsReading (standing : Standing) (failed : Bool) (at_end : Type 0) : Type 0 where
  pub ended : standing ≡ Open → failed ≡ false → at_end
  pub cut : failed ≡ true → standing ≡ Open

-- the stream is open still and something was read, or the reading ended
abbrev pub ReadsOn : Option Bool → Standing → ℕ → Type 0 → Type 0
ReadsOn None standing count at_end = (standing ≡ Open) × (0 < count)
ReadsOn (Some failed) standing count at_end = EndsReading standing failed at_end

-- a stream that is full has played as many requests as a table may have images, or 2^64 - 1 bytes were read
abbrev pub HasEnough : Standing → ℕ → ℕ → Type 0
HasEnough standing played count = standing ≡ Full → (image_limit ≤ played) ⊎ (2 ^ 64 ≤ 1 + count)

-- a stream that reads on
pub record IsOpen {B C : Type 0} (stream : Streaming B C) : Type 0 where
  pub standing_is : stream.standing ≡ Open
  pub begun : IsFront stream.played.left stream.rest
  pub live : IsLive stream.played

-- a stream, what its source had still to give and what its sink had taken by then, if they show it, and how often its sink had failed
pub record Reading (B C : Type 0) : Type 0 where
  pub stream : Streaming B C
  pub left : Option (List ℕ)
  pub taken : Option (List ℕ)
  pub unwritten : ℕ

abbrev pub reading : {B C S K : Type 0} → SourceGhosts S → SinkGhosts K → Streaming B C → S → K → Reading B C
reading s k stream source sink = record { stream = stream; left = s.left source; taken = k.taken sink; unwritten = k.faults sink }

abbrev pub moment_of : {B C : Type 0} → Reading B C → Moment B C
moment_of r = record { played = r.stream.played; taken = r.taken; unwritten = r.unwritten }

-- Before the last piece there were records, and at most the beginning of a further one: nothing was read after a piece with which a bad
-- record, or a byte too many, was there.
pub record Stops (limit : Option ℕ) (read : List ℕ) : Type 0 where
  pub records : List Pair
  pub beginning : List ℕ
  pub last : List ℕ
  pub parts : read ≡ joined records ++ beginning ++ last
  pub each : AllByRecursion IsRecord records
  pub left : Option ℕ
  pub few : limit ≡ and_more (length records) left
  pub begun : IsFront left beginning
  pub short : length last ≤ piece_limit

-- what was fed is the records of these entries, which were played, and what this standing says: at most the beginning of a record and one piece
pub record Consumes {B C : Type 0} (g : Ghosts B) (verdict : C → List ℕ → ℤ) (standing : Standing) (old new : Moment B C) (fed kept : List ℕ) : Type 0 where
  pub entries : List Entry
  pub plays : Plays g verdict standing old new entries
  pub behind : List ℕ
  pub parts : fed ≡ joined (pairs_of entries) ++ behind
  pub leaves : Leaves standing new.played.left behind
  pub keeps : IsKept standing behind kept
  pub near : length behind ≤ 36931
  pub stops : Stops old.played.left fed

-- what was read was fed after what was kept, and whether the reading ended with that: None if it goes on, and else whether a read failed
pub record Reads {B C : Type 0} (g : Ghosts B) (verdict : C → List ℕ → ℤ) (ended : Option Bool) (old new : Reading B C) : Type 0 where
  pub read : List ℕ
  pub came : old.left ≡ prepend_known read new.left
  pub fed : Consumes g verdict new.stream.standing (moment_of old) (moment_of new) (old.stream.rest ++ read) new.stream.rest
  pub ends : ReadsOn ended new.stream.standing (length read) (IsAtEnd new.left)
  pub full : HasEnough new.stream.standing new.stream.played.engine.played (length read)
