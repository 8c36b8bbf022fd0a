-- What is known of a stream by its standing.
use Rattle.std.specs.Prelude.{◌≡◌, ◌≢◌, ◌⊎◌, ◌<◌, ◌≤◌, ℕ, ◌+◌, List, [], ◌∷◌, ◌++◌, length, take, Option, Some, None, Bool, true, false}
use Rattle.std.specs.Io.KnownBytes.{append_known}
use Rattle.tbl_kinds.specs.Heads.{IsShort, IsBad}
use Rattle.tbl_kinds.specs.Records.{Pair, IsRecord, spelling}
use Rattle.tbl_kinds.specs.Transcript.{entry_bytes}
use Rattle.tbl_kinds.specs.declared.entry.Entry.{Entry}
use Rattle.tbl_outside.specs.Counts.{Rose}
use Rattle.tbl_outside.specs.Streams.{TakesFront}
use Rattle.tbl_core.specs.Service.{EngineView, engine_limit, image_limit}
use Rattle.tbl_session.specs.Trouble.{EndsInBoot}
use Rattle.tbl_stream.specs.Limits.{is_spent}
use Rattle.tbl_stream.specs.Places.{place_of, told_from}
use Rattle.tbl_stream.specs.declared.standing.Standing.{Standing}
use Rattle.tbl_stream.specs.declared.standing.Standing.TheVariants.{Open, Bad, TooMany, Full, BootFault, BootStopped, SinkFailed, Memory, Unwritten}

-- nothing, or the beginning of a record, if a further one may be played
abbrev pub IsFront : Option ℕ → List ℕ → Type 0
IsFront left rest = (rest ≡ []) ⊎ (IsShort rest × (is_spent left ≡ false))

-- what comes after the records that were played, if so many may still follow
abbrev pub Leaves : Standing → Option ℕ → List ℕ → Type 0
Leaves Open left behind = IsFront left behind
Leaves Bad left behind = IsBad behind × (is_spent left ≡ false)
Leaves TooMany left behind = (is_spent left ≡ true) × (0 < length behind)
Leaves Full left behind = Unit {0}
Leaves BootFault left behind = Unit {0}
Leaves BootStopped left behind = Unit {0}
Leaves SinkFailed left behind = Unit {0}
Leaves Memory left behind = Unit {0}
Leaves Unwritten left behind = Unit {0}

-- only the input ended the stream, or the room of the engine
abbrev pub HasPlayedAll : Standing → Type 0
HasPlayedAll Open = Unit {0}
HasPlayedAll Bad = Unit {0}
HasPlayedAll TooMany = Unit {0}
HasPlayedAll Full = Unit {0}
HasPlayedAll _ = ⊥

-- ---- what of the entries was written

-- all of it; or the sink failed within it, or memory ran out for it
pub data Way : Type 0 where
  all_written : Way
  not_taken : Way
  not_spelled : Way

abbrev pub way_of : Standing → Way
way_of SinkFailed = not_taken
way_of Unwritten = not_spelled
way_of _ = all_written

-- the sink took the spellings of these entries, where the first has this place
abbrev pub IsWritten : ℕ → List Entry → Option (List ℕ) → Option (List ℕ) → Type 0
IsWritten place entries before taken = taken ≡ append_known before (told_from place entries)

-- or those of all but the last, and a front of that one's
pub record IsCutShort (place : ℕ) (entries : List Entry) (before taken : Option (List ℕ)) : Type 0 where
  pub front : List Entry
  pub last : Entry
  pub parts : entries ≡ front ++ last ∷ []
  pub count : ℕ
  pub grown : taken ≡ append_known before (told_from place front ++ take count (entry_bytes (place_of (place + length front)) last))

-- each was written before the next record was looked for
abbrev pub WrittenBy : Way → ℕ → List Entry → Option (List ℕ) → Option (List ℕ) → Type 0
WrittenBy all_written place entries before taken = IsWritten place entries before taken
WrittenBy not_taken place entries before taken = IsCutShort place entries before taken
WrittenBy not_spelled place entries before taken = IsCutShort place entries before taken

abbrev pub TellsWritten : Standing → ℕ → List Entry → Option (List ℕ) → Option (List ℕ) → Type 0
TellsWritten standing place entries before taken = WrittenBy (way_of standing) place entries before taken

-- or all were played before the first was written
abbrev pub FrontBy : Way → List Entry → Option (List ℕ) → Option (List ℕ) → Type 0
FrontBy all_written entries before taken = IsWritten 0 entries before taken
FrontBy not_taken entries before taken = TakesFront before taken (told_from 0 entries)
FrontBy not_spelled entries before taken = TakesFront before taken (told_from 0 entries)

-- only the sink's failure has a cause outside, and no write failed without it
abbrev pub CauseBy : Way → ℕ → ℕ → Type 0
CauseBy all_written before after = after ≡ before
CauseBy not_taken before after = Rose before after
CauseBy not_spelled before after = after ≡ before

abbrev pub TellsCause : Standing → ℕ → ℕ → Type 0
TellsCause standing before after = CauseBy (way_of standing) before after

-- ---- boots, and the room of the engine

-- a boot that ended the service is reported. Else it goes on, unless the last entry wasn't written
abbrev pub TellsBoot : Standing → Bool → List Entry → Type 0
TellsBoot Open ended entries = ended ≡ false
TellsBoot Bad ended entries = ended ≡ false
TellsBoot TooMany ended entries = ended ≡ false
TellsBoot Full ended entries = ended ≡ false
TellsBoot Memory ended entries = ended ≡ false
TellsBoot BootFault ended entries = EndsInBoot false entries
TellsBoot BootStopped ended entries = EndsInBoot true entries
TellsBoot SinkFailed ended entries = Unit {0}
TellsBoot Unwritten ended entries = Unit {0}

-- the engine has no room only if a table may have had as many images as can be counted, and so at least that many requests were played
abbrev pub TellsFull : Standing → ℕ → Type 0
TellsFull Full played = image_limit ≤ played
TellsFull _ played = Unit {0}

-- it has played so many requests, or a table may have had so many images
abbrev pub HasMetLimit : {B C : Type 0} → EngineView B C → Type 0
HasMetLimit engine = (engine_limit ≤ engine.played) ⊎ (image_limit ≤ engine.images)

-- ---- one record

-- the record is at the front of the bytes, and has so many of them
pub record IsItem (pair : Pair) (used : ℕ) (bytes : List ℕ) : Type 0 where
  pub is_record : IsRecord pair
  pub spelled : take used bytes ≡ spelling pair
  pub len : used ≡ length (spelling pair)

-- nothing was played, and the standing is about nothing else
abbrev pub IsQuiet : Standing → Type 0
IsQuiet Open = Unit {0}
IsQuiet Bad = Unit {0}
IsQuiet TooMany = Unit {0}
IsQuiet Full = Unit {0}
IsQuiet Memory = Unit {0}
IsQuiet _ = ⊥

-- only looking for a record leads to these
abbrev pub IsOfInput : Standing → Type 0
IsOfInput standing = IsQuiet standing × (standing ≢ Full)

-- no record is at the front of the bytes, if so many may follow
pub record FindsNone (standing : Standing) (left : Option ℕ) (bytes : List ℕ) : Type 0 where
  pub input : IsOfInput standing
  pub leaves : Leaves standing left bytes

-- the standing of a stream after a record that was played: None if a further one may follow
abbrev pub standing_after : Option Standing → Standing
standing_after None = Open
standing_after (Some standing) = standing

-- what a step leaves to be reported, once its entry is written: nothing, or a boot
abbrev pub IsEnding : Option Standing → Type 0
IsEnding None = Unit {0}
IsEnding (Some BootFault) = Unit {0}
IsEnding (Some BootStopped) = Unit {0}
IsEnding (Some _) = ⊥

-- an entry that wasn't written whole is reported before that
abbrev pub first_of : Option Standing → Option Standing → Option Standing
first_of None ending = ending
first_of (Some stop) ending = Some stop

-- a stream ends with a record that was played by such a stop, or by a boot
abbrev pub IsStop : Option Standing → Type 0
IsStop None = Unit {0}
IsStop (Some BootFault) = Unit {0}
IsStop (Some BootStopped) = Unit {0}
IsStop (Some SinkFailed) = Unit {0}
IsStop (Some Unwritten) = Unit {0}
IsStop (Some _) = ⊥

-- a record wasn't played: the engine has no room, or memory ran out
abbrev pub IsRefusal : Standing → Type 0
IsRefusal Full = Unit {0}
IsRefusal Memory = Unit {0}
IsRefusal _ = ⊥
