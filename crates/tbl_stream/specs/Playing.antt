-- What was played of a stream, over whatever the engine had played before. The entries are a list that nobody keeps.
use Rattle.std.specs.Prelude.{◌≡◌, ◌≤◌, ℕ, ◌+◌, ◌%◌, ◌^◌, false, List, [], ◌∷◌, ◌++◌, length, Option, Result, Ok, Err}
use Rattle.std.specs.List.{AllByRecursion}
use Rattle.std.proofs.Common.{ℤ}
use Rattle.tbl_kinds.specs.Records.{Pair, IsRecord, joined}
use Rattle.tbl_kinds.specs.Transcript.{pair_of, pairs_of}
use Rattle.tbl_kinds.specs.declared.entry.Entry.{Entry}
use Rattle.tbl_kinds.specs.declared.request.Actor.{Actor}
use Rattle.tbl_kinds.specs.declared.request.Request.{Request}
use Rattle.tbl_core.specs.Log.{IsSmall}
use Rattle.tbl_core.specs.Service.{EngineView, IsAfter, core_of}
use Rattle.tbl_history.specs.Serving.{Continues}
use Rattle.tbl_outside.specs.declared.bank.Bank.{Ghosts}
use Rattle.tbl_outside.specs.declared.stream.Sink.{Ghosts as SinkGhosts}
use Rattle.tbl_stream.specs.Limits.{and_more}
use Rattle.tbl_stream.specs.Places.{place_of}
use Rattle.tbl_stream.specs.Standing.{TellsWritten, TellsCause, TellsBoot, TellsFull, IsEnding, IsRefusal, IsStop, standing_after}
use Rattle.tbl_stream.specs.declared.standing.Standing.{Standing}

-- the engine, the place of the next entry in the transcript, how many bytes the records have that were played, and how many may follow
pub record Played (B C : Type 0) : Type 0 where
  pub engine : EngineView B C
  pub place : ℕ
  pub offset : ℕ
  pub left : Option ℕ

-- a further record may be played
abbrev pub IsLive : {B C : Type 0} → Played B C → Type 0
IsLive played = played.engine.state.ended ≡ false

-- nothing was played of the stream, whatever the engine had played before
abbrev pub unplayed : {B C : Type 0} → EngineView B C → Option ℕ → Played B C
unplayed engine limit = record { engine = engine; place = place_of engine.played; offset = 0; left = limit }

-- and the bytes after those records that were fed
pub record Streaming (B C : Type 0) : Type 0 where
  pub played : Played B C
  pub rest : List ℕ
  pub standing : Standing

-- what was played, what the sink had taken by then, if it shows it, and how often it had failed
pub record Moment (B C : Type 0) : Type 0 where
  pub played : Played B C
  pub taken : Option (List ℕ)
  pub unwritten : ℕ

abbrev pub moment : {B C K : Type 0} → SinkGhosts K → Played B C → K → Moment B C
moment k played sink = record { played = played; taken = k.taken sink; unwritten = k.faults sink }

-- The engine went on by these entries: whatever it had played before, and whatever it represented with that, it has played these after it,
-- and represents that with them. Its history stays legal, and its verdicts are the functions'. A reset at any moment leaves the blocks of a
-- place of it, and the counts of the bank rose by what it says.
pub record Goes {B C : Type 0} (g : Ghosts B) (verdict : C → List ℕ → ℤ) (old new : EngineView B C) (entries : List Entry) : Type 0 where
  pub after : (past : List Entry) → IsAfter past old → IsAfter (past ++ entries) new
  pub continues : (past : List Entry) → Continues g verdict (core_of past old) (core_of (past ++ entries) new)

-- From one moment to a later one these entries were played, each of a record, and written as a standing says; the numbers of the transcript
-- went on by them.
pub record Plays {B C : Type 0} (g : Ghosts B) (verdict : C → List ℕ → ℤ) (standing : Standing) (old new : Moment B C) (entries : List Entry) : Type 0 where
  pub goes : Goes g verdict old.played.engine new.played.engine entries
  pub each : AllByRecursion IsRecord (pairs_of entries)
  pub place : place_of new.played.place ≡ place_of (old.played.place + length entries)
  pub offset : new.played.offset % 2 ^ 32 ≡ (old.played.offset + length (joined (pairs_of entries))) % 2 ^ 32
  pub left : old.played.left ≡ and_more (length entries) new.played.left
  pub written : TellsWritten standing old.played.place entries old.taken new.taken
  pub cause : TellsCause standing old.unwritten new.unwritten
  pub boot : TellsBoot standing new.played.engine.state.ended entries
  -- no write that failed is forgotten
  pub count : old.unwritten ≤ new.unwritten

-- so it was of the records before these bytes that are left
pub record PlaysOf {B C : Type 0} (g : Ghosts B) (verdict : C → List ℕ → ℤ) (standing : Standing) (old new : Moment B C) (bytes left : List ℕ) : Type 0 where
  pub entries : List Entry
  pub plays : Plays g verdict standing old new entries
  pub parts : bytes ≡ joined (pairs_of entries) ++ left
  -- a stream that is full has played as many requests as a table may have images
  pub full : TellsFull standing new.played.engine.played

-- a record was played, and a further one may follow or the stream is over; or nothing was played, and the standing says why
abbrev pub PlaysRecord : {B C : Type 0} → Ghosts B → (C → List ℕ → ℤ) → Moment B C → Moment B C → Pair → Result (Option Standing) Standing → Type 0
PlaysRecord g verdict old new pair (Ok stop) = IsStop stop × ((e : Entry) × (pair_of e ≡ pair) × Plays g verdict (standing_after stop) old new (e ∷ []))
PlaysRecord g verdict old new pair (Err standing) = IsRefusal standing × TellsFull standing new.played.engine.played × Plays g verdict standing old new []

-- the entry is of this request, with a reply that fits the transcript
pub record IsEntryOf (actor : Actor) (request : Request) (e : Entry) : Type 0 where
  pub actor_is : e.actor ≡ actor
  pub request_is : e.request ≡ request
  pub small : IsSmall e

-- a request became this entry, and this is to be reported once that is written
pub record Answers {B C : Type 0} (g : Ghosts B) (verdict : C → List ℕ → ℤ) (old new : EngineView B C) (asked : Actor × Request) (e : Entry) (stop : Option Standing) : Type 0 where
  pub entry : IsEntryOf asked.0 asked.1 e
  pub goes : Goes g verdict old new (e ∷ [])
  pub ending : IsEnding stop
  pub boot : TellsBoot (standing_after stop) new.state.ended (e ∷ [])

-- a request wasn't played, for this reason; at most the images that tables have had were counted again
pub record Refuses {B C : Type 0} (g : Ghosts B) (verdict : C → List ℕ → ℤ) (old new : EngineView B C) (standing : Standing) : Type 0 where
  pub refusal : IsRefusal standing
  pub full : TellsFull standing new.played
  pub goes : Goes g verdict old new []
  pub ended : new.state.ended ≡ old.state.ended
