-- A session as it is seen from outside: what was read, the history that was served, and what the status and the transcript say.
use Rattle.std.specs.Prelude.{◌≡◌, ◌⊎◌, ℕ, ◌<◌, ◌≤◌, List, [], ◌++◌, length, map, Option, Some, true, false, IfSome}
use Rattle.std.specs.List.{AllByRecursion}
use Rattle.std.proofs.Common.{ℤ}
use Rattle.std.specs.Io.KnownBytes.{append_known, prepend_known, IsAtEnd}
use Rattle.tbl_kinds.specs.Admitted.{Admitted}
use Rattle.tbl_model.specs.State.{State, first_state}
use Rattle.validation.specs.Kits.{owners}
use Rattle.tbl_kinds.specs.Records.{Pair, IsRecord, joined, record_limit, AreRecords}
use Rattle.tbl_kinds.specs.Heads.{IsShort, IsBad}
use Rattle.tbl_kinds.specs.Transcript.{entries_bytes, transcript}
use Rattle.cds_layout.specs.Images.{store_of}
use Rattle.tbl_outside.specs.Counts.{Rose, RoseBy}
use Rattle.tbl_outside.specs.Streams.{TakesFront}
use Rattle.tbl_outside.specs.declared.bank.Bank.{Ghosts}
use Rattle.tbl_outside.specs.declared.stream.Sink.{Ghosts as SinkGhosts}
use Rattle.tbl_outside.specs.declared.stream.Source.{Ghosts as SourceGhosts}
use Rattle.tbl_outside.specs.declared.validator.KitEntry.{KitEntry}
use Rattle.tbl_session.specs.Inputs.{IsBeginning, StopsReading, IsWellFormed, rest_limit}
use Rattle.tbl_session.specs.Openings.{Opening}
use Rattle.tbl_session.specs.Served.{IsServed}
use Rattle.tbl_session.specs.Trouble.{EndsInBoot}
use Rattle.tbl_kinds.specs.declared.entry.Entry.{Entry}

-- ---- how it began, and what was seen of it

-- the validation functions that a session is given, by their numbers
abbrev pub given_of : {C : Type 0} → List (KitEntry C) → List (Option (KitEntry C))
given_of entries = map (λ entry. Some entry) entries

-- the state that it begins with: the blocks are those that the bytes of the bank show, and the admitted identifiers are given
abbrev pub state_from : {C : Type 0} → List ℕ → List (KitEntry C) → Admitted → State
state_from bytes entries admit = first_state (store_of bytes) (owners (given_of entries)) admit

abbrev pub opening_of : {B C : Type 0} → Ghosts B → B → List (KitEntry C) → Admitted → Opening B C
opening_of g bank entries admit = record { state = state_from (g.now bank) entries admit; bank = bank; given = given_of entries }

-- what the source had still to give and what the sink had taken, before and after, if they show it; how often each failed; the status, and
-- the bank that was given back
pub record Ran (B : Type 0) : Type 0 where
  pub left : Option (List ℕ)
  pub left_then : Option (List ℕ)
  pub unread : ℕ
  pub unread_then : ℕ
  pub taken : Option (List ℕ)
  pub taken_then : Option (List ℕ)
  pub unwritten : ℕ
  pub unwritten_then : ℕ
  pub bank_then : B
  pub status : ℕ

-- so it was with this source, this sink, this status and this bank
abbrev pub ran : {S K B : Type 0} → SourceGhosts S → SinkGhosts K → S × K → S × K → ℕ × B → Ran B
ran s k before after ended = record {
  left = s.left before.0;
  left_then = s.left after.0;
  unread = s.faults before.0;
  unread_then = s.faults after.0;
  taken = k.taken before.1;
  taken_then = k.taken after.1;
  unwritten = k.faults before.1;
  unwritten_then = k.faults after.1;
  bank_then = ended.1;
  status = ended.0;
}

-- ---- what a status says

-- all records that were read were played
abbrev pub IsEnded : ℕ → Type 0
IsEnded status = (status ≡ 0) ⊎ (status ≡ 3) ⊎ (status ≡ 5) ⊎ (status ≡ 6)

-- a boot failed, or a reset came into it
abbrev pub IsBooted : ℕ → Type 0
IsBooted status = (status ≡ 7) ⊎ (status ≡ 8)

-- out of memory, or the sink failed
abbrev pub IsBrokenOff : ℕ → Type 0
IsBrokenOff status = (status ≡ 1) ⊎ (status ≡ 4)

-- the statuses of a session
abbrev pub IsStatus : ℕ → Type 0
IsStatus status = IsEnded status ⊎ IsBooted status ⊎ IsBrokenOff status

-- which end of the input a status says, after so many records
pub record EndsAs (status : ℕ) (played : ℕ) (rest : List ℕ) (at_end read_failed : Type 0) : Type 0 where
  pub done : status ≡ 0 → (rest ≡ []) × at_end
  pub cut : status ≡ 3 → IsBeginning played rest × read_failed
  pub bad : status ≡ 5 → (played < record_limit) × (IsBad rest ⊎ (IsShort rest × at_end))
  pub full : status ≡ 6 → (played ≡ record_limit) × (0 < length rest)

-- and in the other direction: what comes after the records decides the status, unless a boot ended the session or it was broken off
pub record IsExact (status : ℕ) (played : ℕ) (rest : List ℕ) : Type 0 where
  pub bad : played < record_limit → IsBad rest → (status ≡ 5) ⊎ IsBooted status ⊎ IsBrokenOff status
  pub full : played ≡ record_limit → 0 < length rest → (status ≡ 6) ⊎ IsBooted status ⊎ IsBrokenOff status

-- which boot a status says: the last entry has it, or it was the first one, before anything was read. And if the last entry has one, the
-- status says so, unless the session was broken off
pub record BootsAs (status : ℕ) (entries : List Entry) (read : List ℕ) (bank_failed bank_stopped : Type 0) : Type 0 where
  pub fault : status ≡ 7 → EndsInBoot false entries ⊎ ((entries ≡ []) × (read ≡ []) × bank_failed)
  pub stop : status ≡ 8 → EndsInBoot true entries ⊎ ((entries ≡ []) × (read ≡ []) × bank_stopped)
  pub told_fault : EndsInBoot false entries → (status ≡ 7) ⊎ IsBrokenOff status
  pub told_stop : EndsInBoot true entries → (status ≡ 8) ⊎ IsBrokenOff status

-- 4, 7 and 8 come only if the sink or the bank failed, or the bank was stopped
pub record HasCauses {B : Type 0} (g : Ghosts B) (bank : B) (r : Ran B) : Type 0 where
  pub sink : r.status ≡ 4 → Rose r.unwritten r.unwritten_then
  pub fault : r.status ≡ 7 → RoseBy 1 (g.faults bank) (g.faults r.bank_then)
  pub stop : r.status ≡ 8 → RoseBy 1 (g.stops bank) (g.stops r.bank_then)

-- ---- what the sink took

-- by the status; `would_end` has the statuses that the session could have had if the sink didn't fail
pub record Tells (status : ℕ) (entries : List Entry) (would_end : ℕ → Type 0) (before after : Option (List ℕ)) : Type 0 where
  -- 0, 3, 5, 6, 7, 8: the transcript with this status
  pub whole : IsEnded status ⊎ IsBooted status → after ≡ append_known before (transcript entries status)
  -- 4: a front of the entries, or of the transcript with the status that it would have had
  pub broken : status ≡ 4 → TakesFront before after (entries_bytes 0 entries) ⊎ ((other : ℕ) × would_end other × TakesFront before after (transcript entries other))
  -- 1: a front of the transcript
  pub starved : status ≡ 1 → TakesFront before after (transcript entries 1)

-- the status that a session has if the sink doesn't fail
abbrev pub WouldEnd : ℕ → (ℕ → Type 0) → (ℕ → Type 0) → Type 0
WouldEnd status ends boots = (status ≡ 1) ⊎ (IsEnded status × ends status) ⊎ (IsBooted status × boots status)

-- ---- the whole

-- a status says this end of the input, and this boot
abbrev pub Ends : {B : Type 0} → Ran B → ℕ → List ℕ → ℕ → Type 0
Ends r played rest status = EndsAs status played rest (IsAtEnd r.left_then) (Rose r.unread r.unread_then)

abbrev pub Boots : {B : Type 0} → Ghosts B → B → Ran B → List Entry → List ℕ → ℕ → Type 0
Boots g bank r entries read status = BootsAs status entries read (Rose (g.faults bank) (g.faults r.bank_then)) (Rose (g.stops bank) (g.stops r.bank_then))

-- Every session, played in order or with one thread per actor, writes the transcript of one history. Its every status and telemetry byte
-- is the sequential service's. Each read through an address is of one whole activated image. From it a reset at any moment recovers each
-- critical table's last completed image or one whose copy broke off since.
--
-- The records of what was read were requested as `plays` says, in order or by actor. The history is the one that was served
-- (`IsServed`). What is recovered from it is said of two runs, by the law of recovery (`Recovered.antt` of `tbl_top`).
pub record Session {B C : Type 0} (plays : ℕ → List Pair → List Entry → Type 0) (g : Ghosts B) (verdict : C → List ℕ → ℤ) (o : Opening B C) (r : Ran B) : Type 0 where
  -- what was read: records, and the rest after them
  pub read : List ℕ
  pub came : r.left ≡ prepend_known read r.left_then
  pub pairs : List Pair
  pub rest : List ℕ
  pub parts : read ≡ joined pairs ++ rest
  pub each : AllByRecursion IsRecord pairs
  pub few : length pairs ≤ record_limit
  pub near : length rest < rest_limit
  pub stops : StopsReading read
  pub records : IsEnded r.status → AreRecords read pairs
  -- what was served
  pub entries : List Entry
  pub requested : plays r.status pairs entries
  pub served : IsServed g verdict o r.bank_then entries
  -- what is reported of it
  pub known : IsStatus r.status
  pub ends : Ends r (length pairs) rest r.status
  pub exact : IsExact r.status (length pairs) rest
  pub boots : Boots g o.bank r entries read r.status
  pub causes : HasCauses g o.bank r
  pub told : Tells r.status entries (λ other. WouldEnd other (Ends r (length pairs) rest) (Boots g o.bank r entries read)) r.taken r.taken_then

-- ---- completeness

-- it was played to its end, or out of memory, or a boot ended it, and the count of that rose
abbrev pub PlaysThrough : {B : Type 0} → Ghosts B → B → Ran B → Type 0
PlaysThrough g bank r =
    ((r.status ≡ 0) × (r.left_then ≡ Some [])) ⊎ (r.status ≡ 1) ⊎ ((r.status ≡ 7) × RoseBy 1 (g.faults bank) (g.faults r.bank_then)) ⊎ ((r.status ≡ 8) × RoseBy 1 (g.stops bank) (g.stops r.bank_then))

-- a session's records and nothing else are played to their end, unless something outside failed
abbrev pub IsComplete : {B : Type 0} → Ghosts B → B → Ran B → Type 0
IsComplete g bank r = IfSome r.left (λ input. IsWellFormed input → ¬ Rose r.unread r.unread_then → ¬ Rose r.unwritten r.unwritten_then → PlaysThrough g bank r)
