-- What the status of a service says of what was read and of its history, and what its sink took.
use Rattle.std.specs.Prelude.{◌≡◌, ◌≢◌, ◌⊎◌, ℕ, ◌+◌, ◌^◌, ◌<◌, ◌≤◌, List, [], ◌++◌, length, Bool, true, false, Option}
use Rattle.std.specs.Io.KnownBytes.{append_known, IsAtEnd}
use Rattle.tbl_kinds.specs.Heads.{IsShort, IsBad}
use Rattle.tbl_kinds.specs.declared.entry.Entry.{Entry}
use Rattle.tbl_core.specs.Service.{image_limit}
use Rattle.tbl_outside.specs.Counts.{Rose}
use Rattle.tbl_outside.specs.Streams.{TakesFront}
use Rattle.tbl_outside.specs.declared.bank.Bank.{Ghosts}
use Rattle.tbl_session.specs.Session.{Ran, Boots, HasCauses, IsBooted, IsBrokenOff, IsEnded}
use Rattle.tbl_stream.specs.Limits.{is_spent}
use Rattle.tbl_stream.specs.Places.{told_from, told_with_end}
use Rattle.tbl_stream.specs.Standing.{IsFront}

-- ---- the end of the input

-- what was read: so many records, which so many may follow, and the rest after them
pub record Input : Type 0 where
  pub read : List ℕ
  pub count : ℕ
  pub left : Option ℕ
  pub rest : List ℕ

-- all records that were read were played, or 13: the engine had no room for the next one
abbrev pub HasEnded : ℕ → Type 0
HasEnded status = IsEnded status ⊎ (status ≡ 13)

abbrev pub IsKnown : ℕ → Type 0
IsKnown status = HasEnded status ⊎ IsBooted status ⊎ IsBrokenOff status

-- 13 comes if a table may have had as many images as are counted, and so at least that many requests were played, or if 2^64 - 1 bytes
-- were read
abbrev pub HasNoRoom : Input → Type 0
HasNoRoom input = (image_limit ≤ input.count) ⊎ (2 ^ 64 ≤ 1 + length input.read)

-- which end of the input a status says, by what comes after the records
pub record EndsAs {B : Type 0} (r : Ran B) (input : Input) (status : ℕ) : Type 0 where
  pub done : status ≡ 0 → (input.rest ≡ []) × IsAtEnd r.left_then
  pub cut : status ≡ 3 → IsFront input.left input.rest × Rose r.unread r.unread_then
  pub bad : status ≡ 5 → (is_spent input.left ≡ false) × (IsBad input.rest ⊎ (IsShort input.rest × IsAtEnd r.left_then))
  pub many : status ≡ 6 → (is_spent input.left ≡ true) × (0 < length input.rest)
  pub full : status ≡ 13 → HasNoRoom input

-- the status that there is if the sink doesn't fail
abbrev pub WouldEnd : (ℕ → Type 0) → (ℕ → Type 0) → ℕ → Type 0
WouldEnd ends boots status = (status ≡ 1) ⊎ (HasEnded status × ends status) ⊎ (IsBooted status × boots status)

-- ---- what the sink took

-- by the status; `would_end` has the statuses that there could have been if the sink didn't fail
pub record Tells (status : ℕ) (entries : List Entry) (would_end : ℕ → Type 0) (before after : Option (List ℕ)) : Type 0 where
  -- the transcript with this status
  pub whole : HasEnded status ⊎ IsBooted status → after ≡ append_known before (told_with_end entries status)
  -- 4: a front of the entries, or of the transcript with the status that it would have had
  pub broken : status ≡ 4 → TakesFront before after (told_from 0 entries) ⊎ ((other : ℕ) × would_end other × TakesFront before after (told_with_end entries other))
  -- 1: a front of the transcript
  pub starved : status ≡ 1 → TakesFront before after (told_with_end entries 1)

-- the sink took all entries but the last at most, and then something; `Tells` says what that is
pub record LacksOne (entries : List Entry) (before after : Option (List ℕ)) : Type 0 where
  pub front : List Entry
  pub last : List Entry
  pub parts : entries ≡ front ++ last
  pub one : length last ≤ 1
  pub more : List ℕ
  pub grown : after ≡ append_known before (told_from 0 front ++ more)

-- no read failed; or one did, and then only the end record was to be written, with 3
abbrev pub ReadsLast : {B : Type 0} → Ran B → List Entry → Type 0
ReadsLast r entries = (r.unread_then ≡ r.unread) ⊎ (r.status ≡ 3) ⊎ ((r.status ≡ 4) × TakesFront r.taken r.taken_then (told_with_end entries 3))

-- ---- the whole

-- A failed read is reported by 3, unless the service ended before its input did (1, 4, 7, 8); and a failed write by 4.
pub record TellsFailures {B : Type 0} (r : Ran B) : Type 0 where
  pub reads : HasEnded r.status → (r.status ≢ 3) → r.unread_then ≡ r.unread
  pub writes : (r.status ≢ 4) → r.unwritten_then ≡ r.unwritten

-- What is reported of a service over this bank, which read this input and has played these entries.
pub record Reports {B : Type 0} (g : Ghosts B) (bank : B) (r : Ran B) (input : Input) (entries : List Entry) : Type 0 where
  pub known : IsKnown r.status
  pub ends : EndsAs r input r.status
  pub boots : Boots g bank r entries input.read r.status
  pub causes : HasCauses g bank r
  pub told : Tells r.status entries (WouldEnd (EndsAs r input) (Boots g bank r entries input.read)) r.taken r.taken_then
