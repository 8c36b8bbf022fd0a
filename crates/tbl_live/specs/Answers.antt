-- What one call does to what the lock holds, and what it answers.
use Rattle.std.specs.Prelude.{◌≡◌, ℕ, ◌+◌, ◌<◌, ◌≤◌, List, [], ◌∷◌, ◌++◌, length, Some, None, Result, Ok, Err, Option, IfSome}
use Rattle.std.proofs.Common.{ℤ}
use Rattle.tbl_kinds.specs.Buffers.{Buffer}
use Rattle.tbl_kinds.specs.Records.{actor_number}
use Rattle.tbl_kinds.specs.Requests.{Fits}
use Rattle.tbl_kinds.specs.declared.entry.Entry.{Entry}
use Rattle.tbl_kinds.specs.declared.request.Actor.{Actor}
use Rattle.tbl_kinds.specs.declared.request.Request.{Request}
use Rattle.request_effects.specs.Effects.{reply_limit}
use Rattle.tbl_outside.specs.declared.bank.Bank.{Ghosts}
use Rattle.tbl_core.specs.Service.{CoreView}
use Rattle.tbl_core.specs.declared.service.StepFault.{StepFault}
use Rattle.tbl_core.specs.declared.service.StepFault.TheVariants.{Memory as NoMemory, BootFault, BootStopped}
use Rattle.tbl_live.specs.Bounds.{Bound}
use Rattle.tbl_live.specs.Cores.{Asked, IsTaken}
use Rattle.tbl_live.specs.Lent.{CallGives}
use Rattle.tbl_live.specs.Moves.{Moves}
use Rattle.tbl_live.specs.ServedView.{ServedView}
use Rattle.tbl_live.specs.declared.receipts.Receipt.{Receipt}
use Rattle.tbl_live.specs.declared.receipts.CallFault.{CallFault}
use Rattle.tbl_live.specs.declared.receipts.CallFault.TheVariants.{Ended, Full, Step, Memory}

-- the receipt of an entry at this place
abbrev pub receipt_of : ℕ → Entry → Receipt
receipt_of place e = record { place = place; actor = e.actor; status = e.reply.status; detail = e.reply.detail }

-- no step answered a fault before, and there was room for an entry
pub record MayStep {B C : Type 0} (limit : ℕ) (fault : Option StepFault) (core : CoreView B C) : Type 0 where
  pub went : fault ≡ None
  pub room : length core.entries < limit

-- the call is this entry, the last one, and its reply's bytes are appended to those that were there
pub record Adds {B C : Type 0} (old new : ServedView B C) (actor : Actor) (request : Request) (entry : Entry) (bytes after : List ℕ) : Type 0 where
  pub actor_is : entry.actor ≡ actor
  pub request_is : entry.request ≡ request
  pub added : new.core.entries ≡ old.core.entries ++ entry ∷ []
  pub appended : after ≡ bytes ++ entry.reply.bytes.list

-- nothing was done
pub record Refuses {B C : Type 0} (old new : ServedView B C) (bytes after : List ℕ) : Type 0 where
  pub same : new ≡ old
  pub none : after ≡ bytes

-- why nothing is played: a step answered this before, or there is no room
abbrev pub IsRefusal : {B C : Type 0} → Bound → Option StepFault → CoreView B C → CallFault → Type 0
IsRefusal bound kept core (Ended fault) = kept ≡ Some fault
IsRefusal bound kept core (Full count) = (kept ≡ None) × bound.full (length core.entries) core.state.tables count
IsRefusal bound kept core (Step fault) = ⊥
IsRefusal bound kept core Memory = ⊥

-- ---- after a step

-- this receipt is that of the last entry, and the bytes of its reply are appended
abbrev pub TakesLast : List Entry → Receipt → List ℕ → List ℕ → Type 0
TakesLast entries receipt bytes after = (before : List Entry) (e : Entry) → entries ≡ before ++ e ∷ [] → (receipt ≡ receipt_of (length before) e) × (after ≡ bytes ++ e.reply.bytes.list)

-- what a call answers by what its step did
abbrev pub IsOutcome : List Entry → Result Unit StepFault → List ℕ → List ℕ → Result Receipt CallFault → Type 0
IsOutcome entries (Ok x) bytes after result = (receipt : Receipt) × (result ≡ Ok receipt) × TakesLast entries receipt bytes after
IsOutcome entries (Err NoMemory) bytes after result = (result ≡ Err Memory) × (after ≡ bytes)
IsOutcome entries (Err BootFault) bytes after result = (receipt : Receipt) × (result ≡ Err (Step BootFault)) × TakesLast entries receipt bytes after
IsOutcome entries (Err BootStopped) bytes after result = (receipt : Receipt) × (result ≡ Err (Step BootStopped)) × TakesLast entries receipt bytes after

-- the fault that is kept of a step: one in a boot
abbrev pub kept_of : Result Unit StepFault → Option StepFault
kept_of (Ok x) = None
kept_of (Err NoMemory) = None
kept_of (Err BootFault) = Some BootFault
kept_of (Err BootStopped) = Some BootStopped

-- ---- what is appended later

-- these bytes, and after them those that are still to be appended
abbrev pub with_later : List ℕ → Option Buffer → List ℕ
with_later bytes None = bytes
with_later bytes (Some later) = bytes ++ later.list

-- there is room for those
abbrev pub HasRoomFor : Option Buffer → Buffer → Type 0
HasRoomFor None out = Unit {0}
HasRoomFor (Some later) out = length later.list ≤ out.spare

-- no room is lost: what a buffer has and may still take is as much as before
abbrev pub KeepsRoom : Buffer → Buffer → Type 0
KeepsRoom old new = old.spare + length old.list ≤ new.spare + length new.list

-- so it is of the caller's buffer, which has room for what is to be appended to it later
pub record LeavesRoom (old new : Buffer) (rest : Option Buffer) : Type 0 where
  pub later : HasRoomFor rest new
  pub keeps : KeepsRoom old new

-- bytes were appended to a buffer, or are to be
pub record Appends (old new : Buffer) (more : List ℕ) (rest : Option Buffer) : Type 0 where
  pub bytes : with_later new.list rest ≡ old.list ++ more
  pub room : LeavesRoom old new rest

-- so it is of the reply's bytes of the last entry, whose receipt this is
pub record GivesLast (entries : List Entry) (old new : Buffer) (answer : Receipt × Option Buffer) : Type 0 where
  pub last : TakesLast entries answer.0 old.list (with_later new.list answer.1)
  pub room : LeavesRoom old new answer.1

-- or of those of the entry that a step added, if it did
pub record GivesOutcome (entries : List Entry) (done : Result Unit StepFault) (old new : Buffer) (answer : Result Receipt CallFault × Option Buffer) : Type 0 where
  pub outcome : IsOutcome entries done old.list (with_later new.list answer.1) answer.0
  pub room : LeavesRoom old new answer.1

-- ---- the whole

-- by what is answered; `out` is the caller's bytes before and after
abbrev pub Answers : {B C : Type 0} → Bound → ServedView B C → ServedView B C → Actor → Request → List ℕ × List ℕ → Result Receipt CallFault → Type 0
Answers bound old new actor request out (Ok receipt) = MayStep bound.limit old.fault old.core × ((entry : Entry) × Adds old new actor request entry out.0 out.1 × (new.fault ≡ None) × (receipt ≡ receipt_of (length old.core.entries) entry))
Answers bound old new actor request out (Err (Ended fault)) = IsRefusal bound old.fault old.core (Ended fault) × Refuses old new out.0 out.1
Answers bound old new actor request out (Err (Full count)) = IsRefusal bound old.fault old.core (Full count) × Refuses old new out.0 out.1
Answers bound old new actor request out (Err (Step fault)) = MayStep bound.limit old.fault old.core × ((entry : Entry) × Adds old new actor request entry out.0 out.1) × (new.fault ≡ Some fault)
Answers bound old new actor request out (Err Memory) = MayStep bound.limit old.fault old.core × Refuses old new out.0 out.1

-- Before a call is answered under the lock.
pub record MayAnswer {B C : Type 0} (core : CoreView B C) (call : Asked) (out : Buffer) : Type 0 where
  -- the request may come from its actor
  pub fits : Fits call.actor call.request
  -- what was taken of a lent image are the bytes that it asks for
  pub taken : IfSome call.taken (IsTaken call.request core)
  -- there is room for the longest reply
  pub room : reply_limit ≤ out.spare

-- Once it is answered, by what the lock held and the caller's buffer before it and after it.
pub record Answered {B C : Type 0} (g : Ghosts B) (verdict : C → List ℕ → ℤ) (bound : Bound) (call : Asked) (old new : ServedView B C × Buffer) (answer : Result Receipt CallFault × Option Buffer) : Type 0 where
  -- what was taken is what is answered, or the Read is refused
  pub lent : IfSome call.taken (CallGives answer.0 old.0.core new.0.core)
  -- it was a turn of the actor
  pub moves : Moves g verdict old.0 (actor_number call.actor) new.0
  -- the answer says what came of the request
  pub answers : Answers bound old.0 new.0 call.actor call.request (old.1.list, with_later new.1.list answer.1) answer.0
  pub room : LeavesRoom old.1 new.1 answer.1
