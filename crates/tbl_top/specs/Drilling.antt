-- A drill, played in order, and the line that sums it up.
use Rattle.std.specs.Prelude.{◌≡◌, ◌⊎◌, ◌<◌, ℕ, ◌==◌, List, [], ◌∷◌, ◌++◌, length, map, count_by, codes, Option, Bool, false, ◌&&◌, ◌||◌, not, nat_lt}
use Rattle.std.specs.Fmt.{decimal}
use Rattle.std.proofs.Common.{ℤ}
use Rattle.tbl_kinds.specs.Records.{Pair, record_limit}
use Rattle.tbl_kinds.specs.Transcript.{pairs_of}
use Rattle.tbl_outside.specs.Counts.{Rose, RoseBy}
use Rattle.tbl_outside.specs.declared.bank.Bank.{Ghosts}
use Rattle.tbl_outside.specs.declared.stream.Sink.{Ghosts as SinkGhosts}
use Rattle.tbl_session.specs.Openings.{Opening}
use Rattle.tbl_session.specs.Served.{IsServed}
use Rattle.tbl_session.specs.Session.{Ran, Boots, HasCauses}
use Rattle.tbl_drill.specs.Drill.{roomless, session}
use Rattle.tbl_top.specs.Listing.{TellsText}
use Rattle.tbl_top.specs.declared.summary.Class.{Class}
use Rattle.tbl_top.specs.declared.summary.Class.TheVariants.{Success, Info, Refused, Image}
use Rattle.tbl_kinds.specs.declared.entry.Entry.{Entry}
use Rattle.tbl_core.specs.Service.{CoreView}
use Rattle.tbl_stream.specs.declared.standing.Standing.{Standing}
use Rattle.tbl_stream.specs.declared.standing.Standing.TheVariants.{Open, BootFault, BootStopped, Memory}
use Rattle.tbl_kinds.specs.declared.request.Actor.{Actor}
use Rattle.tbl_kinds.specs.declared.request.Request.{Request}
use Rattle.tbl_kinds.specs.declared.request.Request.TheVariants as ask
use Rattle.tbl_kinds.specs.declared.status.Status.{Status}
use Rattle.tbl_kinds.specs.declared.status.TheConstants.Status.{SUCCESS, INFO_UPDATED, INFO_RECOVERED_TBL, INFO_STOPPED}

-- ---- one request more

-- only playing a script leads to these
abbrev pub IsOfScript : Standing → Type 0
IsOfScript Open = Unit {0}
IsOfScript BootFault = Unit {0}
IsOfScript BootStopped = Unit {0}
IsOfScript Memory = Unit {0}
IsOfScript _ = ⊥

-- one entry more, of this actor and this request
abbrev pub AddsEntry : List Entry → List Entry → Actor → Request → Type 0
AddsEntry old new actor request = (e : Entry) × (new ≡ old ++ e ∷ []) × (e.actor ≡ actor) × (e.request ≡ request)

-- A further record may be played.
pub record MayPlayOne {B C : Type 0} (core : CoreView B C) : Type 0 where
  -- the service hasn't ended
  pub live : core.state.ended ≡ false
  -- it has played fewer than a session may have
  pub room : length core.entries < record_limit

-- ---- the counts

-- the answer of a call by which an image went active, also if a reset came into the copy to the store that follows
abbrev pub went_well : Status → Status → Bool
went_well good status = (status.0 == good.0) || (status.0 == INFO_STOPPED.0)

-- an image went active in it, or was recovered
abbrev pub activates : Request → Status → Bool
activates (ask.LoadImage handle image) status = went_well SUCCESS status
activates (ask.LoadFile handle name) status = went_well SUCCESS status
activates (ask.Update handle) status = went_well SUCCESS status
activates (ask.Manage handle) status = went_well INFO_UPDATED status
activates (ask.Register name size flags validator) status = status.0 == INFO_RECOVERED_TBL.0
activates _ status = false

abbrev pub has_image : Entry → Bool
has_image e = activates e.request e.reply.status

-- 0 is success, 1 to 31 inform or warn, and 32 and above refuse
abbrev pub is_of : Class → Entry → Bool
is_of Success e = e.reply.status.0 == 0
is_of Info e = not (e.reply.status.0 == 0) && nat_lt e.reply.status.0 32
is_of Refused e = not (nat_lt e.reply.status.0 32)
is_of Image e = has_image e

-- ---- the line

abbrev pub counted : List ℕ → ℕ → List ℕ
counted word count = word ++ decimal count

unfoldable pub summary : List Entry → List ℕ
summary entries =
    counted (codes "entries ") (length entries)
    ++ counted (codes " success ") (count_by (is_of Success) entries)
    ++ counted (codes " info ") (count_by (is_of Info) entries)
    ++ counted (codes " refused ") (count_by (is_of Refused) entries)
    ++ counted (codes " images ") (count_by (is_of Image) entries)
    ++ codes "\n"

-- ---- the whole

-- the session was asked for in order, whatever room was reserved after the bytes of a request; after 1, 7 and 8 the beginning of it
pub record AsksFront (status : ℕ) (pairs : List Pair) (entries : List Entry) : Type 0 where
  pub left : List Pair
  pub parts : pairs ≡ map roomless (pairs_of entries) ++ left
  pub whole : (status ≡ 0) ⊎ (status ≡ 4) → left ≡ []

-- The session of this seed was served, and its line was written.
pub record Drills {B C : Type 0} (seed rounds : ℕ) (g : Ghosts B) (verdict : C → List ℕ → ℤ) (o : Opening B C) (r : Ran B) : Type 0 where
  pub entries : List Entry
  pub requested : AsksFront r.status (session seed rounds) entries
  pub served : IsServed g verdict o r.bank_then entries
  pub known : (r.status ≡ 0) ⊎ (r.status ≡ 1) ⊎ (r.status ≡ 4) ⊎ (r.status ≡ 7) ⊎ (r.status ≡ 8)
  pub boots : Boots g o.bank r entries [] r.status
  pub causes : HasCauses g o.bank r
  pub told : TellsText r.status (summary entries) (r.taken, r.unwritten) (r.taken_then, r.unwritten_then)

-- what was seen of a call that was given no source, with whatever source one has left
abbrev pub unread : {K B : Type 0} → SinkGhosts K → Option (List ℕ) → ℕ → K → K → ℕ × B → Ran B
unread k left faults before after ended = record {
  left = left;
  left_then = left;
  unread = faults;
  unread_then = faults;
  taken = k.taken before;
  taken_then = k.taken after;
  unwritten = k.faults before;
  unwritten_then = k.faults after;
  bank_then = ended.1;
  status = ended.0;
}

-- It is played to its end, unless the sink failed, a boot ended it, or memory ran out.
abbrev pub DrillsThrough : {B : Type 0} → Ghosts B → B → Ran B → Type 0
DrillsThrough g bank r =
    ¬ Rose r.unwritten r.unwritten_then
    → (r.status ≡ 0) ⊎ (r.status ≡ 1) ⊎ ((r.status ≡ 7) × RoseBy 1 (g.faults bank) (g.faults r.bank_then)) ⊎ ((r.status ≡ 8) × RoseBy 1 (g.stops bank) (g.stops r.bank_then))
