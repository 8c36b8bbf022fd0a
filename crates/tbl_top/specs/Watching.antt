-- A session with a thread for each actor, and the report of the images that application 16 got.
use Rattle.std.specs.Prelude.{◌≡◌, ◌⊎◌, ℕ, List, Option, Some, None}
use Rattle.std.proofs.Common.{ℤ}
use Rattle.tbl_kinds.specs.Records.{Pair}
use Rattle.table_watch.specs.Report.{report}
use Rattle.table_watch.specs.Watching.{AreLooksOf}
use Rattle.table_watch.specs.declared.watch.Look.{Look}
use Rattle.tbl_core.specs.declared.service.StepFault.{StepFault}
use Rattle.tbl_core.specs.declared.service.StepFault.TheVariants as fault
use Rattle.tbl_crew.specs.declared.watching.WatchEnd.{WatchEnd}
use Rattle.tbl_crew.specs.declared.watching.WatchEnd.TheVariants.{Step, Memory}
use Rattle.tbl_outside.specs.declared.bank.Bank.{Ghosts}
use Rattle.tbl_session.specs.Openings.{Opening}
use Rattle.tbl_session.specs.Orders.{ByActor}
use Rattle.tbl_session.specs.Session.{Ran, Session}
use Rattle.tbl_top.specs.Listing.{TellsText}
use Rattle.tbl_kinds.specs.declared.entry.Entry.{Entry}

-- each actor requested its own, and these are the looks of application 16: one for each of its calls that got an address
abbrev pub Watched : {B C : Type 0} → Ghosts B → Opening B C → List Look → ℕ → List Pair → List Entry → Type 0
Watched g o looks status pairs entries = ByActor status pairs entries × AreLooksOf g.tells o.state entries looks

-- what was seen of a run, except what its sink took
abbrev pub but_for_sink : {B : Type 0} → Ran B → Ran B
but_for_sink r = record {
  left = r.left;
  left_then = r.left_then;
  unread = r.unread;
  unread_then = r.unread_then;
  taken = None;
  taken_then = None;
  unwritten = r.unwritten;
  unwritten_then = r.unwritten_then;
  bank_then = r.bank_then;
  status = r.status;
}

-- The session is like one with a thread for each actor, except that no transcript is written. Instead the sink takes the report of the
-- looks, once the input was read to its end and all of it was played: the whole report, or a front of it if the sink fails. After every
-- other status it takes nothing.
pub record Watches {B C : Type 0} (g : Ghosts B) (verdict : C → List ℕ → ℤ) (o : Opening B C) (r : Ran B) : Type 0 where
  pub looks : List Look
  pub session : Session (Watched g o looks) g verdict o (but_for_sink r)
  pub told : TellsText r.status (report looks) (r.taken, r.unwritten) (r.taken_then, r.unwritten_then)

-- the status that a session would have so far, and the one that it has: the report was to be written with 0, and memory ran out for it or
-- the sink failed
abbrev pub ReportsAs : ℕ → ℕ → Type 0
ReportsAs status result = (result ≡ status) ⊎ ((status ≡ 0) × ((result ≡ 1) ⊎ (result ≡ 4)))

-- the fault as which what ended a watched crew counts
abbrev pub fault_of : Option WatchEnd → Option StepFault
fault_of None = None
fault_of (Some (Step cause)) = Some cause
fault_of (Some Memory) = Some fault.Memory
