-- What one step promises of a core, also if a boot in it was the last; and so of an engine, with whatever it played before as a core's history.
use Rattle.std.specs.Prelude.{◌≡◌, ◌≢◌, ℕ, List, [], ◌∷◌, ◌++◌, length, Option, Result}
use Rattle.tbl_kinds.specs.declared.block.Block.{Block}
use Rattle.tbl_kinds.specs.declared.entry.Entry.{Entry}
use Rattle.tbl_kinds.specs.declared.request.Actor.{Actor}
use Rattle.tbl_kinds.specs.declared.request.Request.{Request}
use Rattle.tbl_kinds.specs.declared.request.Request.TheVariants as ask
use Rattle.tbl_kinds.specs.declared.request.ResetKind.TheVariants.{PowerOn}
use Rattle.tbl_model.specs.State.{State, no_tables}
use Rattle.tbl_model.specs.History.{Run, begins_at, run_from}
use Rattle.tbl_model.specs.BankCounts.{HasCause}
use Rattle.tbl_model.specs.Vouched.{IsVouched}
use Rattle.tbl_model.specs.Whole.{IsWhole}
use Rattle.tbl_outside.specs.Bank.{LeavesOnly}
use Rattle.tbl_outside.specs.declared.bank.Bank.{Ghosts}
use Rattle.tbl_outside.specs.declared.validator.KitEntry.{KitEntry}
use Rattle.tbl_outside.specs.declared.validator.Validator.{Ghosts as ValidatorGhosts}
use Rattle.cds_layout.specs.Images.{store_of}
use Rattle.tbl_session.specs.Backed.{AreSingle, AreBacked}
use Rattle.tbl_session.specs.Completed.{HasCompleted, LeaveAlone}
use Rattle.tbl_session.specs.Crashes.{AfterCrash, calls_in, all_calls_in}
use Rattle.tbl_session.specs.Restores.{RestoresHeld}
use Rattle.tbl_session.specs.Verdicts.{questions_in, KeepsToFunctions}
use Rattle.store_requests.specs.Called.{Troubled}
use Rattle.tbl_core.specs.BankAsked.{AsksOnce}
use Rattle.tbl_core.specs.Ended.{session_end}
use Rattle.tbl_core.specs.Log.{IsSmall}
use Rattle.tbl_core.specs.Service.{CoreView, FollowsFrom, Vouches}
use Rattle.tbl_core.specs.Verdicts.{Judged}
use Rattle.tbl_core.specs.declared.service.StepFault.{StepFault}

-- the run that a core's history is, from an opening on
abbrev pub run_of : {B C : Type 0} → State → CoreView B C → Run
run_of opening core = run_from (begins_at opening) core.entries

-- one entry more, of this actor and request, which has its causes: the counts of the bank moved as its note says, and also if its answer
-- reports trouble
pub record HasEntry {B C : Type 0} (g : Ghosts B) (old new : CoreView B C) (asked : Actor × Request) (e : Entry) (result : Result Unit StepFault) : Type 0 where
  pub actor_is : e.actor ≡ asked.0
  pub request_is : e.request ≡ asked.1
  pub added : new.entries ≡ old.entries ++ e ∷ []
  pub ended : new.state.ended ≡ e.given.note.ended
  pub ends : result ≡ session_end e.given.note
  pub trouble : Troubled g old.state.store.bank new.state.store.bank e.given.note
  pub cause : HasCause e.reply.status e.given.note
  pub small : IsSmall e

-- this request was played, and whatever the old core stood for, the new one stands for it, with this entry
pub record Stepped {B C : Type 0} (g : Ghosts B) (v : ValidatorGhosts C) (old new : CoreView B C) (asked : Actor × Request) (e : Entry) (result : Result Unit StepFault) : Type 0 where
  pub adds : HasEntry g old new asked e result
  pub legal : (opening : State) → FollowsFrom g opening old → FollowsFrom g opening new
  pub whole : g.tells → (opening : State) → opening.tables ≡ no_tables → opening.pending ≡ [] → FollowsFrom g opening old → IsWhole opening new.entries
  -- each critical table has its block in the store, and at most 32 are critical
  pub backed : g.tells → (opening : State) → opening.tables ≡ no_tables → AreSingle opening.store → FollowsFrom g opening old → AreBacked (run_of opening new).state
  -- the functions were asked what the request asks, and the entry has their verdicts
  pub judged : g.tells → (opening : State) → FollowsFrom g opening old
      → Judged v old.state.kit new.state.kit (questions_in (run_of opening old) e) e.given.verdicts
  -- no image went active that its table's function didn't answer for
  pub vouched : g.tells → (opening : State) → opening.tables ≡ no_tables → opening.pending ≡ [] → FollowsFrom g opening old → IsVouched opening new.entries
  -- whatever functions it was given at first, the history's verdicts are still theirs
  pub verdicts : (opening : State) (given : List (Option (KitEntry C))) → Vouches g v.verdict given opening old → Vouches g v.verdict given opening new
  -- and so each verdict that is reported of an image
  pub kept : g.tells → (opening : State) (given : List (Option (KitEntry C))) → Vouches g v.verdict given opening old → KeepsToFunctions v.verdict given opening new.entries
  -- what a restore gave is what its block held in the bank as the step began
  pub gave : g.tells → (opening : State) → FollowsFrom g opening old
      → RestoresHeld (g.now old.state.store.bank) (all_calls_in (run_of opening old) e) (run_of opening old).state.store e.given.note
  -- the bank was asked what the request asks, and no more
  pub bank_asked : g.tells → (opening : State) → FollowsFrom g opening old → AsksOnce g old.state.store new.state.store (run_of opening old) e
  -- a reset at any moment in it leaves the store as it was after the entries before, or what this request made of it so far
  pub crash : g.tells_moments → (opening : State) → FollowsFrom g opening old
      → LeavesOnly g.clock g.left_since old.state.store.bank new.state.store.bank (λ image. AfterCrash opening new.entries (length old.entries) (store_of image))
  -- a completed copy of an image stays, each moment, through a request that neither copies into its block nor deletes it and is no power-on
  pub completed : g.tells_moments → (opening : State) → FollowsFrom g opening old
      → (slot : ℕ) (block : Block) (copied : List ℕ) → HasCompleted (run_of opening old).state.store slot block copied
      → LeaveAlone slot (calls_in (run_of opening old) e) → asked.1 ≢ ask.Reset PowerOn
      → LeavesOnly g.clock g.left_since old.state.store.bank new.state.store.bank (λ image. HasCompleted (store_of image) slot block copied)
  -- the bytes that it began with, and that a restore in it read, are some that a reset may have left
  pub left : g.tells_moments → (opening : State) → FollowsFrom g opening old
      → g.left_since new.state.store.bank (g.clock old.state.store.bank) (g.now old.state.store.bank)
