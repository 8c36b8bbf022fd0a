-- What the service made of a session, whoever requested it.
use Rattle.std.specs.Prelude.{ℕ, List}
use Rattle.std.proofs.Common.{ℤ}
use Rattle.tbl_model.specs.State.{State}
use Rattle.tbl_model.specs.History.{IsLegal, begins_at}
use Rattle.tbl_model.specs.Vouched.{IsVouched}
use Rattle.tbl_model.specs.Whole.{IsWhole}
use Rattle.tbl_outside.specs.Bank.{LeavesOnly}
use Rattle.tbl_outside.specs.declared.bank.Bank.{Ghosts}
use Rattle.tbl_session.specs.Backed.{AreBacked}
use Rattle.tbl_session.specs.Moments.{AtSomePlace, AtExit, AllGaveLeft}
use Rattle.tbl_session.specs.Openings.{Opening}
use Rattle.tbl_session.specs.Trouble.{Rises, HaveCauses}
use Rattle.tbl_session.specs.Verdicts.{AreGiven, KeepsToFunctions}
use Rattle.tbl_kinds.specs.declared.entry.Entry.{Entry}

-- The one history that `Session` is about.
--
-- Each answer that reports trouble has its cause in its note, and the counts of the bank rose by at least what the notes say. If the bank
-- shows its bytes, the history is legal, and no image goes active that its table's function didn't answer for. Each verdict, also as an
-- event reports it, is then that of the function which was given under its number, and each critical table has its block. If the bank shows
-- its moments, each image that a reset may have left since is one of a place of this history (`moments`), at the exit of its last one
-- (`exit`), and what a restore gave was in one of them (`restored`).
pub record IsServed {B C : Type 0} (g : Ghosts B) (verdict : C → List ℕ → ℤ) (o : Opening B C) (bank_then : B) (entries : List Entry) : Type 0 where
  pub state : State
  pub legal : g.tells → IsLegal o.state entries state
  pub whole : g.tells → IsWhole o.state entries
  pub vouched : g.tells → IsVouched o.state entries
  pub verdicts : g.tells → AreGiven verdict o.given (begins_at o.state) entries
  pub kept : g.tells → KeepsToFunctions verdict o.given o.state entries
  pub backed : g.tells → AreBacked state
  pub moments : g.tells_moments → LeavesOnly g.clock g.left_since o.bank bank_then (AtSomePlace o.state entries)
  pub exit : g.tells_moments → (image : List ℕ) → g.may_leave bank_then image → AtExit o.state entries image
  pub restored : g.tells_moments → AllGaveLeft (g.left_since bank_then (g.clock o.bank)) o.state entries
  pub causes : HaveCauses entries
  pub trouble : Rises g o.bank bank_then entries
