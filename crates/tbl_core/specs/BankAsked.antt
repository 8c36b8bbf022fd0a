-- What a step asks of its bank, call by call: what its calls of the store ask, and then what a boot does.
use Rattle.std.specs.Prelude.{◌≡◌, List, Bool, not, Option, Some, None}
use Rattle.tbl_kinds.specs.Blocks.{Store as Blocks}
use Rattle.tbl_kinds.specs.StoreCalls.{StoreCall}
use Rattle.tbl_kinds.specs.declared.note.BankNote.{BankNote}
use Rattle.tbl_kinds.specs.declared.request.ResetKind.{ResetKind}
use Rattle.tbl_kinds.specs.declared.entry.Entry.{Entry}
use Rattle.tbl_model.specs.History.{Run}
use Rattle.tbl_model.specs.StoreNotes.{boot_in}
use Rattle.tbl_model.specs.StoreUse.{left_by}
use Rattle.tbl_session.specs.Crashes.{all_calls_in}
use Rattle.tbl_outside.specs.BankCalls.{Asks}
use Rattle.tbl_outside.specs.declared.bank.Bank.{Ghosts}
use Rattle.cds_layout.specs.Order.{boot_calls}
use Rattle.cds_store.specs.StoreBlocks.{StoreParts, StandsFor}
use Rattle.store_requests.specs.BankCalls.{AsksIn}

-- if no boot comes, the bank is as it was
abbrev pub BootAsks : {B : Type 0} → Ghosts B → Option ResetKind → B → B → Bool → Type 0
BootAsks g None old new done = new ≡ old
BootAsks g (Some kind) old new done = Asks g.tells_calls g.calls old new done (boot_calls kind (g.now old))

-- of a request that makes these calls over these blocks, and this boot after them
pub record BankAsked {B : Type 0} (g : Ghosts B) (boots : Option ResetKind) (old new : StoreParts B) (calls : List StoreCall) (blocks : Blocks) (note : BankNote) : Type 0 where
  pub called : StoreParts B  -- the store as the calls left it
  pub asked : AsksIn g old called note.outcome calls
  pub blocks_left : StandsFor g.tells g.now called (left_by calls note blocks)
  pub booted : BootAsks g boots called.bank new.bank (not note.ended)

-- in the state of this run the bank was asked what the entry's request asks, and no more
abbrev pub AsksOnce : {B : Type 0} → Ghosts B → StoreParts B → StoreParts B → Run → Entry → Type 0
AsksOnce g old new r e = BankAsked g (boot_in e.request e.given.note.outcome) old new (all_calls_in r e) r.state.store e.given.note
