-- A boot, by itself and after a call of the store that was stopped.
use Rattle.std.specs.Prelude.{◌≡◌, [], false, not, Some}
use Rattle.tbl_kinds.specs.Blocks.{Store as Blocks}
use Rattle.tbl_kinds.specs.Notes.{untouched}
use Rattle.tbl_kinds.specs.StoreSteps.{Shows as ShowsBlocks}
use Rattle.tbl_kinds.specs.declared.note.BankNote.{BankNote}
use Rattle.tbl_kinds.specs.declared.note.Outcome.TheVariants.{Stopped}
use Rattle.tbl_kinds.specs.declared.request.ResetKind.{ResetKind}
use Rattle.tbl_kinds.specs.declared.request.ResetKind.TheVariants.{Processor}
use Rattle.tbl_model.specs.Boots.{blocks_after}
use Rattle.tbl_model.specs.State.{State}
use Rattle.tbl_model.specs.StoreNotes.{Boots}
use Rattle.tbl_outside.specs.Bank.{LeavesOnly}
use Rattle.tbl_outside.specs.declared.bank.Bank.{Ghosts}
use Rattle.cds_store.specs.Moments.{BootLeaves}
use Rattle.cds_store.specs.StoreBlocks.{StoreParts, StandsFor as HasBlocks}
use Rattle.store_requests.specs.Called.{Leaving, boots_after, with_boot, Troubled}
use Rattle.tbl_core.specs.BankAsked.{BootAsks}
use Rattle.tbl_core.specs.Ended.{Follows, boot_only}
use Rattle.tbl_core.specs.Made.{after_stop}
use Rattle.tbl_core.specs.Standing.{HoldsAll}
use Rattle.tbl_core.specs.Views.{PartsView}

-- the store booted in this way, and the note says so besides what it said before
pub record HasBooted {B : Type 0} (g : Ghosts B) (kind : ResetKind) (old new : StoreParts B) (called note : BankNote) : Type 0 where
  pub booted : new.booted ≡ not note.ended
  pub adds : note ≡ with_boot note.ended note.stopped note.found called
  pub blocks : g.tells → (blocks : Blocks) → HasBlocks g.tells g.now old blocks → note.ended ≡ false → HasBlocks g.tells g.now new (blocks_after kind note blocks)
  pub finds : g.tells → (blocks : Blocks) → HasBlocks g.tells g.now old blocks → Boots (Some kind) blocks note
  pub trouble : Troubled g old.bank new.bank (with_boot note.ended note.stopped [] untouched)
  pub asked : g.tells → BootAsks g (Some kind) old.bank new.bank (not note.ended)
  pub moments : g.tells_moments → (blocks : Blocks) → HasBlocks g.tells g.now old blocks → LeavesOnly g.clock g.left_since old.bank new.bank (BootLeaves kind blocks)

-- if the note says that a call of the store was stopped, the service booted after it, and the new note says how that went
pub record BootsIfStopped {B C : Type 0} (g : Ghosts B) (called note : BankNote) (old new : PartsView B C) : Type 0 where
  pub follows : Follows called note
  pub held : new ≡ after_stop called.outcome note new.store old
  pub booted : called.outcome ≡ Stopped → new.store.booted ≡ not note.ended
  pub boots : g.tells → (s : State) → HoldsAll g old s → HoldsAll g new (boots_after called.outcome note s)
  pub finds : g.tells → (s : State) → HoldsAll g old s → called.outcome ≡ Stopped → Boots (Some Processor) s.store note
  pub trouble : Troubled g old.store.bank new.store.bank (boot_only called.outcome note)
  pub asked : g.tells → called.outcome ≡ Stopped → BootAsks g (Some Processor) old.store.bank new.store.bank (not note.ended)
  pub moments : g.tells → (s : State) → HoldsAll g old s → called.outcome ≡ Stopped → Leaving g old.store new.store (ShowsBlocks s.store)
