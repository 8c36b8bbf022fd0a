-- A look at a bank: it is read, and nothing of it changes.
use Rattle.std.specs.Prelude.{◌≡◌, ◌≤◌, List, true, false, Result, Ok, Err}
use Rattle.tbl_outside.specs.Bank.{LeavesOnly}
use Rattle.tbl_outside.specs.BankCalls.{BankCall, Asks}
use Rattle.tbl_outside.specs.Counts.{Still, RoseAlone}
use Rattle.tbl_outside.specs.declared.bank.Bank.{Ghosts}
use Rattle.cds_layout.specs.declared.blocks.RestoreFault.{RestoreFault}
use Rattle.cds_layout.specs.declared.blocks.RestoreFault.TheVariants.{NoImage, Torn, Fault}
use Rattle.cds_layout.specs.declared.listing.TextFault.{TextFault}
use Rattle.cds_layout.specs.declared.listing.TextFault.TheVariants as text

-- how a look ended: all was read, the bank failed, or memory ran out
pub data Ending : Type 0 where
  AllRead : Ending
  BankFailed : Ending
  NoMemory : Ending

-- nothing but the bank can break it off
abbrev pub ending : {A E : Type 0} → Result A E → Ending
ending (Ok x) = AllRead
ending (Err e) = BankFailed

-- a block that holds no image was read too
abbrev pub restore_ending : {A : Type 0} → Result A RestoreFault → Ending
restore_ending (Ok x) = AllRead
restore_ending (Err NoImage) = AllRead
restore_ending (Err (Torn length kept found)) = AllRead
restore_ending (Err Fault) = BankFailed

abbrev pub text_ending : {A : Type 0} → Result A TextFault → Ending
text_ending (Ok x) = AllRead
text_ending (Err text.Fault) = BankFailed
text_ending (Err text.Memory) = NoMemory

-- a failure moved the count of faults alone, and else neither count moved
abbrev pub LookCounted : {B : Type 0} → Ghosts B → B → B → Ending → Type 0
LookCounted g old new AllRead = Still g.faults g.stops old new
LookCounted g old new BankFailed = RoseAlone g.faults g.stops old new
LookCounted g old new NoMemory = Still g.faults g.stops old new

-- these calls were made, those up to the one that failed, or if memory ran out any
abbrev pub LookAsks : {B : Type 0} → Ghosts B → B → B → List BankCall → Ending → Type 0
LookAsks g old new calls AllRead = Asks g.tells_calls g.calls old new true calls
LookAsks g old new calls BankFailed = Asks g.tells_calls g.calls old new false calls
LookAsks g old new calls NoMemory = Unit {0}

-- nothing changes but the count of faults, if the bank failed
pub record OnlyReads {B : Type 0} (g : Ghosts B) (old new : B) (ending : Ending) : Type 0 where
  pub kept : g.tells → g.now new ≡ g.now old
  -- a reset meanwhile leaves the bytes as they are
  pub moments : g.tells_moments → LeavesOnly g.clock g.left_since old new (λ image. image ≡ g.now old)
  pub size : g.size new ≡ g.size old
  pub fault_count : g.faults old ≤ g.faults new
  pub stop_count : g.stops old ≤ g.stops new
  pub counted : LookCounted g old new ending

-- and these calls are made, which may follow from the bytes
pub record Looks {B : Type 0} (g : Ghosts B) (old new : B) (calls : List BankCall) (ending : Ending) : Type 0 where
  pub reads : OnlyReads g old new ending
  pub bank_calls : g.tells → LookAsks g old new calls ending
