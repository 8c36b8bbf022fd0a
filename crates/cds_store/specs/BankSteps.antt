-- What a step of a call does to the bank, and what a reset leaves meanwhile.
use Rattle.std.specs.Prelude.{◌≡◌, ℕ, List, [], ◌∷◌, length, false, Result, is_ok, OnOk, IfErr}
use Rattle.tbl_kinds.specs.Blocks.{Store as Blocks}
use Rattle.tbl_kinds.specs.Numbers.{patched}
use Rattle.tbl_kinds.specs.declared.block.Block.{Block}
use Rattle.tbl_outside.specs.Bank.{Torn, LeavesOnly}
use Rattle.tbl_outside.specs.BankCalls.{BankCall, Asks, write}
use Rattle.tbl_outside.specs.declared.bank.Bank.{Ghosts}
use Rattle.cds_layout.specs.Order.{copy_calls}
use Rattle.cds_store.specs.Boots.{SameStore, IsTidy, IsCleared, Clears}
use Rattle.cds_store.specs.Calls.{Steady, CallCounted, is_gate, is_old}
use Rattle.cds_store.specs.Moments.{TearsBy, CopyTears, copied_bytes}
use Rattle.cds_store.specs.Sound.{IsSound}
use Rattle.cds_store.specs.StoreBlocks.{StoreParts, StandsFor}
use Rattle.cds_store.specs.declared.fault.BankFault.{BankFault}

-- where the bank tells its moments, a reset meanwhile leaves only such images
abbrev pub Meanwhile : {B : Type 0} → Ghosts B → B → B → (List ℕ → Type 0) → Type 0
Meanwhile g old new IsLeft = g.tells_moments → LeavesOnly g.clock g.left_since old new IsLeft

-- where it tells its calls, it was asked these: all if the step is done, and else those up to the one that broke off
abbrev pub AsksFor : {A B : Type 0} → Ghosts B → B → B → List BankCall → Result A BankFault → Type 0
AsksFor g old new calls result = Asks g.tells_calls g.calls old new (is_ok result) calls

-- one write, of these bytes from a place on: whole, or torn if it broke off, of which its fault says so much
pub record Writes {B : Type 0} (g : Ghosts B) (old new : B) (at : ℕ) (bytes : List ℕ) (SaysSo : BankFault → Type 0) (result : Result Unit BankFault) : Type 0 where
  pub done : OnOk result (g.tells → g.now new ≡ patched (g.now old) at bytes)
  pub torn : g.tells → Torn at (length bytes) (g.now old) (g.now new)
  pub moments : Meanwhile g old new (Torn at (length bytes) (g.now old))
  pub steady : Steady g.size g.faults g.stops old new
  pub counted : CallCounted g.faults g.stops old new result
  pub bank_calls : AsksFor g old new (write at bytes ∷ []) result
  pub flags : IfErr result SaysSo

-- what a step of a boot keeps to, whatever it writes: it closes no doubtful block in the way of another
pub record Keeps {A B : Type 0} (g : Ghosts B) (old new : B) (result : Result A BankFault) : Type 0 where
  pub steady : Steady g.size g.faults g.stops old new
  pub counted : CallCounted g.faults g.stops old new result
  pub not_old : IfErr result (λ fault. is_old fault ≡ false)

-- and what it writes: such bytes once it is done, and at any moment, also where it breaks off, such ones
pub record Changes {A B : Type 0} (g : Ghosts B) (old new : B) (IsDone IsLeft : List ℕ → Type 0) (calls : List BankCall) (result : Result A BankFault) : Type 0 where
  pub done : OnOk result (g.tells → IsDone (g.now new))
  pub left : g.tells → IsLeft (g.now new)
  pub moments : Meanwhile g old new IsLeft
  pub bank_calls : g.tells → AsksFor g old new calls result

-- both
pub record BootStep {A B : Type 0} (g : Ghosts B) (old new : B) (IsDone IsLeft : List ℕ → Type 0) (calls : List BankCall) (result : Result A BankFault) : Type 0 where
  pub keeps : Keeps g old new result
  pub changes : Changes g old new IsDone IsLeft calls result

-- the bank becomes one that is tidy, and keeps its blocks meanwhile
abbrev pub Tidies : {A B : Type 0} → Ghosts B → B → B → List BankCall → Result A BankFault → Type 0
Tidies g old new calls result = BootStep g old new (IsTidy (g.now old)) (SameStore (g.now old)) calls result

-- it becomes one that is cleared
abbrev pub ClearsAll : {A B : Type 0} → Ghosts B → B → B → List BankCall → Result A BankFault → Type 0
ClearsAll g old new calls result = BootStep g old new IsCleared (Clears (g.now old)) calls result

-- a step over slots and bank: what it makes of the blocks once it is done, and where it breaks off, and what a reset leaves meanwhile
pub record Alters {B : Type 0} (g : Ghosts B) (old new : StoreParts B) (done : Blocks → Blocks) (broken : BankFault → Blocks → Blocks) (IsLeft : Blocks → List ℕ → Type 0) (result : Result Unit BankFault) : Type 0 where
  pub sound : IsSound g.tells g.size g.now new
  pub ok : OnOk result ((blocks : Blocks) → StandsFor g.tells g.now old blocks → StandsFor g.tells g.now new (done blocks))
  pub err : IfErr result (λ fault. (blocks : Blocks) → StandsFor g.tells g.now old blocks → StandsFor g.tells g.now new (broken fault blocks))
  pub moments : g.tells_moments → (blocks : Blocks) → StandsFor g.tells g.now old blocks → LeavesOnly g.clock g.left_since old.bank new.bank (IsLeft blocks)
  pub steady : Steady g.size g.faults g.stops old.bank new.bank
  pub counted : CallCounted g.faults g.stops old.bank new.bank result

-- a copy of an image, as it is spelled: into the place that doesn't show, and then the turn byte of that place
pub record CopiesBytes {B : Type 0} (g : Ghosts B) (old new : B) (slot : ℕ) (b : Block) (written : List ℕ) (result : Result Unit BankFault) : Type 0 where
  pub done : OnOk result (g.tells → g.now new ≡ copied_bytes slot b written (g.now old))
  pub err : IfErr result (λ fault. g.tells → TearsBy (is_gate fault) slot b written (g.now old) (g.now new))
  pub moments : Meanwhile g old new (CopyTears slot b written (g.now old))
  pub steady : Steady g.size g.faults g.stops old new
  pub counted : CallCounted g.faults g.stops old new result
  pub bank_calls : g.tells → AsksFor g old new (copy_calls (g.now old) slot b written) result
  pub flags : IfErr result (λ fault. is_old fault ≡ false)
