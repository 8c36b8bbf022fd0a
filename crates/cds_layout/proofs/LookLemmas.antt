-- Looks at a bank, one after the other.
use Rattle.std.proofs.Common.{◌≡◌, ◌≢◌, ℕ, List, ◌++◌, Option, true, false, Result, Ok, Err, refl, sym, subst, ◌∙◌, arith}
use Rattle.tbl_outside.specs.BankCalls.{BankCall, Asks}
use Rattle.tbl_outside.specs.Counts.{Rose}
use Rattle.tbl_outside.specs.declared.bank.Bank.{Ghosts}
use Rattle.tbl_outside.proofs.BankCalls.{asks_then}
use Rattle.tbl_outside.proofs.Moments.{goes_on, started}
use Rattle.tbl_kinds.specs.declared.block.Block.{Block}
use Rattle.cds_layout.specs.Fronts.{IsFront, WasRead}
use Rattle.cds_layout.specs.Looks.{Ending, AllRead, BankFailed, NoMemory, LookCounted, LookAsks, OnlyReads, Looks, restore_ending}
use Rattle.cds_layout.specs.Restores.{RestoreCounted, was_read}
use Rattle.cds_layout.specs.declared.blocks.RestoreFault.{RestoreFault}
use Rattle.cds_layout.specs.declared.blocks.RestoreFault.TheVariants.{NoImage, Torn, Fault}

module _ {B : Type 0} (g : Ghosts B) where
  counted_on : (old mid new : B) (ending : Ending) → LookCounted g old mid AllRead → LookCounted g mid new ending → LookCounted g old new ending
  counted_on old mid new AllRead first next = (next.0 ∙ first.0, next.1 ∙ first.1)
  counted_on old mid new BankFailed first next = (subst (λ (n : ℕ). Rose n (g.faults new)) first.0 next.0, next.1 ∙ first.1)
  counted_on old mid new NoMemory first next = (next.0 ∙ first.0, next.1 ∙ first.1)

  asked_on : (old mid new : B) (calls more : List BankCall) (ending : Ending) → Asks g.tells_calls g.calls old mid true calls → LookAsks g mid new more ending → LookAsks g old new (calls ++ more) ending
  asked_on old mid new calls more AllRead first next = asks_then g.tells_calls g.calls old mid new true calls more first next
  asked_on old mid new calls more BankFailed first next = asks_then g.tells_calls g.calls old mid new false calls more first next
  asked_on old mid new calls more NoMemory first next = tt

  module _ (tells_both : g.tells_moments → g.tells) where
    pub reads_on : (old mid new : B) (ending : Ending) → OnlyReads g old mid AllRead → OnlyReads g mid new ending → OnlyReads g old new ending
    reads_on old mid new ending first next = record {
      kept = λ told. next.kept told ∙ first.kept told;
      moments = λ m. goes_on (first.moments m) (next.moments m) (λ image is. is ∙ first.kept (tells_both m));
      size = next.size ∙ first.size;
      fault_count = omega (arith, first.fault_count, next.fault_count);
      stop_count = omega (arith, first.stop_count, next.stop_count);
      counted = counted_on old mid new ending first.counted next.counted;
    }

    pub looks_on : (old mid new : B) (calls more : List BankCall) (ending : Ending) → Looks g old mid calls AllRead → Looks g mid new more ending → Looks g old new (calls ++ more) ending
    looks_on old mid new calls more ending first next = record {
      reads = reads_on old mid new ending first.reads next.reads;
      bank_calls = λ told. asked_on old mid new calls more ending (first.bank_calls told) (next.bank_calls told);
    }

  -- no call was made
  pub no_look : (bank : B) (ending : Ending) → ending ≢ BankFailed → ((image : List ℕ) → g.tells_moments → g.left_since bank (g.clock bank) image → image ≡ g.now bank) → OnlyReads g bank bank ending
  no_look bank ending other only_now = record {
    kept = λ told. refl;
    moments = λ m. started g.clock g.left_since bank (λ image. image ≡ g.now bank) (λ image left. only_now image m left);
    size = refl;
    fault_count = omega arith;
    stop_count = omega arith;
    counted = by ending other;
  } where
    by : (ending : Ending) → ending ≢ BankFailed → LookCounted g bank bank ending
    by AllRead other = (refl, refl)
    by BankFailed other = absurd (other refl)
    by NoMemory other = (refl, refl)

-- the same look, whose calls are these
pub looks_same : {B : Type 0} (g : Ghosts B) (old new : B) (calls same : List BankCall) (ending : Ending) → (g.tells → calls ≡ same) → Looks g old new calls ending → Looks g old new same ending
looks_same g old new calls same ending is looks = record {
  reads = looks.reads;
  bank_calls = λ told. subst (λ (l : List BankCall). LookAsks g old new l ending) (is told) (looks.bank_calls told);
}

-- what was read of a bank is still there after a look at it
pub still_read : {B : Type 0} (g : Ghosts B) (old new : B) (ending : Ending) (front : List ℕ) (directory : List (Option Block)) → OnlyReads g old new ending → WasRead g old front directory → WasRead g new front directory
still_read g old new ending front directory reads was = record {
  len = was.len;
  room = omega (arith, was.room, reads.size);
  together = was.together;
  is = λ told. subst (IsFront front directory) (sym (reads.kept told)) (was.is told);
}

-- what was counted and asked, by the answer of a restore
module _ {B : Type 0} (g : Ghosts B) (old new : B) where
  pub restore_counted : (r : Result Unit RestoreFault) → LookCounted g old new (restore_ending r) → RestoreCounted g.faults g.stops old new r
  restore_counted (Ok x) counted = counted
  restore_counted (Err NoImage) counted = counted
  restore_counted (Err (Torn length kept found)) counted = counted
  restore_counted (Err Fault) counted = counted

  pub restore_asks : (calls : List BankCall) (r : Result Unit RestoreFault) → LookAsks g old new calls (restore_ending r) → Asks g.tells_calls g.calls old new (was_read r) calls
  restore_asks calls (Ok x) asks = asks
  restore_asks calls (Err NoImage) asks = asks
  restore_asks calls (Err (Torn length kept found)) asks = asks
  restore_asks calls (Err Fault) asks = asks
