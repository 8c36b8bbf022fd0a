use Rattle.std.proofs.Common.{◌≡◌, ℕ, List, true}
use Rattle.tbl_outside.specs.Bank.{LeavesOnly}
use Rattle.tbl_outside.specs.BankCalls.{Asks}
use Rattle.tbl_outside.specs.Counts.{Still}
use Rattle.cds_layout.specs.Directory.{directory_of}
use Rattle.cds_layout.specs.Order.{carried_to}
use Rattle.cds_store.specs.Boots.{SameStore, Carried}
use Rattle.cds_store.specs.Calls.{Steady}
use Rattle.cds_store.proofs.carrying.carry_blocks.Given as goal

abbrev pub invariant-loop-slot : goal.invariant-loop-slot
invariant-loop-slot g l =
    let b = g.B.Bank in
    record {
      carried : (old : List ℕ) → (b.tells → l.directory ≡ directory_of old) → (b.tells → Carried old (b.now l.fn.bank) 0) → b.tells → Carried old (b.now l.bank) l.slot;
      steady : Steady b.size b.faults b.stops l.fn.bank l.bank;
      still : Still b.faults b.stops l.fn.bank l.bank;
      bank_calls : (old : List ℕ) → (b.tells → l.directory ≡ directory_of old) → (b.tells → Carried old (b.now l.fn.bank) 0) → b.tells → Asks b.tells_calls b.calls l.fn.bank l.bank true (carried_to l.slot old (directory_of old));
      moments : (old : List ℕ) → (b.tells → l.directory ≡ directory_of old) → (b.tells → Carried old (b.now l.fn.bank) 0) → b.tells_moments → LeavesOnly b.clock b.left_since l.fn.bank l.bank (SameStore old);
    }
