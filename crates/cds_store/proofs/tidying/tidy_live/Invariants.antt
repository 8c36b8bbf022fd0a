use Rattle.std.proofs.Common.{true}
use Rattle.tbl_outside.specs.BankCalls.{Asks}
use Rattle.tbl_outside.specs.Counts.{Still}
use Rattle.cds_layout.specs.Order.{strays_to}
use Rattle.tbl_outside.specs.Bank.{LeavesOnly}
use Rattle.cds_store.specs.Boots.{SameStore, Tidied}
use Rattle.cds_store.specs.Calls.{Steady}
use Rattle.cds_store.proofs.tidying.tidy_live.Given as goal

abbrev pub invariant-loop-slot : goal.invariant-loop-slot
invariant-loop-slot g l =
    let b = g.B.Bank in
    record {
      tidied : b.tells → Tidied (b.now l.fn.bank) (b.now l.bank) l.slot;
      steady : Steady b.size b.faults b.stops l.fn.bank l.bank;
      still : Still b.faults b.stops l.fn.bank l.bank;
      bank_calls : b.tells → Asks b.tells_calls b.calls l.fn.bank l.bank true (strays_to l.slot l.front l.directory);
      moments : b.tells_moments → LeavesOnly b.clock b.left_since l.fn.bank l.bank (SameStore (b.now l.fn.bank));
    }
