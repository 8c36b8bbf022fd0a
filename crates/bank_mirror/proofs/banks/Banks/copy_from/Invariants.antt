use Rattle.std.proofs.Common.{◌-◌, ◌≤◌}
use Rattle.bank_mirror.specs.Copies.{SameUpTo, Copies}
use Rattle.bank_mirror.proofs.banks.Banks.copy_from.Given as goal

-- what is before this place is copied
abbrev pub invariant-loop-at : goal.invariant-loop-at
invariant-loop-at g l =
    record {
      within : l.at ≤ l.size;
      copied : SameUpTo g.A.Bank g.B.Bank l.at l.self;
      copies : Copies g.A.Bank g.B.Bank l.fn.good l.fn.self l.self;
    }

abbrev pub decreases-loop-at : goal.decreases-loop-at
decreases-loop-at g l = l.size - l.at
