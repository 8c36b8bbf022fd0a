use Rattle.std.proofs.Common.{◌≡◌, ◌++◌, drop}
use Rattle.cds_layout.specs.Images.{store_of}
use Rattle.cds_layout.specs.Looks.{AllRead, Looks}
use Rattle.cds_layout.specs.Order.{looked_to}
use Rattle.cds_layout.specs.Texts.{lines_from}
use Rattle.cds_layout.proofs.listing.put_slots.Given as goal

-- the lines so far and those of what is left are the lines of all
abbrev pub invariant-loop-slot : goal.invariant-loop-slot
invariant-loop-slot g l =
    let bank = g.B.Bank in
    let store = store_of (bank.now l.fn.bank) in
    record {
      text : bank.tells → l.out.list ++ lines_from l.slot (drop l.slot store) ≡ l.fn.out.list ++ lines_from 0 store;
      looks : Looks bank l.fn.bank l.bank (looked_to l.slot (bank.now l.fn.bank) l.front.directory) AllRead;
    }
