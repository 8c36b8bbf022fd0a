use Rattle.std.proofs.Common.{rules, sym, subst, arith, false}
use Rattle.tbl_outside.specs.BankCalls.{Asks}
use Rattle.tbl_outside.proofs.Moments.{started, goes_on}
use Rattle.cds_layout.specs.Entries.{slot_count}
use Rattle.cds_layout.specs.Order.{close_stray, strays_to}
use Rattle.cds_store.specs.Boots.{SameStore}
use Rattle.cds_layout.proofs.SlotCalls.{asks_no_slot, asks_next_slot, asks_to_slot}
use Rattle.cds_store.proofs.Strays.{same_store}
use Rattle.cds_store.proofs.tidying.tidy_live.Goals as goal

pub loop-slot-init : goal.loop-slot-init
loop-slot-init g c =
    let b = g.B.Bank in
    record {
      tidied = search rules;
      steady = search rules;
      still = search rules;
      bank_calls = λ told. asks_no_slot b.tells_calls b.calls (close_stray c.args.front.now c.args.directory.now) c.args.bank.now;
      moments = λ told. started b.clock b.left_since c.args.bank.now (SameStore (b.now c.args.bank.now)) (λ image left. subst (SameStore (b.now c.args.bank.now)) (sym (g.met.B.Bank.leaves_only_now c.args.bank.now image told (g.met.B.Bank.only_now c.args.bank.now image told left))) (same_store (b.now c.args.bank.now)));
    }

pub loop-slot-preserved : goal.loop-slot-preserved
loop-slot-preserved g c =
    let b = g.B.Bank in
    let so_far = c.loop-slot.invariant in
    let step = c.in_ok-tidy_slot.ensures.changes (b.now c.args.bank.now) c.requires.front.is so_far.tidied in
    record {
      tidied = step.done;
      steady = search rules;
      still = search rules;
      bank_calls = λ told. asks_next_slot b.tells_calls b.calls (close_stray c.args.front.now c.args.directory.now) c.args.bank.now c.loop-slot.bank c.tidy_slot.new.bank c.loop-slot.slot (so_far.bank_calls told) (step.bank_calls told);
      moments = λ m. goes_on (so_far.moments m) (step.moments m) (λ image same. same);
    }

pub returns-in_err-tidy_slot : goal.returns-in_err-tidy_slot
returns-in_err-tidy_slot g c =
    let b = g.B.Bank in
    let so_far = c.loop-slot.invariant in
    let step = c.in_err-tidy_slot.ensures.changes (b.now c.args.bank.now) c.requires.front.is so_far.tidied in
    record {
      keeps = search rules;
      changes = record {
        done = search rules;
        left = step.left;
        moments = λ m. goes_on (so_far.moments m) (step.moments m) (λ image same. same);
        bank_calls = λ told.
            let broke : Asks b.tells_calls b.calls c.args.bank.now c.tidy_slot.new.bank false (strays_to slot_count c.args.front.now c.args.directory.now) =
            asks_to_slot b.tells_calls b.calls (close_stray c.args.front.now c.args.directory.now) c.args.bank.now c.loop-slot.bank c.tidy_slot.new.bank c.loop-slot.slot slot_count (omega arith) (so_far.bank_calls told) (step.bank_calls told) in
            search rules;
      };
    }
