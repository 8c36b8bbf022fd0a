use Rattle.std.proofs.Common.{rules, subst, arith, ap, ◌∙◌, List, Option, None, slice_index_or, true, false}
use Rattle.tbl_kinds.specs.declared.block.Block.{Block}
use Rattle.tbl_outside.specs.BankCalls.{Asks}
use Rattle.tbl_outside.proofs.Moments.{goes_on}
use Rattle.cds_layout.specs.Directory.{directory_of}
use Rattle.cds_layout.specs.Entries.{slot_count}
use Rattle.cds_layout.specs.Order.{carry_at, carried_to}
use Rattle.cds_store.specs.Boots.{SameStore}
use Rattle.cds_layout.proofs.SlotCalls.{asks_no_slot, asks_next_slot, asks_to_slot}
use Rattle.cds_store.proofs.CarriedOver.{carry_alike}
use Rattle.cds_store.proofs.Strays.{unmoved}
use Rattle.cds_store.proofs.carrying.carry_blocks.Goals as goal

pub loop-slot-init : goal.loop-slot-init
loop-slot-init g c =
    let b = g.B.Bank in
    record {
      carried = λ old dir carried. carried;
      steady = search rules;
      still = search rules;
      bank_calls = λ old dir carried told. asks_no_slot b.tells_calls b.calls (λ n. carry_at old n (slice_index_or (directory_of old) n None)) c.args.bank.now;
      moments = λ old dir carried m. unmoved b c.args.bank.now (SameStore old) (λ image left. g.met.B.Bank.leaves_only_now c.args.bank.now image m (g.met.B.Bank.only_now c.args.bank.now image m left)) (carried (g.met.B.Bank.tells_both m)).same;
    }

pub loop-slot-preserved : goal.loop-slot-preserved
loop-slot-preserved g c =
    let b = g.B.Bank in
    let so_far = c.loop-slot.invariant in
    let slot = c.loop-slot.slot in
    let step = c.in_ok-carry_slot.ensures.changes in
    record {
      carried = λ old dir carried. (step old dir (so_far.carried old dir carried)).done;
      steady = search rules;
      still = search rules;
      bank_calls = λ old dir carried told.
          let now_carried = so_far.carried old dir carried told in
          asks_next_slot b.tells_calls b.calls (λ n. carry_at old n (slice_index_or (directory_of old) n None)) c.args.bank.now c.loop-slot.bank c.carry_slot.new.bank slot (so_far.bank_calls old dir carried told)
          (subst (Asks b.tells_calls b.calls c.loop-slot.bank c.carry_slot.new.bank true)
          (ap (λ (l : List (Option Block)). carry_at (b.now c.loop-slot.bank) slot (slice_index_or l slot None)) (dir told) ∙ carry_alike old (b.now c.loop-slot.bank) slot now_carried.first now_carried)
          ((step old dir (so_far.carried old dir carried)).bank_calls told));
      moments = λ old dir carried m. goes_on (so_far.moments old dir carried m) ((step old dir (so_far.carried old dir carried)).moments m) (λ image same. same);
    }

pub returns-in_err-carry_slot-clause-changes : goal.returns-in_err-carry_slot-clause-changes
returns-in_err-carry_slot-clause-changes g c old dir carried =
    let b = g.B.Bank in
    let so_far = c.loop-slot.invariant in
    let slot = c.loop-slot.slot in
    let step = c.in_err-carry_slot.ensures.changes old dir (so_far.carried old dir carried) in
    record {
      done = search rules;
      left = step.left;
      moments = λ m. goes_on (so_far.moments old dir carried m) (step.moments m) (λ image same. same);
      bank_calls = λ told.
          let now_carried = so_far.carried old dir carried told in
          let broke : Asks b.tells_calls b.calls c.args.bank.now c.carry_slot.new.bank false (carried_to slot_count old (directory_of old)) =
          asks_to_slot b.tells_calls b.calls (λ n. carry_at old n (slice_index_or (directory_of old) n None)) c.args.bank.now c.loop-slot.bank c.carry_slot.new.bank slot slot_count (omega arith) (so_far.bank_calls old dir carried told)
          (subst (Asks b.tells_calls b.calls c.loop-slot.bank c.carry_slot.new.bank false)
          (ap (λ (l : List (Option Block)). carry_at (b.now c.loop-slot.bank) slot (slice_index_or l slot None)) (dir told) ∙ carry_alike old (b.now c.loop-slot.bank) slot now_carried.first now_carried)
          (step.bank_calls told)) in
          search rules;
    }
