use Rattle.std.proofs.Common.{rules, ◌≡◌, ◌≤◌, [], length, ◌∙◌, ap, arith}
use Rattle.std.proofs.lemmas.Result.{IfOk-weaker}
use Rattle.tbl_kinds.specs.Places.{bank_size}
use Rattle.tbl_outside.proofs.Moments.{leaves_among}
use Rattle.cds_store.specs.Boots.{found_open}
use Rattle.cds_store.proofs.Settled.{found_shown}
use Rattle.cds_store.proofs.Booted.{on_ok_two, if_ok_two, processor_sound, processor_stands, processor_leaves, power_on_sound, power_on_stands, power_on_leaves}
use Rattle.cds_store.proofs.boot.boot_as.Goals as goal

pub returns-in-Processor-clause-sound : goal.returns-in-Processor-clause-sound
returns-in-Processor-clause-sound g c =
    let b = g.B.Bank in
    let room : bank_size ≤ b.size c.boot_processor.new.bank = omega (arith, c.requires.front.room, c.boot_processor.ensures.step.keeps.steady.size_kept) in
    on_ok_two c.boot_processor.result
    (λ slots tidy. processor_sound b.tells b.size b.now c.args.slots.now.items c.args.bank.now c.boot_processor.new.slots.items c.boot_processor.new.bank c.args.directory.now (λ told. (c.requires.front.is told).told) slots tidy c.requires.front.together room)
    c.boot_processor.ensures.slots.slots c.boot_processor.ensures.step.changes.done

pub returns-in-Processor-clause-boots : goal.returns-in-Processor-clause-boots
returns-in-Processor-clause-boots g c =
    let b = g.B.Bank in
    record {
      ok =
          rw c.in-Processor.is
          (if_ok_two (λ found. found ≡ found_open c.args.slots.now.items c.args.directory.now) _ c.boot_processor.result
          (λ found is slots tidy. processor_stands b.tells b.size b.now c.args.slots.now.items c.args.bank.now c.boot_processor.new.slots.items c.boot_processor.new.bank c.args.directory.now (λ told. (c.requires.front.is told).told) slots tidy found is)
          c.boot_processor.ensures.slots.found c.boot_processor.ensures.slots.slots c.boot_processor.ensures.step.changes.done);
      found =
          rw c.in-Processor.is
          (IfOk-weaker c.boot_processor.result (λ found. found ≡ found_open c.args.slots.now.items c.args.directory.now) _
          (λ found is told. is ∙ ap (found_open c.args.slots.now.items) (c.requires.front.is told).told ∙ found_shown c.args.slots.now.items (b.now c.args.bank.now))
          c.boot_processor.ensures.slots.found);
      left = λ told blocks begins.
          rw c.in-Processor.is
          (processor_leaves b.tells b.size b.now c.args.slots.now.items c.args.bank.now told blocks begins (b.now c.boot_processor.new.bank) (c.boot_processor.ensures.step.changes.left told));
      moments = λ told blocks begins.
          rw c.in-Processor.is
          (leaves_among (c.boot_processor.ensures.step.changes.moments told) (processor_leaves b.tells b.size b.now c.args.slots.now.items c.args.bank.now (g.met.B.Bank.tells_both told) blocks begins));
      steady = search rules;
      counted = search rules;
      bank_calls = search rules;
      not_old = search rules;
    }

pub returns-in-PowerOn-clause-sound : goal.returns-in-PowerOn-clause-sound
returns-in-PowerOn-clause-sound g c =
    let b = g.B.Bank in
    let room : bank_size ≤ b.size c.boot_power_on.new.bank = omega (arith, c.requires.front.room, c.boot_power_on.ensures.step.keeps.steady.size_kept) in
    on_ok_two c.boot_power_on.result
    (λ slots cleared. power_on_sound b.tells b.size b.now c.args.slots.now.items c.args.bank.now c.boot_power_on.new.slots.items c.boot_power_on.new.bank (length c.args.slots.now.items) c.requires.slots slots cleared room)
    c.boot_power_on.ensures.slots.slots c.boot_power_on.ensures.step.changes.done

pub returns-in-PowerOn-clause-boots : goal.returns-in-PowerOn-clause-boots
returns-in-PowerOn-clause-boots g c =
    let b = g.B.Bank in
    record {
      ok =
          rw c.in-PowerOn.is
          (if_ok_two (λ found. found ≡ []) _ c.boot_power_on.result
          (λ found is slots cleared told blocks begins. power_on_stands b.tells b.size b.now c.args.slots.now.items c.args.bank.now c.boot_power_on.new.slots.items c.boot_power_on.new.bank (length c.args.slots.now.items) c.requires.slots slots cleared found told blocks)
          c.boot_power_on.ensures.slots.found c.boot_power_on.ensures.slots.slots c.boot_power_on.ensures.step.changes.done);
      found = search rules;
      left = λ told blocks begins.
          rw c.in-PowerOn.is
          (power_on_leaves b.tells b.size b.now c.args.slots.now.items c.args.bank.now told blocks begins (b.now c.boot_power_on.new.bank) (c.boot_power_on.ensures.step.changes.left told));
      moments = λ told blocks begins.
          rw c.in-PowerOn.is
          (leaves_among (c.boot_power_on.ensures.step.changes.moments told) (power_on_leaves b.tells b.size b.now c.args.slots.now.items c.args.bank.now (g.met.B.Bank.tells_both told) blocks begins));
      steady = search rules;
      counted = search rules;
      bank_calls = search rules;
      not_old = search rules;
    }
