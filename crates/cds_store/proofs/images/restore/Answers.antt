use Rattle.std.proofs.Common.{rules, ◌≡◌, ◌≤◌, Some, OnOk, length, refl, sym, subst, ◌∙◌, arith}
use Rattle.std.proofs.lemmas.Result.{on_ok_weaker, IfErr-weaker}
use Rattle.tbl_kinds.specs.Places.{bank_size}
use Rattle.cds_layout.specs.Images.{shown_in, held_in}
use Rattle.cds_layout.specs.Restores.{TellsTorn, was_read}
use Rattle.cds_layout.proofs.LookLemmas.{restore_counted, restore_asks}
use Rattle.cds_layout.proofs.Restored.{held-shown}
use Rattle.cds_store.proofs.Contents.{read_there, open_parts, shown_held, restored_for, fault_for, comes_back}
use Rattle.cds_store.proofs.Steps.{within_slots}
use Rattle.cds_layout.specs.Order.{restore_calls}
use Rattle.tbl_outside.specs.BankCalls.{Asks}
use Rattle.cds_store.specs.declared.slot.Slot.{Slot}
use Rattle.std.proofs.lemmas.Option.{same_Some}
use Rattle.cds_store.proofs.images.restore.Goals as goal

pub read_block-requires-clause-within : goal.read_block-requires-clause-within
read_block-requires-clause-within g c =
    let slots = c.args.slots.now in
    let taken = read_there (length c.args.into.now) slots c.args.slot c.index-slots-slot.result c.in-Some.taken c.requires.can c.index-slots-slot.is c.in-Some.is in
    within_slots slots c.args.slot c.in-Some.taken c.requires.sound.together taken

pub read_block-requires-clause-fits : goal.read_block-requires-clause-fits
read_block-requires-clause-fits g c =
    let slots = c.args.slots.now in
    let taken = read_there (length c.args.into.now) slots c.args.slot c.index-slots-slot.result c.in-Some.taken c.requires.can c.index-slots-slot.is c.in-Some.is in
    let parts = open_parts (length c.args.into.now) slots c.args.slot c.in-Some.taken c.requires.can taken in
    record { size = sym parts.1; right = c.requires.sound.together.right c.args.slot c.in-Some.taken taken; room = c.requires.sound.room }

pub read_block-requires-clause-version : goal.read_block-requires-clause-version
read_block-requires-clause-version g c told = (c.requires.sound.matches refl told).version

pub returns-clause-restores : goal.returns-clause-restores
returns-clause-restores g c =
    let b = g.B.Bank in
    let taken = read_there (length c.args.into.now) c.args.slots.now c.args.slot c.index-slots-slot.result c.in-Some.taken c.requires.can c.index-slots-slot.is c.in-Some.is in
    let parts = open_parts (length c.args.into.now) c.args.slots.now c.args.slot c.in-Some.taken c.requires.can taken in
    let old = b.now c.args.bank.now in
    let block = c.in-Some.taken.block in
    let held : OnOk c.read_block.result (b.tells → held_in old c.args.slot block ≡ Some c.read_block.new.into) =
    on_ok_weaker c.read_block.result (λ whole told. sym (held-shown old c.args.slot block (shown_in old c.args.slot) refl) ∙ whole told) c.read_block.ensures.tells.whole in
    let room : bank_size ≤ b.size c.read_block.new.bank = omega (arith, c.requires.sound.room, c.read_block.ensures.looks.reads.size) in
    record {
      booted = search rules;
      slots = search rules;
      image = on_ok_weaker c.read_block.result (λ whole told. shown_held b.tells b.size b.now g.met.B.Bank.whole c.args.slots.now c.args.bank.now c.requires.sound c.args.slot c.in-Some.taken taken told parts.0 ∙ whole told) held;
      ok = on_ok_weaker c.read_block.result (λ whole. restored_for b.tells b.size b.now g.met.B.Bank.whole c.args.slots.now c.args.bank.now c.requires.sound c.args.slot c.in-Some.taken taken c.read_block.new.bank room c.read_block.ensures.looks.reads.kept (Some c.read_block.new.into) whole) held;
      comes_back = comes_back b.tells b.now c.args.slots.now c.args.bank.now c.args.slot c.in-Some.taken taken c.read_block.new.into c.read_block.result held c.read_block.ensures.tells.torn;
      torn = search rules;
      why = search rules;
      err =
          IfErr-weaker c.read_block.result (λ fault. b.tells → TellsTorn (b.now c.args.bank.now) c.args.slot c.in-Some.taken.block fault) _
          (λ fault torn. fault_for b.tells b.size b.now g.met.B.Bank.whole c.args.slots.now c.args.bank.now c.requires.sound c.args.slot c.in-Some.taken taken c.read_block.new.bank room c.read_block.ensures.looks.reads.kept fault torn) c.read_block.ensures.tells.torn;
      bytes = search rules;
      moments = search rules;
      steady = search rules;
      counted = restore_counted b c.args.bank.now c.read_block.new.bank c.read_block.result c.read_block.ensures.looks.reads.counted;
      bank_calls = λ told s there.
          subst (λ (t : Slot). Asks b.tells_calls b.calls c.args.bank.now c.read_block.new.bank (was_read c.read_block.result) (restore_calls (b.now c.args.bank.now) c.args.slot t.block))
          (same_Some c.in-Some.taken s (sym taken ∙ there)) (restore_asks b c.args.bank.now c.read_block.new.bank _ c.read_block.result (c.read_block.ensures.looks.bank_calls told));
    }
