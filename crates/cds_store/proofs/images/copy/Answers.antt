use Rattle.std.proofs.Common.{rules, ◌≡◌, false, ◌≤◌, length, is_ok, sym, ◌∙◌, subst, arith}
use Rattle.std.proofs.lemmas.Option.{same_Some}
use Rattle.std.proofs.lemmas.Result.{on_ok_weaker, IfErr-weaker}
use Rattle.tbl_kinds.specs.Places.{bank_size}
use Rattle.tbl_outside.specs.Bank.{LeavesOnly}
use Rattle.tbl_outside.specs.BankCalls.{Asks}
use Rattle.tbl_outside.proofs.Moments.{leaves_among}
use Rattle.cds_layout.specs.Images.{spelled}
use Rattle.cds_layout.specs.Order.{copy_calls}
use Rattle.cds_store.specs.Calls.{is_gate, is_old}
use Rattle.cds_store.specs.Moments.{CopyTears}
use Rattle.cds_store.specs.declared.slot.Slot.{Slot}
use Rattle.cds_store.proofs.Contents.{read_there, open_parts, copy_leaves, broken_for, broken_sound, copied_for, copied_sound, either_sound}
use Rattle.cds_store.proofs.Steps.{within_slots}
use Rattle.cds_store.proofs.images.copy.Goals as goal

pub write_image-requires-clause-can : goal.write_image-requires-clause-can
write_image-requires-clause-can g c =
    let slots = c.args.slots.now in
    let taken = read_there (length c.args.image.now) slots c.args.slot c.index-slots-slot.result c.in-Some.taken c.requires.can c.index-slots-slot.is c.in-Some.is in
    record { within = within_slots slots c.args.slot c.in-Some.taken c.requires.sound.together taken; right = c.requires.sound.together.right c.args.slot c.in-Some.taken taken; room = c.requires.sound.room }

pub returns : goal.returns
returns g c =
    let b = g.B.Bank in
    let slots = c.args.slots.now in
    let image = c.args.image.now in
    let writes = c.write_image.ensures.copies in
    let taken = read_there (length image) slots c.args.slot c.index-slots-slot.result c.in-Some.taken c.requires.can c.index-slots-slot.is c.in-Some.is in
    let parts = open_parts (length image) slots c.args.slot c.in-Some.taken c.requires.can taken in
    let room : bank_size ≤ b.size c.write_image.new.bank = omega (arith, c.requires.sound.room, writes.steady.size_kept) in
    record {
      sound =
          either_sound c.write_image.result
          (λ done. copied_sound b.tells b.size b.now g.met.B.Bank.whole slots c.args.bank.now c.requires.sound c.args.slot c.in-Some.taken taken image (sym parts.1) c.write_image.ensures.check c.write_image.new.bank room done)
          (λ fault torn. broken_sound b.tells b.size b.now g.met.B.Bank.whole slots c.args.bank.now c.requires.sound c.args.slot c.in-Some.taken taken image (sym parts.1) c.write_image.ensures.check c.write_image.new.bank room (is_gate fault) torn)
          writes.done writes.err;
      copies = record {
        booted = search rules;
        slots = search rules;
        ok = on_ok_weaker c.write_image.result (λ done. copied_for b.tells b.size b.now g.met.B.Bank.whole slots c.args.bank.now c.requires.sound c.args.slot c.in-Some.taken taken image (sym parts.1) c.write_image.ensures.check c.write_image.new.bank room done) writes.done;
        err = IfErr-weaker c.write_image.result _ _ (λ fault torn. broken_for b.tells b.size b.now g.met.B.Bank.whole slots c.args.bank.now c.requires.sound c.args.slot c.in-Some.taken taken image (sym parts.1) c.write_image.ensures.check c.write_image.new.bank room (is_gate fault) torn) writes.err;
        moments = λ m blocks stands. leaves_among (writes.moments m) (copy_leaves b.tells b.size b.now g.met.B.Bank.whole slots c.args.bank.now c.requires.sound c.args.slot c.in-Some.taken taken image (sym parts.1) c.write_image.ensures.check (g.met.B.Bank.tells_both m) blocks stands);
        bytewise = λ m s there.
            subst (λ (t : Slot). LeavesOnly b.clock b.left_since c.args.bank.now c.write_image.new.bank (CopyTears c.args.slot t.block (spelled t.block.size image) (b.now c.args.bank.now)))
            (same_Some c.in-Some.taken s (sym taken ∙ there)) (writes.moments m);
        steady = writes.steady;
        counted = writes.counted;
        bank_calls = λ told s there.
            subst (λ (t : Slot). Asks b.tells_calls b.calls c.args.bank.now c.write_image.new.bank (is_ok c.write_image.result) (copy_calls (b.now c.args.bank.now) c.args.slot t.block (spelled t.block.size image)))
            (same_Some c.in-Some.taken s (sym taken ∙ there)) (writes.bank_calls told);
        breaks = IfErr-weaker c.write_image.result (λ fault. is_old fault ≡ false) _ (λ fault new blocks. new) writes.flags;
      };
    }
