use Rattle.std.proofs.Common.{rules, ◌≡◌, ◌≤◌, Bool, false, Some, is_err, slice_set, sym, ◌∙◌, subst, arith}
use Rattle.tbl_kinds.specs.Places.{bank_size}
use Rattle.tbl_outside.proofs.Moments.{leaves_among}
use Rattle.cds_store.specs.StoreBlocks.{StandsFor, kept, with_new}
use Rattle.tbl_kinds.specs.Blocks.{Store as Blocks}
use Rattle.cds_store.proofs.NewBlocks.{on_done, on_error, open_when_done, made_shows, made_for, made_sound}
use Rattle.cds_store.proofs.making.open_gate.Goals as goal

pub returns-clause-alters : goal.returns-clause-alters
returns-clause-alters g c =
    let b = g.B.Bank in
    let slots = c.args.slots.now.items in
    let writes = c.set_gate-written.ensures.writes in
    let room : bank_size ≤ b.size c.set_gate-written.new.bank = omega (arith, c.requires.sound.room, writes.steady.size_kept) in
    let is_open = λ (told : b.tells) (sure : c.is_err.result ≡ false). open_when_done c.set_gate-written.result (b.now c.set_gate-written.new.bank) c.args.slot c.set_gate-written.ensures.done told (sym c.is_err.ensures.value ∙ sure) in
    let new = slice_set slots c.args.slot (Some (record { block = c.args.block; doubtful = c.is_err.result })) in
    let Makes = λ (doubtful : Bool). (blocks : Blocks) → StandsFor b.tells b.now (kept slots c.args.bank.now) blocks → StandsFor b.tells b.now (kept new c.set_gate-written.new.bank) (with_new doubtful c.args.slot c.args.block blocks) in
    let made : Makes (is_err c.set_gate-written.result) =
    subst Makes c.is_err.ensures.value
    (made_for b.tells b.size b.now slots c.args.bank.now c.requires.sound c.args.slot c.args.block c.requires.new c.requires.entry c.requires.none c.set_gate-written.new.bank c.is_err.result room writes.torn is_open) in
    record {
      sound = made_sound b.tells b.size b.now slots c.args.bank.now c.requires.sound c.args.slot c.args.block c.requires.new c.requires.entry c.requires.none c.set_gate-written.new.bank c.is_err.result room writes.torn is_open;
      ok = on_done c.set_gate-written.result Makes made;
      err = on_error c.set_gate-written.result Makes made;
      moments = λ m blocks stands.
          leaves_among (writes.moments m)
          (made_shows b.tells b.size b.now slots c.args.bank.now c.requires.sound c.args.slot c.args.block c.requires.new c.requires.entry c.requires.none (g.met.B.Bank.tells_both m) blocks stands);
      steady = search rules;
      counted = search rules;
    }
