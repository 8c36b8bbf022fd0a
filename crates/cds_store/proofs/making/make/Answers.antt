use Rattle.std.proofs.Common.{rules, inl, inr, ◌≤◌, Bool, false, IfErr, sym, subst, arith}
use Rattle.std.proofs.lemmas.Result.{on_ok_weaker, IfErr-weaker}
use Rattle.tbl_kinds.specs.Places.{bank_size}
use Rattle.tbl_kinds.specs.Blocks.{Store as Blocks}
use Rattle.tbl_outside.proofs.Moments.{goes_on, leaves_among}
use Rattle.cds_layout.specs.Entries.{entry_tail}
use Rattle.cds_store.specs.Calls.{HasFlags}
use Rattle.cds_store.specs.StoreBlocks.{StandsFor, kept, made_or_not}
use Rattle.cds_store.proofs.NewBlocks.{torn_tail, on_gate_fault, prepared_shows, prepared_sound, prepared_for}
use Rattle.cds_store.proofs.making.make.Goals as goal

pub open_gate-requires-clause-sound : goal.open_gate-requires-clause-sound
open_gate-requires-clause-sound g c =
    let b = g.B.Bank in
    let room : bank_size ≤ b.size c.write_entry.new.bank = omega (arith, c.requires.sound.room, c.write_entry.ensures.writes.steady.size_kept) in
    let torn = λ (told : b.tells). torn_tail c.args.slot (entry_tail c.args.block) c.write_entry.ensures.len (c.write_entry.ensures.writes.torn told) in
    prepared_sound b.tells b.size b.now c.args.slots.now.items c.args.bank.now c.requires.sound c.args.slot c.args.block c.requires.new c.write_entry.new.bank room torn

pub returns-in_err-write_entry-clause-alters : goal.returns-in_err-write_entry-clause-alters
returns-in_err-write_entry-clause-alters g c =
    let b = g.B.Bank in
    let slots = c.args.slots.now.items in
    let writes = c.write_entry.ensures.writes in
    let room : bank_size ≤ b.size c.write_entry.new.bank = omega (arith, c.requires.sound.room, writes.steady.size_kept) in
    let torn = λ (told : b.tells). torn_tail c.args.slot (entry_tail c.args.block) c.write_entry.ensures.len (writes.torn told) in
    let flags : IfErr c.from_residual.result (HasFlags false false) = search rules in
    record {
      sound = prepared_sound b.tells b.size b.now slots c.args.bank.now c.requires.sound c.args.slot c.args.block c.requires.new c.write_entry.new.bank room torn;
      ok = search rules;
      err =
          IfErr-weaker c.from_residual.result (HasFlags false false) _
          (λ fault has blocks stands.
          subst (λ (gate : Bool). StandsFor b.tells b.now (kept slots c.write_entry.new.bank) (made_or_not gate c.args.slot c.args.block blocks)) (sym has.gate_is)
          (prepared_for b.tells b.size b.now slots c.args.bank.now c.requires.sound c.args.slot c.args.block c.requires.new c.write_entry.new.bank room torn blocks stands))
          flags;
      moments = λ m blocks stands.
          leaves_among (writes.moments m)
          (λ image prepares. inl (prepared_shows b.tells b.size b.now slots c.args.bank.now c.requires.sound c.args.slot c.args.block c.requires.new (g.met.B.Bank.tells_both m) blocks stands image (torn_tail c.args.slot (entry_tail c.args.block) c.write_entry.ensures.len prepares)));
      steady = search rules;
      counted = search rules;
    }

pub returns-clause-alters : goal.returns-clause-alters
returns-clause-alters g c =
    let b = g.B.Bank in
    let slots = c.args.slots.now.items in
    let writes = c.write_entry.ensures.writes in
    let opens = c.open_gate.ensures.alters in
    let room : bank_size ≤ b.size c.write_entry.new.bank = omega (arith, c.requires.sound.room, writes.steady.size_kept) in
    let prepared = prepared_for b.tells b.size b.now slots c.args.bank.now c.requires.sound c.args.slot c.args.block c.requires.new c.write_entry.new.bank room (λ told. torn_tail c.args.slot (entry_tail c.args.block) c.write_entry.ensures.len (writes.torn told)) in
    record {
      sound = opens.sound;
      ok = on_ok_weaker c.open_gate.result (λ made blocks stands. made blocks (prepared blocks stands)) opens.ok;
      err =
          on_gate_fault c.open_gate.result false _
          (λ (gate : Bool). (blocks : Blocks) → StandsFor b.tells b.now (kept slots c.args.bank.now) blocks → StandsFor b.tells b.now (kept c.open_gate.new.slots.items c.open_gate.new.bank) (made_or_not gate c.args.slot c.args.block blocks))
          (λ made blocks stands. made blocks (prepared blocks stands))
          opens.err c.open_gate.ensures.flags;
      moments = λ m blocks stands.
          goes_on
          (leaves_among (writes.moments m)
          (λ image prepares. inl (prepared_shows b.tells b.size b.now slots c.args.bank.now c.requires.sound c.args.slot c.args.block c.requires.new (g.met.B.Bank.tells_both m) blocks stands image (torn_tail c.args.slot (entry_tail c.args.block) c.write_entry.ensures.len prepares))))
          (opens.moments m blocks (prepared blocks stands))
          (λ image shows. inr shows);
      steady = search rules;
      counted = search rules;
    }
