use Rattle.std.proofs.Common.{rules, ◌≤◌, ◌==◌, ◌∙◌, ap, sym, List, Option, slice_set, arith, subst}
use Rattle.std.specs.Option.{option_map}
use Rattle.tbl_kinds.specs.Places.{bank_size}
use Rattle.tbl_kinds.specs.StoreSteps.{delete_broken}
use Rattle.tbl_outside.proofs.Moments.{leaves_among}
use Rattle.cds_layout.specs.Entries.{gate_open}
use Rattle.cds_store.specs.Sound.{slot_at, IsSound}
use Rattle.cds_store.specs.StoreBlocks.{StandsFor, kept, doubted}
use Rattle.cds_store.specs.declared.slot.Slot.{Slot}
use Rattle.cds_store.proofs.Alone.{alone}
use Rattle.cds_store.proofs.Closing.{some_there, delete_leaves, doubted_for, doubted_sound, closed_for, closed_sound}
use Rattle.cds_store.proofs.gates.close.Goals as goal

pub returns-in-Ok : goal.returns-in-Ok
returns-in-Ok g c =
    let b = g.B.Bank in
    let s = some_there (slot_at c.args.slots.now.items c.args.slot) c.requires.taken in
    let room : bank_size ≤ b.size c.set_gate.new.bank = omega (arith, c.requires.sound.room, c.set_gate.ensures.writes.steady.size_kept) in
    record {
      sound = closed_sound b.tells b.size b.now c.args.slots.now.items c.args.bank.now c.requires.sound c.args.slot s.0 s.1 c.set_gate.new.bank room c.set_gate.ensures.writes.torn (λ told. ap (λ g. g == gate_open) (c.in-Ok.ensures.done told));
      deletes = record {
        booted = search rules;
        freed = search rules;
        alone = λ kind name found. alone c.args.slots.now.items kind name c.args.slot c.requires.sound.together found;
        ok = closed_for b.tells b.size b.now c.args.slots.now.items c.args.bank.now c.requires.sound c.args.slot s.0 s.1 c.set_gate.new.bank room c.set_gate.ensures.writes.torn (λ told. ap (λ g. g == gate_open) (c.in-Ok.ensures.done told));
        err = search rules;
        moments = λ told blocks stands. leaves_among (c.set_gate.ensures.writes.moments told) (delete_leaves b.tells b.size b.now c.args.slots.now.items c.args.bank.now c.requires.sound c.args.slot s.0 s.1 (g.met.B.Bank.tells_both told) blocks stands);
        steady = search rules;
        counted = search rules;
        bank_calls = search rules;
        flags = search rules;
      };
    }

pub returns-in-Err : goal.returns-in-Err
returns-in-Err g c =
    let b = g.B.Bank in
    let s = some_there (slot_at c.args.slots.now.items c.args.slot) c.requires.taken in
    let room : bank_size ≤ b.size c.set_gate.new.bank = omega (arith, c.requires.sound.room, c.set_gate.ensures.writes.steady.size_kept) in
    record {
      sound = subst (λ (l : List (Option Slot)). IsSound b.tells b.size b.now (kept l c.set_gate.new.bank)) (ap (λ o. slice_set c.args.slots.now.items c.args.slot (option_map doubted o)) (sym s.1) ∙ sym c.doubt.ensures)
          (doubted_sound b.tells b.size b.now c.args.slots.now.items c.args.bank.now c.requires.sound c.args.slot s.0 s.1 c.set_gate.new.bank room c.set_gate.ensures.writes.torn);
      deletes = record {
        booted = search rules;
        freed = search rules;
        alone = search rules;
        ok = search rules;
        err = λ blocks stands.
            subst (λ (l : List (Option Slot)). StandsFor b.tells b.now (kept l c.set_gate.new.bank) (delete_broken c.args.slot blocks)) (ap (λ o. slice_set c.args.slots.now.items c.args.slot (option_map doubted o)) (sym s.1) ∙ sym c.doubt.ensures)
            (doubted_for b.tells b.size b.now c.args.slots.now.items c.args.bank.now c.requires.sound c.args.slot s.0 s.1 c.set_gate.new.bank room c.set_gate.ensures.writes.torn blocks stands);
        moments = λ told blocks stands. leaves_among (c.set_gate.ensures.writes.moments told) (delete_leaves b.tells b.size b.now c.args.slots.now.items c.args.bank.now c.requires.sound c.args.slot s.0 s.1 (g.met.B.Bank.tells_both told) blocks stands);
        steady = search rules;
        counted = search rules;
        bank_calls = search rules;
        flags = search rules;
      };
    }
