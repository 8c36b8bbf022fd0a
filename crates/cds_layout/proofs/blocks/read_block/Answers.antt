use Rattle.std.proofs.Common.{Option, ◌++◌, sym, ◌∙◌, ap}
use Rattle.cds_layout.specs.Looks.{restore_ending}
use Rattle.cds_layout.specs.Order.{turn_calls, place_calls, restore_calls}
use Rattle.cds_layout.specs.declared.turns.Place.{Place}
use Rattle.cds_layout.proofs.LookLemmas.{looks_on, looks_same}
use Rattle.cds_layout.proofs.Restored.{shown-turned, shown-turns, tells_alike}
use Rattle.cds_layout.proofs.blocks.read_block.Goals as goal

pub returns-in-Ok-clause-tells : goal.returns-in-Ok-clause-tells
returns-in-Ok-clause-tells g c =
    let old = g.B.Bank.now c.args.bank.now in
    tells_alike g.B.Bank c.read_turns.new.bank c.args.bank.now c.args.block.now c.shown.result _ c.read_shown.new.into c.read_shown.result
    (λ told. shown-turns old c.args.slot c.in-Ok.turns c.shown.result (c.in-Ok.ensures.turns told) c.shown.ensures ∙ sym (shown-turned old c.args.slot (c.requires.version told)))
    c.read_turns.ensures.reads.kept c.read_shown.ensures.tells

pub returns-in-Ok-clause-looks : goal.returns-in-Ok-clause-looks
returns-in-Ok-clause-looks g c =
    let b = g.B.Bank in
    let old = b.now c.args.bank.now in
    let slot = c.args.slot in
    let block = c.args.block.now in
    let ending = restore_ending c.read_shown.result in
    looks_same b c.args.bank.now c.read_shown.new.bank (turn_calls slot ++ place_calls block c.shown.result) (restore_calls old slot block) ending
    (λ told. ap (λ (shown : Option Place). turn_calls slot ++ place_calls block shown) (shown-turns old slot c.in-Ok.turns c.shown.result (c.in-Ok.ensures.turns told) c.shown.ensures))
    (looks_on b g.met.B.Bank.tells_both c.args.bank.now c.read_turns.new.bank c.read_shown.new.bank (turn_calls slot) (place_calls block c.shown.result) ending
    (record { reads = c.in-Ok.ensures.reads; bank_calls = λ told. c.in-Ok.ensures.bank_calls }) c.read_shown.ensures.looks)
