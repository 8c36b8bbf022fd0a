use Rattle.std.proofs.Common.{Some, None, sym, rules, arith}
use Rattle.std.proofs.lemmas.Grind.{common_steps}
use Rattle.file_drawer.proofs.Putting.{there_after, last_after, undone_after}
use Rattle.file_drawer.proofs.drawer.Drawer.put.Goals as goal

pub returns-in-Some : goal.returns-in-Some
returns-in-Some c =
    let file = c.replace.ensures.file c.args.name.now c.in-Some.ensures.at in
    let replaced = sym (c.replace.ensures.replaced c.args.name.now c.in-Some.ensures.at) in
    let there = there_after c.args.self.now c.replace.new.self c.args.name.now c.args.contents file in
    let undone = undone_after c.args.self.now c.replace.new.self c.args.name.now c.args.contents file (Some c.replace.result) replaced in
    record { file = file; replaced = replaced; there = there; last = search rules; undone = undone; full = grind (arith, common_steps); memory = search rules; err = search rules }

pub returns-in-Ok : goal.returns-in-Ok
returns-in-Ok c =
    let file = c.in-Ok.ensures.file in
    let absent = sym c.in_default.ensures.absent in
    let there = there_after c.args.self.now c.add.new.self c.args.name.now c.args.contents file in
    let last = last_after c.args.self.now c.add.new.self c.args.name.now c.args.contents file None absent in
    let undone = undone_after c.args.self.now c.add.new.self c.args.name.now c.args.contents file None absent in
    record { file = file; replaced = absent; there = there; last = last; undone = undone; full = grind (arith, common_steps); memory = search rules; err = search rules }
