use Rattle.std.proofs.Common.{◌≡◌, ◌≤◌, length, sym, ap, ◌∙◌, arith}
use Rattle.std.proofs.lemmas.List.{take_all}
use Rattle.cds_layout.specs.Directory.{directory_to}
use Rattle.cds_layout.proofs.directory.read_entries.Goals as goal

pub returns : goal.returns
returns c = λ count e.
    let blocks = c.loop-slot.blocks in
    let all : length blocks ≤ c.loop-slot.slot = omega arith in
    let end : c.loop-slot.slot ≡ count = omega (arith, e) in
    sym (take_all c.loop-slot.slot blocks all) ∙ c.loop-slot.invariant ∙ ap (directory_to c.args.bytes.now) end
