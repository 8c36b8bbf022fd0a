use Rattle.std.proofs.Common.{◌<◌, length, arith}
use Rattle.std.proofs.lemmas.List.{get_or_default}
use Rattle.std.proofs.lemmas.List.Edits.{map_over_more}
use Rattle.validation.specs.Kits.{unless_of}
use Rattle.validation.proofs.kit.Kit.drop_app.Goals as goal

pub loop-entry-preserved : goal.loop-entry-preserved
loop-entry-preserved g c =
    let within : c.loop-entry.entry-index < length c.deref_mut-entry-items.result.now = omega arith in
    let there : c.loop-entry.entry-index < length c.loop-entry.entry-items = omega arith in
    rw c.drop_of.ensures
    (map_over_more (unless_of c.args.app) c.deref_mut-entry-items.result.now c.loop-entry.entry-items c.loop-entry.entry-index _ within c.loop-entry.invariant
    (get_or_default c.loop-entry.entry-items c.loop-entry.entry-index _ _ there))
