use Rattle.std.proofs.Common.{◌≡◌, take}
use Rattle.file_drawer.proofs.drawer.copying.copy_all.Given as goal

abbrev pub invariant-loop-entry : goal.invariant-loop-entry
invariant-loop-entry l = l.copies.items ≡ take l.entry-index l.entries
