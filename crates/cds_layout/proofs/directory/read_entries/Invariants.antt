use Rattle.std.proofs.Common.{◌≡◌, take}
use Rattle.cds_layout.specs.Directory.{directory_to}
use Rattle.cds_layout.proofs.directory.read_entries.Given as goal

abbrev pub invariant-loop-slot : goal.invariant-loop-slot
invariant-loop-slot l = take l.slot l.blocks ≡ directory_to l.bytes l.slot
