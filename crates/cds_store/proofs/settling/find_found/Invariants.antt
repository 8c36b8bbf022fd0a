use Rattle.std.proofs.Common.{◌≡◌}
use Rattle.cds_store.specs.Boots.{is_found, found_to}
use Rattle.cds_store.proofs.settling.find_found.Given as goal

abbrev pub invariant-loop-slot : goal.invariant-loop-slot
invariant-loop-slot l = l.found ≡ found_to l.slot (is_found l.slots l.directory)
