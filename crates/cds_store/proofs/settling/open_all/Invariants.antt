use Rattle.std.proofs.Common.{◌≡◌, take, map, length}
use Rattle.std.specs.Option.{option_map}
use Rattle.cds_layout.specs.Entries.{slot_count}
use Rattle.cds_store.specs.Boots.{opened_slot}
use Rattle.cds_store.proofs.settling.open_all.Given as goal

abbrev pub invariant-loop-slot : goal.invariant-loop-slot
invariant-loop-slot l = record {
  long : length l.slots.items ≡ slot_count;
  so_far : take l.slot l.slots.items ≡ map (option_map opened_slot) (take l.slot l.directory);
}
