use Rattle.std.proofs.Common.{◌≡◌, None, replicate, take, length}
use Rattle.cds_store.proofs.settling.forget_all.Given as goal

abbrev pub invariant-loop-slot : goal.invariant-loop-slot
invariant-loop-slot l = record {
  long : length l.slots.items ≡ length l.fn.slots.items;
  so_far : take l.slot l.slots.items ≡ replicate l.slot None;
}
