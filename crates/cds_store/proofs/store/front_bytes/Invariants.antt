use Rattle.std.proofs.Common.{◌≡◌, length}
use Rattle.cds_store.proofs.store.front_bytes.Given as goal

abbrev pub invariant-loop : goal.invariant-loop
invariant-loop l = length l.front.items ≡ l.counter
