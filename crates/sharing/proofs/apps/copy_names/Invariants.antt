use Rattle.std.proofs.Common.{◌≡◌, length, take}
use Rattle.sharing.proofs.apps.copy_names.Given as goal

abbrev pub invariant-loop-place : goal.invariant-loop-place
invariant-loop-place l = record {
  len : length l.names ≡ length l.from;
  so_far : take l.place l.names ≡ take l.place l.from;
}
