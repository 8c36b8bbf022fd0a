use Rattle.std.proofs.Common.{◌≡◌, ◌-◌, ◌≤◌, length, take}
use Rattle.tbl_kinds.specs.Numbers.{piece}
use Rattle.tbl_adapters.proofs.moving.read_all.Given as goal

abbrev pub decreases-pieces : goal.decreases-pieces
decreases-pieces g l = length l.initial.into - l.done

abbrev pub invariant-pieces : goal.invariant-pieces
invariant-pieces g l = record {
  within : l.done ≤ length l.into;
  kept : g.F.RandomAccess.tells → g.F.RandomAccess.content l.file ≡ g.F.RandomAccess.content l.fn.file;
  read : g.F.RandomAccess.tells → take l.done l.into ≡ piece l.at l.done (g.F.RandomAccess.content l.fn.file);
}
