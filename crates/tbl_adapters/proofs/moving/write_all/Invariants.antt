use Rattle.std.proofs.Common.{◌≡◌, ◌-◌, ◌≤◌, length, take}
use Rattle.tbl_adapters.specs.Files.{written}
use Rattle.tbl_adapters.proofs.moving.write_all.Given as goal

abbrev pub decreases-pieces : goal.decreases-pieces
decreases-pieces g l = length l.bytes - l.done

abbrev pub invariant-pieces : goal.invariant-pieces
invariant-pieces g l = record {
  within : l.done ≤ length l.bytes;
  written : g.F.RandomAccess.tells → g.F.RandomAccess.content l.file ≡ written (g.F.RandomAccess.content l.fn.file) l.at (take l.done l.bytes);
}
