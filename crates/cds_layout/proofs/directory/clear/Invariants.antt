use Rattle.std.proofs.Common.{◌≡◌, None, replicate, take}
use Rattle.cds_layout.proofs.directory.clear.Given as goal

abbrev pub invariant-loop-place : goal.invariant-loop-place
invariant-loop-place l = take l.place-index l.blocks ≡ replicate l.place-index None
