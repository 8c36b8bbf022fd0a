-- The records of the places before this one are there.
use Rattle.std.proofs.Common.{◌≡◌, take}
use Rattle.tbl_drill.specs.Drill.{opening}
use Rattle.tbl_drill.proofs.scripted.opened.Given as goal

abbrev pub invariant-loop-place : goal.invariant-loop-place
invariant-loop-place l = l.script ≡ take l.place opening
