use Rattle.std.proofs.Common.{◌≡◌, [], replicate}
use Rattle.tbl_crew.proofs.scripts.Scripts.make.Given as goal

abbrev pub invariant-actors : goal.invariant-actors
invariant-actors l = l.scripts.items ≡ replicate l.counter []
