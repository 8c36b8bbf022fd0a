use Rattle.std.proofs.Common.{◌≡◌, drop}
use Rattle.tbl_kinds.specs.Places.{fits}
use Rattle.cds_pool.proofs.Least.{tried, searched}
use Rattle.cds_pool.proofs.pool.least_place.Given as goal

-- with what is left to try, the search ends as it would from the start
abbrev pub invariant-loop-block : goal.invariant-loop-block
invariant-loop-block l = tried (fits l.taken l.size) l.least (drop l.block-index l.taken) ≡ searched l.taken l.size
