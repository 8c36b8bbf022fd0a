use Rattle.tbl_live.proofs.service.+deal.Given as goal

abbrev pub decreases-deal : goal.decreases-deal
decreases-deal g l = l.count
