use Rattle.tbl_crew.proofs.HistoryLemmas.{nothing_asked, nothing_played}
use Rattle.tbl_crew.proofs.workers.unplayed.Goals as goal

pub returns-then-is_empty-clause-history : goal.returns-then-is_empty-clause-history
returns-then-is_empty-clause-history g c o serves =
    nothing_asked g.B.Bank g.C.Validator.verdict o c.args.scripts.now c.args.core serves c.requires.empty c.requires.live c.if-is_empty.ensures

pub returns-else-is_empty-clause-history : goal.returns-else-is_empty-clause-history
returns-else-is_empty-clause-history g c o serves =
    nothing_played g.B.Bank g.C.Validator.verdict o c.args.scripts.now c.args.core serves c.requires.empty c.requires.live c.if-is_empty.ensures
