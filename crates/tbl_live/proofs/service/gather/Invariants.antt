use Rattle.std.proofs.Common.{◌∷◌, length}
use Rattle.tbl_live.proofs.SeatLemmas.{Gathered}
use Rattle.tbl_live.proofs.service.gather.Given as goal

abbrev pub invariant-apps : goal.invariant-apps
invariant-apps g l = Gathered l.lock.table.shared.table_id l.place (l.fn.ground ∷ l.apps.items) (l.fn.ground ∷ l.fn.apps.items)

abbrev pub decreases-apps : goal.decreases-apps
decreases-apps g l = length l.apps.items
