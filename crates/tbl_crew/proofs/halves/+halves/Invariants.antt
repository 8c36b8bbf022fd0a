use Rattle.std.proofs.Common.{◌+◌, ◌*◌}
use Rattle.tbl_crew.proofs.halves.+halves.Given as goal

abbrev pub decreases-play_range : goal.decreases-play_range
decreases-play_range g l = 2 * l.count

abbrev pub decreases-upper : goal.decreases-upper
decreases-upper g l = 2 * l.high + 1

abbrev pub decreases-lower : goal.decreases-lower
decreases-lower g l = 2 * l.low + 1
