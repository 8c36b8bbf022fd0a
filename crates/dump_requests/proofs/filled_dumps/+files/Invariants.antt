use Rattle.std.proofs.Common.{◌+◌, ◌*◌, length}
use Rattle.dump_requests.proofs.filled_dumps.+files.Given as goal

abbrev pub decreases-write_all : goal.decreases-write_all
decreases-write_all g l = 2 * length l.places.now

abbrev pub decreases-write_row : goal.decreases-write_row
decreases-write_row g l = 2 * length l.further.now + 1
