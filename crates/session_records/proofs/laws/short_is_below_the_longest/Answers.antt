use Rattle.tbl_kinds.proofs.InputLaws.{short-length}
use Rattle.session_records.proofs.laws.short_is_below_the_longest.Goals as goal

pub returns : goal.returns
returns c = short-length
