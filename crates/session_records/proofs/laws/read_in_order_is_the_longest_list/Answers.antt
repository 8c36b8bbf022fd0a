use Rattle.tbl_kinds.proofs.InputLaws.{are_records}
use Rattle.session_records.proofs.laws.read_in_order_is_the_longest_list.Goals as goal

pub returns : goal.returns
returns c = are_records
