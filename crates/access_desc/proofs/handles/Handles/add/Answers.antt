use Rattle.std.proofs.Common.{Some, rules}
use Rattle.tbl_kinds.proofs.FreeLaws.{none_at}
use Rattle.access_desc.proofs.handles.Handles.add.Goals as goal

pub returns-clause-none_where_full : goal.returns-clause-none_where_full
returns-clause-none_where_full c = none_at c.args.self.now (Some c.in_ok-free.free) 256 (search rules) (search rules)
