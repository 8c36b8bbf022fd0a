use Rattle.access_desc.proofs.Counted.{ended_kept}
use Rattle.access_desc.proofs.handles.end_row.Goals as goal

pub returns-clause-kept : goal.returns-clause-kept
returns-clause-kept c = rw c.end_table.ensures (ended_kept c.args.row c.args.places.now c.args.rows.now c.requires)
