use Rattle.std.proofs.Common.{arith}
use Rattle.access_desc.proofs.Counted.{put_kept}
use Rattle.access_desc.proofs.pins.put.Goals as goal

pub returns-clause-kept : goal.returns-clause-kept
returns-clause-kept c = put_kept c.args.at c.args.place c.args.places.now c.args.rows.now c.count_out.new.rows c.count_in.new.rows c.requires.within (omega (arith, c.requires.kept.all_rows)) c.count_out.ensures c.count_in.ensures c.requires.kept
