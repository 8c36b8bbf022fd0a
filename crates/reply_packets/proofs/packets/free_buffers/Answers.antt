use Rattle.tbl_model.specs.Tables.{in_use}
use Rattle.reply_packets.proofs.Buffers.{free_places}
use Rattle.reply_packets.proofs.packets.free_buffers.Goals as goal

pub returns : goal.returns
returns c = rw (c.free_in.ensures, c.in_use.ensures.rows) (free_places (in_use c.args.tables.now) c.in_use.ensures.within)
