use Rattle.cfe_headers.proofs.Words.{by_halves}
use Rattle.cfe_headers.proofs.packets.xor_of_bytes.Goals as goal

pub returns : goal.returns
returns c = by_halves c.args.word
