use Rattle.std.proofs.Common.{arith}
use Rattle.test_units.proofs.OneByte.{read_one}
use Rattle.test_units.proofs.adapters.OneByteFileRandomAccess.read_some.Goals as goal

pub returns-clause-read : goal.returns-clause-read
returns-clause-read c = λ told.
    read_one c.args.self.now.bytes.items c.as_slice-bytes.result.now c.args.into.now c.args.at (rw (← c.fails_next.ensures) c.as_slice-bytes.ensures.value) (omega (arith, c.if-bytes-at.false)) (grind (arith, c.is_empty.ensures, c.if-is_empty.false))
