use Rattle.std.proofs.Common.{arith}
use Rattle.tbl_kinds.proofs.NameFields.{before_zeros}
use Rattle.tbl_kinds.proofs.name.Name.of.Goals as goal

pub invariant_of-result : goal.invariant_of-result
invariant_of-result g c =
    let name = c.read_name-name in
    rw c.copy_from_slice.ensures.after (before_zeros g.row.N name.result.now (omega (arith, name.ensures.within, c.requires.within)) name.ensures.no_zero)
