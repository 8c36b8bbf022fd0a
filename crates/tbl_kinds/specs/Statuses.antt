-- The status numbers, each under the name that the code has for it.
use Rattle.std.specs.Prelude.{Bool, ◌==◌}
use Rattle.tbl_kinds.specs.declared.status.Status.{Status}
use Rattle.tbl_kinds.specs.declared.status.TheConstants.Status.{SUCCESS}

abbrev pub is_success : Status → Bool
is_success s = s.0 == SUCCESS.0
