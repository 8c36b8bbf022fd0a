use Rattle.std.proofs.Common.{◌≡◌, ◌++◌, map, take, drop}
use Rattle.access_desc.specs.Steps.{nothing}
use Rattle.tbl_registry.proofs.rows.free_all.Given as goal

abbrev pub invariant-loop-row : goal.invariant-loop-row
invariant-loop-row l = l.rows ≡ map nothing (take l.row-index l.initial.rows) ++ drop l.row-index l.initial.rows
