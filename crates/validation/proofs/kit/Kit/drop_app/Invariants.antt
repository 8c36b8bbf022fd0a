use Rattle.std.proofs.Common.{◌≡◌, ◌++◌, map, take, drop}
use Rattle.validation.specs.Kits.{unless_of}
use Rattle.validation.proofs.kit.Kit.drop_app.Given as goal

abbrev pub invariant-loop-entry : goal.invariant-loop-entry
invariant-loop-entry g l = l.entry-items ≡ map (unless_of l.app) (take l.entry-index l.initial.entry-items) ++ drop l.entry-index l.initial.entry-items
