use Rattle.std.proofs.Common.{◌≡◌, map, Some}
use Rattle.validation.proofs.kit.Kit.make.Given as goal

abbrev pub invariant-loop-entry : goal.invariant-loop-entry
invariant-loop-entry g l = l.places.items ≡ map (λ entry. Some entry) l.yielded
