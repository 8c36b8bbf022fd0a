use Rattle.std.proofs.Common.{◌≡◌, ◌++◌, map, take, drop}
use Rattle.access_desc.specs.Steps.{nothing}
use Rattle.access_desc.proofs.handles.free_all.Given as goal

abbrev pub invariant-loop-place : goal.invariant-loop-place
invariant-loop-place l = l.places ≡ map nothing (take l.place-index l.initial.places) ++ drop l.place-index l.initial.places
