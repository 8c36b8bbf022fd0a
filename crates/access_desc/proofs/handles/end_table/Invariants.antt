use Rattle.std.proofs.Common.{◌≡◌, ◌++◌, map, take, drop}
use Rattle.std.specs.Option.{option_map}
use Rattle.access_desc.specs.Steps.{after_end}
use Rattle.access_desc.proofs.handles.end_table.Given as goal

abbrev pub invariant-loop-place : goal.invariant-loop-place
invariant-loop-place l =
    l.places ≡ map (option_map (after_end l.row)) (take l.place-index l.initial.places) ++ drop l.place-index l.initial.places
