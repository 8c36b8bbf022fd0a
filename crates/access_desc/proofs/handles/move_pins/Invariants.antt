use Rattle.std.proofs.Common.{◌≡◌, ◌++◌, map, take, drop}
use Rattle.std.specs.Option.{option_map}
use Rattle.access_desc.specs.Steps.{after_new_image}
use Rattle.access_desc.proofs.handles.move_pins.Given as goal

abbrev pub invariant-loop-place : goal.invariant-loop-place
invariant-loop-place l =
    l.places ≡ map (option_map (after_new_image l.row)) (take l.place-index l.initial.places) ++ drop l.place-index l.initial.places
