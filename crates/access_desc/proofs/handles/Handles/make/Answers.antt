use Rattle.access_desc.proofs.Counted.{none_pinned}
use Rattle.access_desc.proofs.handles.Handles.make.Goals as goal

pub invariant_of-result : goal.invariant_of-result
invariant_of-result c = none_pinned _ _ c.in_ok-free_places.ensures c.in_ok-rows_without_pins.ensures
