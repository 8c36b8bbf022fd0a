use Rattle.std.proofs.Common.{◌≡◌, count_by, sym, arith}
use Rattle.access_desc.specs.Steps.{has, pins}
use Rattle.access_desc.proofs.Counted.{moved_kept, none_moves}
use Rattle.access_desc.proofs.handles.move_row.Goals as goal

pub returns-else-rows-row-gt0-clause-places : goal.returns-else-rows-row-gt0-clause-places
returns-else-rows-row-gt0-clause-places c =
    let none : count_by (has (pins c.args.row)) c.args.places.now ≡ 0 = omega (arith, c.requires.each c.args.row (omega arith)) in
    sym (none_moves c.args.row c.args.places.now none)

pub returns-then-rows-row-gt0-clause-kept : goal.returns-then-rows-row-gt0-clause-kept
returns-then-rows-row-gt0-clause-kept c = rw c.move_pins.ensures (moved_kept c.args.row c.args.places.now c.args.rows.now c.requires)
