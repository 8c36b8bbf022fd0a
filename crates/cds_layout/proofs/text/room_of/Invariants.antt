use Rattle.std.proofs.Common.{◌≡◌, ◌*◌, ◌≤◌, ◌^◌, take}
use Rattle.std.specs.List.{sum_by}
use Rattle.cds_layout.specs.Lines.{room_at}
use Rattle.cds_layout.proofs.text.room_of.Given as goal

abbrev pub invariant-loop-place : goal.invariant-loop-place
invariant-loop-place l = (l.room ≡ sum_by room_at (take l.place-index l.blocks)) × (l.room ≤ 2 ^ 33 * l.place-index)
