use Rattle.std.proofs.Common.{◌≡◌, None, replicate}
use Rattle.cds_layout.proofs.directory.no_blocks.Given as goal

abbrev pub invariant-loop-slot : goal.invariant-loop-slot
invariant-loop-slot l = l.blocks.items ≡ replicate l._slot None
