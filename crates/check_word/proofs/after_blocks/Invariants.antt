use Rattle.std.proofs.Common.{◌≡◌, take}
use Rattle.std.specs.List.{fold}
use Rattle.check_word.specs.Left.{after_block}
use Rattle.check_word.proofs.after_blocks.Given as goal

abbrev pub invariant-loop-block : goal.invariant-loop-block
invariant-loop-block l = l.left ≡ fold after_block l.fn.left (take l.block-index l.blocks)
