use Rattle.std.proofs.Common.{◌≡◌, take}
use Rattle.std.specs.List.{fold}
use Rattle.check_word.specs.Left.{after_blocks}
use Rattle.check_word.proofs.long_word.Given as goal

abbrev pub invariant-loop-bytes : goal.invariant-loop-bytes
invariant-loop-bytes l = l.left ≡ fold after_blocks l.initial.left (take l.bytes-index l.others)
