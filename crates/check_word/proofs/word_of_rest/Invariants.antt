use Rattle.std.proofs.Common.{◌≡◌, ◌-◌, take}
use Rattle.std.specs.List.{fold}
use Rattle.tbl_kinds.specs.Check.{after_byte}
use Rattle.check_word.specs.Later.{later}
use Rattle.check_word.proofs.Steps.{rest_of}
use Rattle.check_word.proofs.word_of_rest.Given as goal

abbrev pub invariant-loop-place : goal.invariant-loop-place
invariant-loop-place l = l.word ≡ later (32 - l.place) (fold after_byte 0 (take l.place (rest_of l.step)))
