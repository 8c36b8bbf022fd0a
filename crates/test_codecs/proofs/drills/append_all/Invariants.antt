-- The records that are left have spellings, and each turn takes one away.
use Rattle.std.proofs.Common.{length}
use Rattle.std.specs.List.{AllByRecursion}
use Rattle.tbl_kinds.specs.Records.{IsRecord}
use Rattle.test_codecs.proofs.drills.append_all.Given as goal

abbrev pub invariant-loop-actor : goal.invariant-loop-actor
invariant-loop-actor l = AllByRecursion IsRecord l.script

abbrev pub decreases-loop-actor : goal.decreases-loop-actor
decreases-loop-actor l = length l.script
