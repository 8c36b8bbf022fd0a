use Rattle.std.proofs.Common.{◌≡◌}
use Rattle.tbl_stream.specs.declared.standing.Standing.TheVariants.{Open}
use Rattle.test_runs.proofs.feeding.feed_each.Given as goal

abbrev pub invariant-pieces : goal.invariant-pieces
invariant-pieces l = l.session.standing ≡ Open
