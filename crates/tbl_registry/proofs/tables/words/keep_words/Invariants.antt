use Rattle.std.proofs.Common.{◌≡◌}
use Rattle.tbl_registry.proofs.tables.words.keep_words.Given as goal

abbrev pub invariant-loop-row : goal.invariant-loop-row
invariant-loop-row l = l.rows ≡ l.initial.rows
