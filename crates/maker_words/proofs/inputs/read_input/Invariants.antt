use Rattle.std.proofs.Common.{◌≡◌, ◌-◌, ◌≤◌, length}
use Rattle.std.specs.Io.KnownBytes.{prepend_known}
use Rattle.tbl_outside.specs.Streams.{ReadsOn}
use Rattle.maker_words.specs.Inputs.{most_input}
use Rattle.maker_words.proofs.inputs.read_input.Given as goal

-- the input so far is what was read
abbrev pub invariant-reads : goal.invariant-reads
invariant-reads g l = record {
  came : g.S.Source.left l.fn.source ≡ prepend_known l.input.list (g.S.Source.left l.source);
  few : length l.input.list ≤ most_input;
  room : length l.piece ≡ 4096;
  count : g.S.Source.faults l.fn.source ≤ g.S.Source.faults l.source;
  still : g.S.Source.faults l.source ≡ g.S.Source.faults l.fn.source;
  once : ReadsOn (g.S.Source.how_far l.fn.source) (g.S.Source.how_far l.source);
}

abbrev pub decreases-reads : goal.decreases-reads
decreases-reads g l = 1048577 - length l.input.list
