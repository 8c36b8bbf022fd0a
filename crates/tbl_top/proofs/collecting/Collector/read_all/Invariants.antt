use Rattle.std.proofs.Common.{◌≡◌, ℕ, ◌≤◌, List, length}
use Rattle.std.specs.Io.KnownBytes.{prepend_known}
use Rattle.tbl_kinds.specs.Records.{Pair}
use Rattle.tbl_top.specs.Collecting.{HasTaken}
use Rattle.tbl_outside.specs.Streams.{ReadsOn}
use Rattle.tbl_session.specs.Inputs.{piece_limit}
use Rattle.tbl_stream.specs.declared.standing.Standing.TheVariants.{Open}
use Rattle.tbl_top.proofs.collecting.Collector.read_all.Given as goal

abbrev pub invariant-reads : goal.invariant-reads
invariant-reads g l = record {
  room : length l.piece ≡ piece_limit;
  takes : (fed : List ℕ) × (g.S.Source.left l.fn.source ≡ prepend_known fed (g.S.Source.left l.source)) × (l.counter ≤ length fed)
      × (most : ℕ) × (pairs : List Pair) × HasTaken Open fed most pairs l.self;
  once : ReadsOn (g.S.Source.how_far l.fn.source) (g.S.Source.how_far l.source);
  still : g.S.Source.faults l.source ≡ g.S.Source.faults l.fn.source;
}
