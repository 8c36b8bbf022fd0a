use Rattle.std.proofs.Common.{◌≡◌, ℕ, ◌≤◌, List, ◌++◌, length}
use Rattle.std.specs.Io.KnownBytes.{prepend_known}
use Rattle.tbl_outside.specs.Streams.{ReadsOn as GaveBytes}
use Rattle.tbl_session.specs.Inputs.{piece_limit}
use Rattle.tbl_stream.specs.Playing.{PlaysOf, moment}
use Rattle.tbl_stream.specs.Reading.{IsOpen}
use Rattle.tbl_stream.specs.declared.standing.Standing.TheVariants.{Open}
use Rattle.tbl_stream.proofs.reading.read_all.Given as goal

abbrev pub invariant-reads : goal.invariant-reads
invariant-reads g l = record {
  is_open : IsOpen l.stream;
  room : length l.piece ≡ piece_limit;
  went : (read : List ℕ) × (g.S.Source.left l.fn.source ≡ prepend_known read (g.S.Source.left l.source))
      × PlaysOf g.B.Bank g.C.Validator.verdict Open (moment g.K.Sink l.fn.stream.played l.fn.sink) (moment g.K.Sink l.stream.played l.sink) (l.fn.stream.rest ++ read) l.stream.rest
      × (l._reads ≤ length read);
  once : GaveBytes (g.S.Source.how_far l.fn.source) (g.S.Source.how_far l.source);
  source_still : g.S.Source.faults l.source ≡ g.S.Source.faults l.fn.source;
}
