use Rattle.std.proofs.Common.{◌≡◌, take}
use Rattle.tbl_stream.specs.Standing.{IsWritten}
use Rattle.tbl_top.proofs.telling.tell_all.Given as goal

abbrev pub invariant-entries : goal.invariant-entries
invariant-entries g l = record {
  written : IsWritten 0 (take l.place l.fn.entries) (g.K.Sink.taken l.fn.sink) (g.K.Sink.taken l.sink);
  still : g.K.Sink.faults l.sink ≡ g.K.Sink.faults l.fn.sink;
}
