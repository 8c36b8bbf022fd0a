use Rattle.std.proofs.Common.{◌-◌, ◌≤◌, ◌++◌, length, drop}
use Rattle.tbl_stream.specs.Playing.{IsLive, PlaysOf, moment}
use Rattle.tbl_stream.specs.Standing.{IsFront}
use Rattle.tbl_stream.specs.declared.standing.Standing.TheVariants.{Open}
use Rattle.tbl_stream.proofs.stream.play_piece.Given as goal

abbrev pub invariant-completes : goal.invariant-completes
invariant-completes g l = record {
  within : l.at ≤ length l.fn.piece;
  begun : IsFront l.playback.left l.kept.items;
  live : IsLive l.playback;
  plays : PlaysOf g.B.Bank g.C.Validator.verdict Open (moment g.K.Sink l.fn.playback l.fn.sink) (moment g.K.Sink l.playback l.sink) (l.fn.kept.items ++ l.fn.piece) (l.kept.items ++ drop l.at l.fn.piece);
}

abbrev pub decreases-completes : goal.decreases-completes
decreases-completes g l = length l.fn.piece - l.at
