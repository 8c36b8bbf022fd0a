use Rattle.std.proofs.Common.{◌-◌, ◌≤◌, length, drop}
use Rattle.tbl_stream.specs.Playing.{IsLive, PlaysOf, moment}
use Rattle.tbl_stream.specs.declared.standing.Standing.TheVariants.{Open}
use Rattle.tbl_stream.proofs.playback.Playback.play_whole.Given as goal

abbrev pub invariant-records : goal.invariant-records
invariant-records g l = record {
  within : l.at ≤ length l.fn.bytes;
  further : l.fn.at ≤ l.at;
  live : IsLive l.self;
  plays : PlaysOf g.B.Bank g.C.Validator.verdict Open (moment g.K.Sink l.fn.self l.fn.sink) (moment g.K.Sink l.self l.sink) (drop l.fn.at l.fn.bytes) (drop l.at l.fn.bytes);
}

abbrev pub decreases-records : goal.decreases-records
decreases-records g l = length l.fn.bytes - l.at
