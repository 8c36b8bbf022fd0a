use Rattle.std.proofs.Common.{rules}
use Rattle.std.specs.Prelude.{drop}
use Rattle.tbl_stream.specs.Playing.{moment}
use Rattle.tbl_stream.specs.declared.standing.Standing.TheVariants.{Open}
use Rattle.tbl_stream.proofs.PlayingLemmas.{plays_of_nothing, plays_of_on}
use Rattle.tbl_stream.proofs.playback.Playback.play_whole.Goals as goal

pub records-init : goal.records-init
records-init g c = record {
  within = search rules;
  further = search rules;
  live = c.requires.live;
  plays = plays_of_nothing g.B.Bank g.C.Validator.verdict Open (moment g.K.Sink c.args.self.now c.args.sink.now) (drop c.args.at.now c.args.bytes.now) tt tt c.requires.live;
}

pub returns-in-Some-clause-plays : goal.returns-in-Some-clause-plays
returns-in-Some-clause-plays g c = plays_of_on g.B.Bank g.C.Validator.verdict c.in-Some.standing _ _ _ _ _ _ c.records.invariant.plays c.in-Some.ensures.plays

pub records-preserved : goal.records-preserved
records-preserved g c = record {
  within = search rules;
  further = search rules;
  live = c.in_default.ensures.plays.plays.boot;
  plays = plays_of_on g.B.Bank g.C.Validator.verdict Open _ _ _ _ _ _ c.records.invariant.plays c.in_default.ensures.plays;
}
