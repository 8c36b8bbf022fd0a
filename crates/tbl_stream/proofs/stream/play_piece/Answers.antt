use Rattle.std.proofs.Common.{◌≡◌, [], ◌++◌, ◌∙◌, ap, sym, arith, rules}
use Rattle.std.proofs.lemmas.Bool.{eqb-true}
use Rattle.std.proofs.lemmas.List.{nil_from_length}
use Rattle.std.specs.Prelude.{drop}
use Rattle.tbl_kinds.specs.Records.{joined}
use Rattle.tbl_kinds.specs.Transcript.{pairs_of}
use Rattle.tbl_stream.specs.Playing.{moment}
use Rattle.tbl_stream.specs.declared.standing.Standing.TheVariants.{Open}
use Rattle.tbl_stream.proofs.PlayingLemmas.{plays_of_nothing, plays_of_on}
use Rattle.tbl_stream.proofs.FeedingLemmas.{feeds_kept, feeds_over, feeds_on}
use Rattle.tbl_stream.proofs.stream.play_piece.Goals as goal

pub completes-init : goal.completes-init
completes-init g c = record {
  within = search rules;
  begun = c.requires.begun;
  live = c.requires.live;
  plays = plays_of_nothing g.B.Bank g.C.Validator.verdict Open (moment g.K.Sink c.args.playback.now c.args.sink.now) (c.args.kept.now.items ++ c.args.piece.now) tt tt c.requires.live;
}

-- the piece is used up
pub returns-then-at-piece : goal.returns-then-at-piece
returns-then-at-piece g c =
    feeds_kept g.B.Bank g.C.Validator.verdict _ _ _ c.completes.kept.items c.args.piece.now c.completes.at (search rules) c.completes.invariant.plays c.completes.invariant.begun

-- the stream is over
pub returns-in_default : goal.returns-in_default
returns-in_default g c =
    feeds_over g.B.Bank g.C.Validator.verdict c.complete.result _ _ _ c.complete.new.kept.items c.complete.new.kept.items (drop c.complete.new.at c.args.piece.now) c.in_default.not-Open
    (plays_of_on g.B.Bank g.C.Validator.verdict c.complete.result _ _ _ _ _ _ c.completes.invariant.plays c.complete.ensures.plays) c.complete.ensures.leaves

pub completes-preserved : goal.completes-preserved
completes-preserved g c = record {
  within = search rules;
  begun = c.in-Open.ensures.leaves;
  live = c.in-Open.ensures.plays.plays.boot;
  plays = plays_of_on g.B.Bank g.C.Validator.verdict Open _ _ _ _ _ _ c.completes.invariant.plays c.in-Open.ensures.plays;
}

-- no kept byte is left
pub returns : goal.returns
returns g c =
    let p = c.completes.invariant.plays in
    let none : c.completes.kept.items ≡ [] = nil_from_length c.completes.kept.items (omega (arith, c.completes.kept.ok, eqb-true c.completes.kept.len 0 (sym c.is_empty.ensures ∙ c.completes-test.false))) in
    feeds_on g.B.Bank g.C.Validator.verdict c.play_rest.result _ _ _ _ (drop c.completes.at c.args.piece.now) c.play_rest.new.kept.items
    (record { entries = p.entries; plays = p.plays; parts = p.parts ∙ ap (λ xs. joined (pairs_of p.entries) ++ (xs ++ drop c.completes.at c.args.piece.now)) none; full = p.full }) c.play_rest.ensures
