use Rattle.std.specs.Prelude.{drop}
use Rattle.tbl_stream.proofs.FeedingLemmas.{feeds_left}
use Rattle.tbl_stream.proofs.stream.play_rest.Goals as goal

pub returns-in_default : goal.returns-in_default
returns-in_default g c =
    feeds_left g.B.Bank g.C.Validator.verdict c.play_whole.result _ _ _ (drop c.play_whole.new.at c.args.piece.now) _ c.play_whole.ensures.plays c.play_whole.ensures.leaves
    (λ same. absurd (c.in_default.not-Open same))
