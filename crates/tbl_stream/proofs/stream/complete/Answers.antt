use Rattle.std.proofs.Common.{◌≡◌, ◌++◌, take, ap, sym, ◌∙◌, rules}
use Rattle.std.specs.Prelude.{drop}
use Rattle.tbl_stream.specs.Playing.{moment}
use Rattle.tbl_stream.specs.declared.standing.Standing.TheVariants.{Memory}
use Rattle.tbl_stream.proofs.PlayingLemmas.{plays_of_nothing}
use Rattle.tbl_stream.proofs.FeedingLemmas.{completed}
use Rattle.tbl_stream.proofs.stream.complete.Goals as goal

pub returns-in-Ok-clause-plays : goal.returns-in-Ok-clause-plays
returns-in-Ok-clause-plays g c =
    let p = c.play_kept.ensures.plays in
    completed g.B.Bank g.C.Validator.verdict c.play_kept.result _ _ c.args.kept.now.items c.play_kept.new.kept.items c.args.piece.now c.args.at.now c.min-count.result
    (record {
      entries = p.entries;
      plays = p.plays;
      parts = sym (c.in-Ok.ensures.items ∙ ap (λ xs. c.args.kept.now.items ++ xs) (c.split_at-2.ensures.front ∙ ap (take c.min-count.result) c.split_at.ensures.back)) ∙ p.parts;
      full = p.full;
    })

-- out of memory, nothing was moved
pub returns-in-Err-clause-plays : goal.returns-in-Err-clause-plays
returns-in-Err-clause-plays g c =
    let same : c.extend_from_slice.new.self.items ≡ c.args.kept.now.items = search rules in
    rw same (plays_of_nothing g.B.Bank g.C.Validator.verdict Memory (moment g.K.Sink c.args.playback.now c.args.sink.now) (c.args.kept.now.items ++ drop c.args.at.now c.args.piece.now) tt tt c.requires.live)
