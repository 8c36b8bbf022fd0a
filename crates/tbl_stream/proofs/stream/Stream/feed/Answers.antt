use Rattle.std.proofs.Common.{sym, ◌∙◌}
use Rattle.tbl_stream.proofs.FeedingLemmas.{feeds_piece, front_length, open_front, open_answer}
use Rattle.tbl_stream.proofs.stream.Stream.feed.Goals as goal

pub returns-clause-feeds : goal.returns-clause-feeds
returns-clause-feeds g c = rw (← c.self.view_is) (feeds_piece g.B.Bank g.C.Validator.verdict c.play_piece-self-inside.result _ _ _ _ c.play_piece-self-inside.ensures)

pub returns-clause-kept : goal.returns-clause-kept
returns-clause-kept g c = λ more.
    let f = c.play_piece-self-inside in
    let feeds = f.ensures in
    front_length f.new.playback.left f.new.kept.items
    (open_front f.result f.new.playback.left feeds.behind f.new.kept.items (open_answer f.result (sym more ∙ c.answer.ensures)) feeds.leaves feeds.keeps)
