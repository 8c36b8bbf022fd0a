use Rattle.std.proofs.Common.{◌++◌, sym, ap, ◌∙◌}
use Rattle.std.specs.Prelude.{drop}
use Rattle.tbl_kinds.specs.Records.{joined}
use Rattle.tbl_kinds.specs.Transcript.{pairs_of}
use Rattle.tbl_stream.proofs.stream.play_kept.Goals as goal

pub returns-clause-plays : goal.returns-clause-plays
returns-clause-plays g c =
    let p = c.play_whole-standing.ensures.plays in
    let same = c.as_slice.ensures.value in
    record {
      entries = p.entries;
      plays = p.plays;
      parts = sym same ∙ p.parts ∙ ap (λ xs. joined (pairs_of p.entries) ++ xs) (ap (drop c.play_whole-standing.new.at) same ∙ sym c.drop_front.ensures);
      full = p.full;
    }
