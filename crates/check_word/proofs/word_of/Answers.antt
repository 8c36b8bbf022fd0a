use Rattle.std.proofs.Common.{ap, ◌∙◌}
use Rattle.std.specs.List.{fold}
use Rattle.tbl_kinds.specs.Check.{after_byte}
use Rattle.check_word.proofs.Blocks.{by_ended}
use Rattle.check_word.proofs.word_of.Goals as goal

pub returns : goal.returns
returns c =
    c.after_bytes.ensures
    ∙ ap (fold after_byte 0) c.as_flattened.ensures.value
    ∙ by_ended c.args.left
