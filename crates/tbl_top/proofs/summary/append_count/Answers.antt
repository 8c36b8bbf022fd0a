use Rattle.std.proofs.Common.{append_assoc, ap, ◌∙◌, List, ℕ, ◌++◌}
use Rattle.std.specs.Fmt.{decimal}
use Rattle.tbl_top.proofs.summary.append_count.Goals as goal

pub returns : goal.returns
returns c =
    c.in_ok-append_decimal.ensures.ok ∙ ap (λ (xs : List ℕ). xs ++ decimal c.args.count) c.in_ok-append_text.ensures.ok ∙ append_assoc c.args.out.now.list c.args.word.now (decimal c.args.count)
