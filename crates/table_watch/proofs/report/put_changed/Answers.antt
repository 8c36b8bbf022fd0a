use Rattle.std.proofs.Common.{append_assoc, ap, ◌∙◌, List, ℕ, ◌++◌, codes}
use Rattle.table_watch.specs.Report.{word_text}
use Rattle.table_watch.proofs.report.put_changed.Goals as goal

pub returns : goal.returns
returns c =
    c.in_ok-put_word.ensures ∙ ap (λ (xs : List ℕ). xs ++ word_text c.args.old) c.in_ok-append_text.ensures.ok ∙ append_assoc c.args.out.now.list (codes "changed ") (word_text c.args.old)
