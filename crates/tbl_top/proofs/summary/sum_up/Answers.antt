use Rattle.std.proofs.Common.{ap, ◌∙◌, List, ℕ, ◌++◌, length, codes}
use Rattle.tbl_top.specs.Drilling.{counted, summary}
use Rattle.tbl_top.proofs.SummaryLemmas.{all_parts}
use Rattle.tbl_top.proofs.summary.sum_up.Goals as goal

pub returns : goal.returns
unfolding summary
returns c =
    let first = counted (codes "entries ") (length c.args.entries.now) in
    rw (← c.count_of.ensures, ← c.count_of-2.ensures, ← c.count_of-3.ensures, ← c.count_of-4.ensures)
    (all_parts first _ _ _ _ _ _ _ _ _ _ _
    (c.in_ok-append_count.ensures ∙ ap (λ (xs : List ℕ). xs ++ first) c.in_ok-out.ensures.empty)
    c.in_ok-append_count-2.ensures c.in_ok-append_count-3.ensures c.in_ok-append_count-4.ensures c.in_ok-append_count-5.ensures c.in_ok-append_text.ensures.ok)
