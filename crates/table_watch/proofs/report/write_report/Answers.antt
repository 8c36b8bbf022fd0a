use Rattle.std.proofs.Common.{ap, ◌∙◌, List, ℕ, ◌++◌}
use Rattle.std.proofs.lemmas.List.{take_all}
use Rattle.std.specs.List.{flat_map}
use Rattle.table_watch.specs.Report.{counts_line, line_of, report}
use Rattle.table_watch.specs.declared.watch.Look.{Look}
use Rattle.table_watch.proofs.report.write_report.Goals as goal

pub returns : goal.returns
unfolding report
returns c =
    let whole = take_all c.looks.look-index c.args.looks.now c.looks-test.false in
    c.in_ok-put_counts.ensures ∙ ap (λ (xs : List ℕ). xs ++ counts_line c.args.looks.now) (c.looks.invariant ∙ ap (λ (ls : List Look). flat_map line_of ls) whole)
