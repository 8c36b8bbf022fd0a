use Rattle.std.proofs.Common.{rules, not, ◌==◌, ap, ◌∙◌}
use Rattle.arrayvec.proofs.ArrayVecLemmas.{filter-from_retain}
use Rattle.tbl_model.specs.Pending.{of_other_rows}
use Rattle.validation.proofs.pending.Pending.drop_row.Goals as goal

pub returns : goal.returns
returns c =
    filter-from_retain _ (λ pair. not (pair.0 == c.args.row)) _ (λ x b f' y called. search rules) _ _ c.retain.ensures.filtered
    ∙ ap (of_other_rows c.args.row) c.self.view_is
