use Rattle.std.proofs.Common.{rules, not, ap, ◌∙◌}
use Rattle.arrayvec.proofs.ArrayVecLemmas.{filter-from_retain}
use Rattle.tbl_model.specs.Pending.{is_pair, without_pair}
use Rattle.validation.proofs.pending.Pending.drop_pair.Goals as goal

pub returns : goal.returns
returns c =
    filter-from_retain _ (λ pair. not (is_pair c.args.row c.args.active pair)) _ (λ x b f' y called. search rules) _ _ c.retain.ensures.filtered
    ∙ ap (without_pair c.args.row c.args.active) c.self.view_is
