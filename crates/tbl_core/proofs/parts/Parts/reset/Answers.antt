use Rattle.std.proofs.Common.{◌∙◌, [], None, replicate, ap, rules}
use Rattle.tbl_model.specs.Boots.{if_processor}
use Rattle.tbl_core.specs.Service.{PartsView}
use Rattle.tbl_core.proofs.Resets.{reset_makes, reset_meets}
use Rattle.tbl_core.proofs.parts.Parts.reset.Goals as goal

pub returns-clause-tries : goal.returns-clause-tries
returns-clause-tries g c =
    let b = g.B.Bank in
    let v = g.C.Validator in
    let note = c.boot.new.note in
    let store = c.boot.ensures.store in
    let held = c.clear_at_power_on.ensures ∙ ap (λ (h : PartsView _ _). record h { drawer = if_processor c.args.kind h.drawer []; apps = if_processor c.args.kind h.apps (replicate 16 None) }) c.boot.ensures.held in
    record {
      made = record {
        makes = reset_makes b v _ _ c.args.kind c.noted.result c.boot.new.self.store note.ended note.stopped note.found held (search rules) (search rules) (search rules) c.noted.ensures.silent store.booted store.trouble;
        meets = reset_meets b v _ _ c.args.kind c.noted.result c.boot.new.self.store note.ended note.stopped note.found held (search rules) (search rules) (search rules) c.noted.ensures.silent
            store.moments (search rules) (search rules) c.requires.live store.asked;
      };
      err = tt;
    }
