use Rattle.std.proofs.Common.{◌≡◌, sym, ◌∙◌, None, arith}
use Rattle.access_desc.specs.Steps.{has, pins_old}
use Rattle.access_desc.proofs.Counted.{none_pins_old, not_old, later}
use Rattle.access_desc.proofs.handles.Handles.pinned_old.Goals as goal

pub returns-in_err-start-clause-least : goal.returns-in_err-start-clause-least
returns-in_err-start-clause-least c = c.from_residual.ensures ∙ sym (none_pins_old c.args.row c.args.self.now c.in_err-start.ensures.none)

pub returns-clause-least : goal.returns-clause-least
returns-clause-least c =
    let same : c.deref.result.now ≡ c.args.self.now = c.deref.ensures.value ∙ c.self.view_is in
    let found = rw same at c.first_old_pin.ensures.least in
    c.number_from.ensures ∙ later (has (pins_old c.args.row)) c.args.self.now c.in_ok-start.start None c.first_old_pin.result (omega (arith, c.in_ok-start.ensures.within)) (λ n before. not_old c.args.row n c.args.self.now (c.in_ok-start.ensures.none_before n before)) found
