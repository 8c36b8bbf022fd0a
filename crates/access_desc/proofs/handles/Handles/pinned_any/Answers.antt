use Rattle.std.proofs.Common.{◌≡◌, sym, ◌∙◌, None, arith}
use Rattle.access_desc.specs.Steps.{has, pins}
use Rattle.access_desc.proofs.Counted.{none_pins, later}
use Rattle.access_desc.proofs.handles.Handles.pinned_any.Goals as goal

pub returns-in_err-start-clause-least : goal.returns-in_err-start-clause-least
returns-in_err-start-clause-least c = c.from_residual.ensures ∙ sym (none_pins c.args.row c.args.self.now c.in_err-start.ensures.none)

pub returns-clause-least : goal.returns-clause-least
returns-clause-least c =
    let same : c.deref.result.now ≡ c.args.self.now = c.deref.ensures.value ∙ c.self.view_is in
    let found = rw same at c.first_pin.ensures.least in
    c.number_from.ensures ∙ later (has (pins c.args.row)) c.args.self.now c.in_ok-start.start None c.first_pin.result (omega (arith, c.in_ok-start.ensures.within)) c.in_ok-start.ensures.none_before found
