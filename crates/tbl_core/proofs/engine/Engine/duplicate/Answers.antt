use Rattle.std.proofs.Common.{◌≡◌, sym, subst}
use Rattle.tbl_core.specs.Copying.{moved}
use Rattle.tbl_core.specs.Service.{EngineView, Stands, IsAfter, IsReady, works_view}
use Rattle.tbl_core.proofs.Moved.{moved_stands, moved_after, moved_ready}
use Rattle.tbl_core.proofs.engine.Engine.duplicate.Goals as goal

pub invariant_of-result : goal.invariant_of-result
invariant_of-result g c =
    let engine = c.args.self.now in
    let is = subst (λ (e : EngineView _ _). works_view c.in_ok-duplicate.field-0 ≡ moved c.args.bank c.args.kit e) c.self.view_is c.in_ok-duplicate.ensures in
    subst (λ (e : EngineView _ _). IsReady g.C.Validator e) (sym is)
    (moved_ready g.B.Bank engine c.args.bank c.args.kit c.requires.same c.requires.owners g.C.Validator c.requires.asked
    (subst (λ (e : EngineView _ _). IsReady g.C.Validator e) c.self.view_is c.self.invariant))

pub returns : goal.returns
returns g c =
    let engine = c.args.self.now in
    let is = subst (λ (e : EngineView _ _). works_view c.in_ok-duplicate.field-0 ≡ moved c.args.bank c.args.kit e) c.self.view_is c.in_ok-duplicate.ensures in
    record {
      same = is;
      stands = λ opening past was. subst (λ (e : EngineView _ _). Stands g.B.Bank opening past e) (sym is)
          (moved_stands g.B.Bank engine c.args.bank c.args.kit c.requires.same c.requires.owners opening past was);
      after = λ past was. subst (λ (e : EngineView _ _). IsAfter past e) (sym is)
          (moved_after g.B.Bank engine c.args.bank c.args.kit c.requires.same c.requires.owners past was);
    }
