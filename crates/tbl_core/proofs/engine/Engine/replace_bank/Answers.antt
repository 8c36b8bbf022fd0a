use Rattle.std.proofs.Common.{◌≡◌, sym, subst}
use Rattle.tbl_core.specs.Service.{EngineView, works_view}
use Rattle.tbl_core.proofs.OtherBank.{other_bank}
use Rattle.tbl_core.proofs.engine.Engine.replace_bank.Goals as goal

pub returns-clause-new : goal.returns-clause-new
returns-clause-new g c =
    let before = works_view c.self.inside.works in
    let same = subst (λ (e : EngineView _ _). g.B.Bank.tells → g.B.Bank.now c.args.bank ≡ g.B.Bank.now e.state.store.bank) (sym c.self.view_is) c.requires.same in
    rw c.replace_bank.ensures.new (rw (← c.self.view_is) (other_bank g.B.Bank c.args.bank before same))
