use Rattle.std.proofs.Common.{◌≡◌, false, sym, subst}
use Rattle.tbl_core.specs.Service.{EngineView, works_view}
use Rattle.tbl_core.proofs.Ready.{are_ready}
use Rattle.tbl_core.proofs.engine.Engine.asks.Goals as goal

pub asks-requires : goal.asks-requires
asks-requires g c = record { ready = are_ready g.C.Validator (works_view c.self.inside.works) c.args.request.now c.self.invariant (rw c.self.view_is c.requires.room) (subst (λ (e : EngineView g.row.B.Denot g.row.C.Denot). e.state.ended ≡ false) (sym c.self.view_is) c.requires.live) }
