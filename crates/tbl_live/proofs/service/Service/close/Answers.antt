use Rattle.std.proofs.Common.{◌≤◌, ◌∷◌, sym, subst, ◌∙◌}
use Rattle.tbl_history.proofs.ServingLemmas.{serves_on, served_of}
use Rattle.tbl_live.proofs.FollowingLemmas.{goes}
use Rattle.tbl_live.proofs.EndLemmas.{tells}
use Rattle.tbl_live.proofs.service.Service.close.Goals as goal

pub returns : goal.returns
returns g c =
    let b = g.B.Bank in
    let v = g.C.Validator.verdict in
    let last = c.close.result in
    let all = goes b v _ last c.close.ensures.since in
    let place = c.gather-place.ensures in
    record {
      closes = rw (← c.self.view_is) (rw c.end.ensures.core (record {
        serves = λ o was. serves_on b v o _ last.core all.continues was;
        served = λ o was. served_of b v o last.core (serves_on b v o _ last.core all.continues was);
        extends = all.extends;
        few = λ within. c.end.ensures.served.few (subst (λ n. n ≤ g.K.ServiceCore.bound.limit) (sym (all.base ∙ c.self.invariant)) within);
        own = rw (← c.self.invariant)
            (tells b v g.K.ServiceCore.bound.limit _ last c.gather-place.result.me.0.seen (c.args.seats.ground ∷ c.args.seats.apps.items) c.close.ensures.since c.close.ensures.knows place.each place.all c.requires.count c.end.ensures.served);
      }));
    }
