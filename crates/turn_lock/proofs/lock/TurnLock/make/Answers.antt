use Rattle.std.proofs.Common.{Some, [], ◌∷◌, ◌++◌, ap, refl, ◌∙◌}
use Rattle.turn_lock.proofs.CallSteps.{begins}
use Rattle.turn_lock.proofs.lock.TurnLock.make.Goals as goal

pub new-requires : goal.new-requires
new-requires g c =
    begins g.T.Turns.moves g.T.Turns.actors c.of-first.result.value (0 ∷ []) c.push_reserved.new.self.items c.args.value refl
    (c.push_reserved.ensures.items ∙ ap (λ l. l ++ Some c.args.value ∷ []) c.in-Ok.ensures.items) c.of-first.ensures
