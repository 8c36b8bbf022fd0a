use Rattle.std.proofs.Common.{arith, inl, sym, subst, List}
use Rattle.tbl_kinds.specs.declared.entry.Entry.{Entry}
use Rattle.tbl_core.specs.Entering.{IsKept}
use Rattle.tbl_core.proofs.service.Core.step_read.Goals as goal

pub push_read-requires-clause-may : goal.push_read-requires-clause-may
push_read-requires-clause-may g c =
    let room = rw (← c.self.view_is) at c.requires.room in
    let after = c.self.invariant.after in
    record {
      begun = c.in-Ok.ensures.begun;
      fits = rw (c.in-Ok.ensures.actor, c.in-Ok.ensures.request) c.requires.fits;
      live = rw (← c.self.view_is) at c.requires.live;
      room = record {
        requests = omega (arith, after.played, room);
        images = inl (omega (arith, after.played, room, c.in-Ok.ensures.few));
      };
    }

pub push_read-requires-clause-kept : goal.push_read-requires-clause-kept
push_read-requires-clause-kept g c = subst (λ (es : List Entry). IsKept es c.self.inside.engine) (sym c.reserve.ensures.items) c.self.invariant

pub returns : goal.returns
returns g c = rw (← c.self.view_is, ← c.in-Ok.ensures.actor, ← c.in-Ok.ensures.request, ← c.reserve.ensures.items) c.push_read.ensures.steps
