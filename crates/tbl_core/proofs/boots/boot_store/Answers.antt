use Rattle.std.proofs.Common.{rules}
use Rattle.tbl_core.proofs.Resets.{finds}
use Rattle.tbl_core.proofs.boots.boot_store.Goals as goal

pub returns-in-Ok : goal.returns-in-Ok
returns-in-Ok g c = record {
  booted = search rules;
  adds = search rules;
  blocks = search rules;
  finds = λ told blocks stands.
      rw c.requires.fresh.ended (finds c.args.kind c.args.store.now.slots blocks _ c.in-Ok.found stands.slots (c.in-Ok.ensures.boots.found told), λ is. absurd (cc (is, c.requires.fresh.stopped)));
  trouble = search rules;
  asked = search rules;
  moments = search rules;
}
