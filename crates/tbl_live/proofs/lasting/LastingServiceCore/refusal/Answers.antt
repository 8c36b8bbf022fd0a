use Rattle.tbl_live.proofs.LastingLemmas.{firsts, still_after_recount}
use Rattle.tbl_live.proofs.lasting.LastingServiceCore.refusal.Goals as goal

pub invariant_of-self : goal.invariant_of-self
invariant_of-self g c = rw c.recount.ensures (record { after = still_after_recount (firsts c.self.inside.past.items) c.self.inside.engine c.self.invariant.after; ends = c.self.invariant.ends })
