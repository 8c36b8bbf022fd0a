use Rattle.std.proofs.Common.{◌∙◌, ap, sym}
use Rattle.sharing.specs.Apps.{app_name}
use Rattle.store_requests.proofs.OwnBlocks.{own_found}
use Rattle.store_requests.proofs.own_blocks.own_block.Goals as goal

pub returns-in-Some-find_own : goal.returns-in-Some-find_own
returns-in-Some-find_own g c =
    let b = g.B.Bank in
    let found = c.in-Some-find_own.ensures in record {
      slot = found.slot;
      sized = rw found.slot found.sized;
      within = found.within;
      ok = λ s apps stands effect. own_found b c.args.store.now s c.args.app c.args.slot effect stands c.in-Some.app_name.now
          (ap (λ a. app_name a c.args.app) apps ∙ sym c.in-Some.ensures.name)
          c.in-Some-find_own.own.size (sym found.own) found.sized;
    }
