use Rattle.std.proofs.Common.{rules, ◌≡◌, ◌∙◌}
use Rattle.cds_store.specs.Slots.{doubtful_slot}
use Rattle.cds_store.proofs.Reservations.{doubtful_same}
use Rattle.cds_store.proofs.store.Store.doubtful.Goals as goal

pub returns : goal.returns
returns g c =
    let slot : c.find_doubtful.result ≡ doubtful_slot c.args.kind c.args.name.now c.args.self.now.slots = search rules in
    record {
      slot = search rules;
      block = λ blocks stands. slot ∙ doubtful_same c.args.kind c.args.name.now c.args.self.now.slots blocks stands.slots;
      within = search rules;
    }
