use Rattle.std.proofs.Common.{rules, ◌≡◌, ◌∙◌}
use Rattle.cds_store.specs.Slots.{open_slot}
use Rattle.cds_store.proofs.Reservations.{open_same}
use Rattle.cds_store.proofs.store.Store.find.Goals as goal

pub returns : goal.returns
returns g c =
    let slot : c.find_open.result ≡ open_slot c.args.kind c.args.name.now c.args.self.now.slots = search rules in
    record {
      slot = search rules;
      block = λ blocks stands. slot ∙ open_same c.args.kind c.args.name.now c.args.self.now.slots blocks stands.slots;
      within = search rules;
    }
