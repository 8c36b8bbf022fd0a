use Rattle.std.proofs.Common.{rules, ◌≡◌, ◌∙◌, is_some}
use Rattle.cds_store.specs.Slots.{room_in, without_slot}
use Rattle.cds_store.proofs.Reservations.{room_is}
use Rattle.cds_store.proofs.store.Store.room.Goals as goal

pub returns : goal.returns
returns g c blocks stands =
    let slot : c.is_some.result ≡ is_some (room_in c.args.size (without_slot c.args.without c.args.self.now.slots)) = search rules in
    slot ∙ room_is c.args.without c.args.size c.args.self.now.slots blocks stands.slots
