use Rattle.std.proofs.Common.{◌≡◌, ◌+◌, ◌*◌, ◌≤◌, ◌++◌, length, map, take, drop}
use Rattle.tbl_model.specs.Events.{sent_event}
use Rattle.tbl_model.specs.Replies.{event_packets}
use Rattle.reply_packets.specs.Counters.{counts_view, counted_events}
use Rattle.reply_packets.proofs.events.put_events.Given as goal

abbrev pub invariant-loop-event : goal.invariant-loop-event
invariant-loop-event l = record {
  all : l.packets.list ++ event_packets l.clock.seconds l.clock.sub l.counters.events (map sent_event (drop l.event-index l.events))
      ≡ l.fn.packets.list ++ event_packets l.clock.seconds l.clock.sub l.fn.counters.events (map sent_event l.events);
  counts : counts_view l.counters ≡ counted_events l.clock.seconds l.clock.sub (take l.event-index l.events) (counts_view l.fn.counters);
  room : l.fn.packets.spare ≤ l.packets.spare + 24 * l.event-index;
  len : length l.packets.list ≤ length l.fn.packets.list + 24 * l.event-index;
}
