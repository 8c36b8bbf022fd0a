use Rattle.std.proofs.Common.{◌∙◌, ap, arith}
use Rattle.tbl_model.specs.Counts.{Counts}
use Rattle.reply_packets.specs.Counters.{counts_view, sent_events, counted_event}
use Rattle.reply_packets.proofs.Counted.{counted_next, put_next, same_events}
use Rattle.reply_packets.proofs.events.put_events.Goals as goal

pub loop-event-preserved : goal.loop-event-preserved
loop-event-preserved c =
    let seconds = c.args.clock.seconds in
    let sub = c.args.clock.sub in
    let events = c.args.events.now in
    let at = c.loop-event.event-index in
    let item = c.event-item.result in
    let was = c.loop-event.invariant in
    let put = c.put_event.ensures in
    let counted = c.count_event.ensures in record {
      all =
          put_next seconds sub events at item c.event-item.is c.loop-event-test.true c.loop-event.counters.events c.count_event.new.self.events c.loop-event.packets.list c.put_event.new.packets.list c.sent_event.result c.sent_event.ensures put.bytes
          (ap (λ (k : Counts). k.events) counted ∙ same_events seconds sub item (counts_view c.put_event.new.counters) ∙ ap (λ (k : Counts). k.events) put.counts)
          ∙ was.all;
      counts =
          counted ∙ ap (λ (k : Counts). counted_event seconds sub item k) (put.counts ∙ ap (sent_events 1) was.counts)
          ∙ counted_next seconds sub events at item c.event-item.is c.loop-event-test.true (counts_view c.args.counters.now);
      room = let more = put.room in let before = was.room in omega (arith, more, before);
      len = let more = put.len in let before = was.len in omega (arith, more, before);
    }
