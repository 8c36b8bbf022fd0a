use Rattle.std.proofs.Common.{◌≡◌, ◌∙◌, ◌++◌, List, [], length, map, None, refl, sym, ap, subst, arith}
use Rattle.tbl_model.specs.Counts.{asks_load, load_file_of}
use Rattle.tbl_model.specs.Events.{sent_event}
use Rattle.tbl_model.specs.Replies.{event_packets, notice_packet}
use Rattle.tbl_model.specs.declared.telemetry.TelemetryEvent.{TelemetryEvent}
use Rattle.request_effects.specs.Reports.{Reported}
use Rattle.request_effects.specs.Effects.{reported_effect, told_at}
use Rattle.reply_packets.specs.Counters.{counts_view, shown_after, counted_events, counted_answer}
use Rattle.reply_packets.specs.Telling.{Tells}
use Rattle.reply_packets.proofs.Reporting.{call_tells, stop_tells, sent_none, uncounted, all_put, shown_within, notice_within}
use Rattle.reply_packets.proofs.telling.tell_call.Goals as goal

pub returns-then-eq-clause-tells : goal.returns-then-eq-clause-tells
returns-then-eq-clause-tells c = λ bytes note.
    let done = reported_effect c.args.answer bytes c.args.report.now note in
    stop_tells c.args.clock.seconds c.args.clock.sub c.args.tables.now done c.args.request.now (counts_view c.args.counters.now) (counts_view c.begin_anew.new.self) c.args.packets.now.list
    (sym c.eq.ensures ∙ c.if-eq.true) c.begin_anew.ensures c.requires.room.none

pub returns-clause-tells : goal.returns-clause-tells
returns-clause-tells c = λ bytes note.
    let seconds = c.args.clock.seconds in
    let sub = c.args.clock.sub in
    let tables = c.args.tables.now in
    let answer = c.args.answer in
    let report : Reported = record { table = c.report.inside.table; events = c.report.inside.events.items; shown = c.report.inside.shown; notice = c.report.inside.notice; verdicts = c.report.inside.verdicts } in
    let request = c.args.request.now in
    let done = reported_effect answer bytes report note in
    let before = counts_view c.args.counters.now in
    let counters = c.put_events.new.counters in
    let load = counts_view c.count_called.new.counters in
    let after = counts_view c.put_shown.new.counters in
    let events = c.events.ensures ∙ sym (ap (λ (r : Reported). r.events) c.report.view_is) in
    subst (λ (r : Reported). Tells before (counts_view c.put_notice.new.counters) (told_at seconds sub tables request (reported_effect answer bytes r note)) c.put_notice.new.packets.list) c.report.view_is
    (call_tells seconds sub tables done request before (counts_view c.put_notice.new.counters) c.put_notice.new.packets.list c.requires.call c.requires.no_reset (sym c.eq.ensures ∙ c.if-eq.false) (record {
      own = before;
      told = counts_view counters;
      load = load;
      shown = after;
      own_is = sym (sent_none before c.args.counters.now.events_fit);
      told_is = c.put_events.ensures.counts ∙ ap (λ (es : List TelemetryEvent). counted_events seconds sub es before) events;
      load_is = c.count_called.ensures
          ∙ ap (counted_answer answer.status (asks_load request None) (load_file_of request None) report.table) (sym (uncounted (counts_view counters) answer.status counters.accepted_fits counters.refused_fits counters.requests_fit));
      shown_is = c.put_shown.ensures.counts;
      new_is = c.put_notice.ensures.counts;
      packets_are = all_put [] c.args.packets.now.list c.put_events.new.packets.list c.put_shown.new.packets.list c.put_notice.new.packets.list
          [] (event_packets seconds sub before.events (map sent_event report.events)) (shown_after seconds sub load tables report.shown) (notice_packet after report.notice)
          refl c.requires.room.none
          (c.put_events.ensures.bytes ∙ ap (λ (es : List TelemetryEvent). c.args.packets.now.list ++ event_packets seconds sub before.events (map sent_event es)) events)
          c.put_shown.ensures.bytes c.put_notice.ensures.bytes;
    }))

pub returns-clause-len : goal.returns-clause-len
returns-clause-len c =
    let none : length c.args.packets.now.list ≡ 0 = ap length c.requires.room.none in
    let events : length c.events.result.now ≡ length c.args.report.now.events = ap length c.events.ensures in
    omega (arith, none, c.requires.few, events, c.put_events.ensures.len, c.put_shown.ensures.len, c.put_notice.ensures.len, shown_within c.report.inside.shown, notice_within c.report.inside.notice)
