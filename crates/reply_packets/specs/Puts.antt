-- Packets that are put, and counted.
use Rattle.std.specs.Prelude.{◌≡◌, ℕ, ◌+◌, ◌≤◌, List, ◌++◌, length}
use Rattle.tbl_kinds.specs.Buffers.{Buffer}
use Rattle.tbl_kinds.specs.declared.telemetry.Event.{Event}
use Rattle.tbl_model.specs.Counts.{Counts}
use Rattle.tbl_model.specs.Replies.{event_packets}
use Rattle.tbl_model.specs.State.{Tables}
use Rattle.tbl_model.specs.declared.telemetry.Shown.{Shown}
use Rattle.request_effects.specs.declared.clock.Clock.{Clock}
use Rattle.request_effects.specs.Effects.{shown_len}
use Rattle.reply_packets.specs.Counters.{counts_view, sent_events, sent_shown, shown_after}
use Rattle.reply_packets.specs.declared.counters.Counters.{Counters}

-- these packets, which have so many bytes at most, were put last, and the running numbers go on so
pub record Puts (sent : List ℕ) (most : ℕ) (count : Counts → Counts) (old new : Buffer) (before after : Counters) : Type 0 where
  pub bytes : new.list ≡ old.list ++ sent
  pub len : length new.list ≤ length old.list + most
  pub room : old.spare ≤ new.spare + most
  pub counts : counts_view after ≡ count (counts_view before)

-- those of these events, of which there is one at most
abbrev pub PutsEvents : Clock → List Event → Buffer → Buffer → Counters → Counters → Type 0
PutsEvents clock es old new before after = Puts (event_packets clock.seconds clock.sub before.events es) 24 (sent_events (length es)) old new before after

-- the packet after the events
abbrev pub PutsShown : Clock → Tables → Shown → Buffer → Buffer → Counters → Counters → Type 0
PutsShown clock tables shown old new before after = Puts (shown_after clock.seconds clock.sub (counts_view before) tables shown) (shown_len shown) (sent_shown shown) old new before after
