-- The running numbers, packet by packet, are those after the whole request.
use Rattle.std.proofs.Common.{◌≡◌, ℕ, ◌+◌, ◌%◌, ◌<◌, ◌≤◌, Bool, true, false, not, ◌&&◌, ◌||◌, cond, List, [], ◌++◌, length, map, refl, sym, ap, ◌∙◌, arith, length-append, Option, Some, None, is_some}
use Rattle.std.proofs.lemmas.List.{length-map}
use Rattle.std.proofs.Math.Bool.{or-true}
use Rattle.std.proofs.Math.Nat.{mod-add-mod}
use Rattle.tbl_kinds.specs.Statuses.{is_success}
use Rattle.tbl_kinds.specs.declared.request.Request.{Request}
use Rattle.tbl_kinds.specs.declared.request.Request.TheVariants as ask
use Rattle.tbl_kinds.specs.declared.status.Status.{Status}
use Rattle.tbl_kinds.specs.declared.telemetry.Event.{Event}
use Rattle.tbl_model.specs.State.{Tables}
use Rattle.tbl_model.specs.Commands.{ReadCommand, read_command_in, file_of_load}
use Rattle.tbl_model.specs.Events.{sent_event, command_events}
use Rattle.tbl_model.specs.Counts.{Told, Counts, restarts, is_reset, is_stopped, resets_counters, asks_load, load_file_of}
use Rattle.tbl_model.specs.CountsAfter.{bit, tally_of, counts_after}
use Rattle.tbl_model.specs.Replies.{head_at, sent_of, event_packets, shown_packet, notice_packet, packets_by}
use Rattle.tbl_model.specs.declared.telemetry.Notice.{Notice}
use Rattle.tbl_model.specs.declared.telemetry.Shown.{Shown}
use Rattle.tbl_model.specs.declared.telemetry.Shown.TheVariants.{Nothing, Housekeeping, Registry}
use Rattle.request_effects.specs.Effects.{Effect, seen, told_at, shown_len, notice_len}
use Rattle.reply_packets.specs.Counters.{sent_events, sent_shown, sent_notice, counted_events, counted_command, counted_load, shown_after}
use Rattle.reply_packets.specs.Telling.{Tells}
use Rattle.reply_packets.proofs.Counted.{later_packets, same_mod}

-- ---- the whole request

not_stopped : (a b : Bool) → (a || b) ≡ false → b ≡ false
not_stopped false b is = is
not_stopped true b is = absurd (cc is)

-- the counts after it, by whether the service began again
after_by : Counts → Told → Bool → Counts
after_by c t anew = counts_after c (record (tally_of t) { restarted = anew; cleared = anew || resets_counters (read_command_in t.request) t.effect })

unless : {X : Type 0} (b : Bool) (x y : X) → b ≡ false → cond b x y ≡ y
unless false x y is = refl
unless true x y is = absurd (cc is)

-- what is reported of a request with this effect, which was read so: whether it asks for a load, and of which file
module _ (seconds sub : ℕ) (tables : Tables) (done : Effect) (c : Counts) (read : ReadCommand) (asked : Bool) (file : Option (List ℕ)) where
  abbrev own : List Event
  own = command_events read (seen done)

  -- what is counted before the packet after the events
  abbrev loaded : Counts
  loaded =
      let success = is_success done.answer.status in
      counted_load (success && asked) (cond success file None) done.table
      (counted_command read done.answer.status (counted_events seconds sub done.events (sent_events (length own) c)))

  abbrev pub counted : Counts
  counted = sent_notice done.notice (sent_shown done.shown loaded)

  -- the packets, one after another
  abbrev pub put : List ℕ
  put = event_packets seconds sub c.events own ++ event_packets seconds sub ((c.events + length own) % 16384) (map sent_event done.events)
      ++ shown_after seconds sub loaded tables done.shown ++ notice_packet (sent_shown done.shown loaded) done.notice

  shown_same : (shown : Shown) → shown_after seconds sub loaded tables shown ≡ shown_packet (head_at seconds sub (sent_of c shown)) (sent_notice done.notice (sent_shown shown loaded)) tables shown
  shown_same Nothing = refl
  shown_same Housekeeping = refl
  shown_same (Registry row) = refl

  notice_same : (notice : Option Notice) → notice_packet (sent_shown done.shown loaded) notice ≡ notice_packet c notice
  notice_same None = refl
  notice_same (Some notice) = refl

  put_same : put ≡ event_packets seconds sub c.events (own ++ map sent_event done.events) ++ shown_packet (head_at seconds sub (sent_of c done.shown)) counted tables done.shown ++ notice_packet c done.notice
  put_same =
      ap (λ sent. sent ++ shown_after seconds sub loaded tables done.shown ++ notice_packet (sent_shown done.shown loaded) done.notice) (later_packets seconds sub c.events own (map sent_event done.events))
      ∙ ap (λ shown. event_packets seconds sub c.events (own ++ map sent_event done.events) ++ shown ++ notice_packet (sent_shown done.shown loaded) done.notice) (shown_same done.shown)
      ∙ ap (λ notice. event_packets seconds sub c.events (own ++ map sent_event done.events) ++ shown_packet (head_at seconds sub (sent_of c done.shown)) counted tables done.shown ++ notice) (notice_same done.notice)

-- it is reported of this request, in which the service goes on
module _ (seconds sub : ℕ) (tables : Tables) (done : Effect) (c : Counts) (request : Request) (goes_on : restarts (told_at seconds sub tables request done) ≡ false) where
  abbrev t : Told
  t = told_at seconds sub tables request done

  abbrev all : Counts
  all = counted seconds sub tables done c (read_command_in request) (asks_load request (read_command_in request)) (load_file_of request (read_command_in request))

  counted_as : all ≡ after_by c t false
  unfolding after_by
  counted_as =
      let own = command_events (read_command_in request) (seen done) in
      let events : ((c.events + length own) % 16384 + length done.events) % 16384 ≡ (c.events + length (own ++ map sent_event done.events)) % 16384 =
      mod-add-mod (c.events + length own) 16384 (length done.events)
      ∙ ap (λ n. n % 16384) (let both = length-append own (map sent_event done.events) in let all = length-map done.events sent_event in omega (arith, both, all)) in
      ap (λ n. record all { events = n }) events

  told : (new : Counts) (packets : List ℕ) → new ≡ all → packets ≡ put seconds sub tables done c (read_command_in request) (asks_load request (read_command_in request)) (load_file_of request (read_command_in request)) → Tells c new t packets
  unfolding after_by
  told new packets counts sent = record {
    counts = counts ∙ counted_as ∙ ap (after_by c t) (sym goes_on);
    packets =
        sent ∙ put_same seconds sub tables done c (read_command_in request) (asks_load request (read_command_in request)) (load_file_of request (read_command_in request))
        ∙ sym (unless (is_stopped t.effect) _ _ (not_stopped (is_reset request) (is_stopped t.effect) goes_on))
        ∙ ap (λ after. packets_by c after t) (sym counts);
  }

-- ---- step by step

-- as its packets are put, one kind after another, and it is counted
pub record Steps (seconds sub : ℕ) (tables : Tables) (done : Effect) (read : ReadCommand) (asked : Bool) (file : Option (List ℕ)) (c : Counts) (new : Counts) (packets : List ℕ) : Type 0 where
  pub own : Counts
  pub told : Counts
  pub load : Counts
  pub shown : Counts
  pub own_is : own ≡ sent_events (length (command_events read (seen done))) c
  pub told_is : told ≡ counted_events seconds sub done.events own
  pub load_is : load ≡ counted_load (is_success done.answer.status && asked) (cond (is_success done.answer.status) file None) done.table (counted_command read done.answer.status told)
  pub shown_is : shown ≡ sent_shown done.shown load
  pub new_is : new ≡ sent_notice done.notice shown
  pub packets_are : packets ≡ event_packets seconds sub c.events (command_events read (seen done)) ++ event_packets seconds sub own.events (map sent_event done.events) ++ shown_after seconds sub load tables done.shown ++ notice_packet shown done.notice

module _ (seconds sub : ℕ) (tables : Tables) (done : Effect) (read : ReadCommand) (asked : Bool) (file : Option (List ℕ)) (c new : Counts) (packets : List ℕ) (steps : Steps seconds sub tables done read asked file c new packets) where
  counts_by_steps : new ≡ counted seconds sub tables done c read asked file
  counts_by_steps =
      let own = steps.own_is in
      let told = steps.told_is ∙ ap (counted_events seconds sub done.events) own in
      let load = steps.load_is ∙ ap (λ (k : Counts). counted_load (is_success done.answer.status && asked) (cond (is_success done.answer.status) file None) done.table (counted_command read done.answer.status k)) told in
      steps.new_is ∙ ap (sent_notice done.notice) (steps.shown_is ∙ ap (sent_shown done.shown) load)

  packets_by_steps : packets ≡ put seconds sub tables done c read asked file
  packets_by_steps =
      let own = steps.own_is in
      let told = steps.told_is ∙ ap (counted_events seconds sub done.events) own in
      let load = steps.load_is ∙ ap (λ (k : Counts). counted_load (is_success done.answer.status && asked) (cond (is_success done.answer.status) file None) done.table (counted_command read done.answer.status k)) told in
      let shown = steps.shown_is ∙ ap (sent_shown done.shown) load in
      let first = event_packets seconds sub c.events (command_events read (seen done)) in
      let events = map sent_event done.events in
      steps.packets_are
      ∙ ap (λ (k : Counts). first ++ event_packets seconds sub k.events events ++ shown_after seconds sub steps.load tables done.shown ++ notice_packet steps.shown done.notice) own
      ∙ ap (λ (k : Counts). first ++ event_packets seconds sub ((c.events + length (command_events read (seen done))) % 16384) events ++ shown_after seconds sub k tables done.shown ++ notice_packet steps.shown done.notice) load
      ∙ ap (λ (k : Counts). first ++ event_packets seconds sub ((c.events + length (command_events read (seen done))) % 16384) events ++ shown_after seconds sub (loaded seconds sub tables done c read asked file) tables done.shown ++ notice_packet k done.notice) shown

none_read : {X : Type 0} (read : ReadCommand) → None ≡ read → is_some read ≡ true → X
none_read None is some = absurd (cc some)
none_read (Some command) is some = absurd (cc is)

-- it is reported of a command
pub command_tells : (seconds sub : ℕ) (tables : Tables) (done : Effect) (request : Request) (read : ReadCommand) (c new : Counts) (packets : List ℕ)
    → read_command_in request ≡ read → is_some read ≡ true → is_stopped (seen done) ≡ false
    → Steps seconds sub tables done read (is_some (file_of_load read)) (file_of_load read) c new packets
    → Tells c new (told_at seconds sub tables request done) packets
command_tells seconds sub tables done (ask.Command bytes) read c new packets is some goes_on steps =
    told seconds sub tables done c (ask.Command bytes) goes_on new packets
    (counts_by_steps seconds sub tables done read (is_some (file_of_load read)) (file_of_load read) c new packets steps
    ∙ sym (ap (λ (o : ReadCommand). counted seconds sub tables done c o (is_some (file_of_load o)) (file_of_load o)) is))
    (packets_by_steps seconds sub tables done read (is_some (file_of_load read)) (file_of_load read) c new packets steps
    ∙ sym (ap (λ (o : ReadCommand). put seconds sub tables done c o (is_some (file_of_load o)) (file_of_load o)) is))
command_tells seconds sub tables done request read c new packets is some goes_on steps = none_read read is some

-- it is reported of a call
pub call_tells : (seconds sub : ℕ) (tables : Tables) (done : Effect) (request : Request) (c new : Counts) (packets : List ℕ)
    → read_command_in request ≡ None → is_reset request ≡ false → is_stopped (seen done) ≡ false
    → Steps seconds sub tables done None (asks_load request None) (load_file_of request None) c new packets
    → Tells c new (told_at seconds sub tables request done) packets
call_tells seconds sub tables done request c new packets is no_reset goes_on steps =
    told seconds sub tables done c request (ap (λ b. b || is_stopped (seen done)) no_reset ∙ goes_on) new packets
    (counts_by_steps seconds sub tables done None (asks_load request None) (load_file_of request None) c new packets steps
    ∙ sym (ap (λ (o : ReadCommand). counted seconds sub tables done c o (asks_load request o) (load_file_of request o)) is))
    (packets_by_steps seconds sub tables done None (asks_load request None) (load_file_of request None) c new packets steps
    ∙ sym (ap (λ (o : ReadCommand). put seconds sub tables done c o (asks_load request o) (load_file_of request o)) is))

-- ---- a stop inside a request

stopped_sends_none : (stopped : Bool) (packets : List ℕ) → stopped ≡ true → [] ≡ cond stopped [] packets
stopped_sends_none true packets is = refl
stopped_sends_none false packets is = absurd (cc is)

-- it isn't reported, and the counts begin again
pub stop_tells : (seconds sub : ℕ) (tables : Tables) (done : Effect) (request : Request) (c new : Counts) (packets : List ℕ)
    → is_stopped (seen done) ≡ true → ((t : Told) → restarts t ≡ true → new ≡ counts_after c (tally_of t)) → packets ≡ []
    → Tells c new (told_at seconds sub tables request done) packets
stop_tells seconds sub tables done request c new packets stops begins none = record {
  counts = begins (told_at seconds sub tables request done) (ap (λ b. is_reset request || b) stops ∙ or-true (is_reset request));
  packets = none ∙ stopped_sends_none (is_stopped (seen done)) _ stops;
}

-- ---- what a call leaves

abbrev counted_with : Bool → Counts → Counts
counted_with success c = record c {
  accepted = cond (success && false) 0 ((c.accepted + bit (false && success && true && true)) % 256);
  refused = cond (success && false) 0 ((c.refused + bit (false && not success)) % 256);
  finished = cond (success && false) 0 c.finished;
  good = cond (success && false) 0 c.good;
  bad = cond (success && false) 0 c.bad;
  requests = cond (success && false) 0 ((c.requests + bit (success && false)) % 256);
}

-- no event of a command
pub sent_none : (c : Counts) → c.events < 16384 → sent_events 0 c ≡ c
sent_none c fits = λ i. record c { events = same_mod c.events 16384 fits i }

-- it is no command, and nothing is counted of it
pub uncounted : (c : Counts) (status : Status) → c.accepted < 256 → c.refused < 256 → c.requests < 256 → counted_command None status c ≡ c
uncounted c status accepted refused requests = none (is_success status) where
  none : (success : Bool) → counted_with success c ≡ c
  none true = λ i. record c { accepted = same_mod c.accepted 256 accepted i; refused = same_mod c.refused 256 refused i; requests = same_mod c.requests 256 requests i }
  none false = λ i. record c { accepted = same_mod c.accepted 256 accepted i; refused = same_mod c.refused 256 refused i; requests = same_mod c.requests 256 requests i }

-- ---- one packet after another

pub all_put : (p0 p1 p2 p3 p4 a b s n : List ℕ) → p0 ≡ [] → p1 ≡ p0 ++ a → p2 ≡ p1 ++ b → p3 ≡ p2 ++ s → p4 ≡ p3 ++ n → p4 ≡ a ++ b ++ s ++ n
all_put p0 p1 p2 p3 p4 a b s n none one two three four = four ∙ ap (λ p. p ++ n) three ∙ ap (λ p. p ++ s ++ n) two ∙ ap (λ p. p ++ b ++ s ++ n) one ∙ ap (λ p. p ++ a ++ b ++ s ++ n) none

-- ---- how long it is

pub shown_within : (shown : Shown) → shown_len shown ≤ 290
shown_within Nothing = omega arith
shown_within Housekeeping = omega arith
shown_within (Registry row) = omega arith

pub notice_within : (notice : Option Notice) → notice_len notice ≤ 12
notice_within None = omega arith
notice_within (Some notice) = omega arith
