-- The running numbers and the event packets, event by event, are those after all of a list.
use Rattle.std.proofs.Common.{◌≡◌, ℕ, ◌+◌, ◌%◌, ◌<◌, Bool, List, [], ◌∷◌, ◌++◌, length, map, take, drop, get_or, suc, add-one, drop-cons, refl, sym, ap, ◌∙◌, arith, append_assoc, length-append, Option, Some, None, unwrap_or, count_by}
use Rattle.std.specs.Option.{option_or}
use Rattle.std.proofs.lemmas.List.{take_more}
use Rattle.std.proofs.lemmas.List.Sums.{sum_by_push, fold_push}
use Rattle.std.proofs.Math.Nat.{mod-add-mod, mod-mod, mod-eq_of_lt}
use Rattle.tbl_kinds.specs.Packets.{telemetry_packet, event_id}
use Rattle.tbl_kinds.specs.Telemetry.{event_body}
use Rattle.tbl_kinds.specs.declared.telemetry.Event.{Event}
use Rattle.tbl_model.specs.Events.{sent_event}
use Rattle.tbl_model.specs.Counts.{Counts, latest, is_finished, is_finished_well, is_finished_badly, validation_of, updated_name, dump_of}
use Rattle.tbl_model.specs.CountsAfter.{bit}
use Rattle.tbl_model.specs.Replies.{head_at, event_packets}
use Rattle.tbl_model.specs.declared.telemetry.TelemetryEvent.{TelemetryEvent}
use Rattle.tbl_model.specs.declared.telemetry.TelemetryEvent.TheVariants.{Finished, Judged, Activated, CopyFailed, Dumped, NotDumped}
use Rattle.reply_packets.specs.Counters.{sent_events, counted_event, counted_events, latest_update}

-- ---- one event more

pub same_mod : (n m : ℕ) → n < m → (n + 0) % m ≡ n
same_mod n m fits = ap (λ k. k % m) (omega arith) ∙ mod-eq_of_lt fits

counted_more : {X : Type 0} (p : X → Bool) (m known : ℕ) (xs : List X) (x : X) → (known + count_by p (xs ++ x ∷ [])) % m ≡ ((known + count_by p xs) % m + bit (p x)) % m
counted_more p m known xs x =
    let pushed : count_by p (xs ++ x ∷ []) ≡ count_by p xs + bit (p x) = sum_by_push (λ y. bit (p y)) xs x in
    ap (λ n. (known + n) % m) pushed ∙ ap (λ n. n % m) (omega arith) ∙ sym (mod-add-mod (known + count_by p xs) m (bit (p x)))

newer : {Y : Type 0} (o known : Option Y) (none : Y) → unwrap_or (option_or o known) none ≡ unwrap_or o (unwrap_or known none)
newer None known none = refl
newer (Some y) known none = refl

latest_more : {X Y : Type 0} (pick : X → Option Y) (none : Y) (xs : List X) (x : X) → unwrap_or (latest pick (xs ++ x ∷ [])) none ≡ unwrap_or (pick x) (unwrap_or (latest pick xs) none)
latest_more pick none xs x = ap (λ o. unwrap_or o none) (fold_push (λ known x. option_or (pick x) known) None xs x) ∙ newer (pick x) (latest pick xs) none

-- the same without cases
abbrev any_event : ℕ → ℕ → TelemetryEvent → Counts → Counts
any_event seconds sub e c = record c {
  finished = (c.finished + bit (is_finished e)) % 65536;
  good = (c.good + bit (is_finished_well e)) % 256;
  bad = (c.bad + bit (is_finished_badly e)) % 256;
  validation = unwrap_or (validation_of e) c.validation;
  update = unwrap_or (latest_update seconds sub (updated_name e)) c.update;
  dumped_file = unwrap_or (dump_of e) c.dumped_file;
}

any_one_more : (seconds sub : ℕ) (es : List TelemetryEvent) (e : TelemetryEvent) (c : Counts)
    → counted_events seconds sub (es ++ e ∷ []) c ≡ any_event seconds sub e (sent_events 1 (counted_events seconds sub es c))
any_one_more seconds sub es e c =
    let finished = counted_more is_finished 65536 c.finished es e in
    let good = counted_more is_finished_well 256 c.good es e in
    let bad = counted_more is_finished_badly 256 c.bad es e in
    let events : (c.events + length (es ++ e ∷ [])) % 16384 ≡ ((c.events + length es) % 16384 + 1) % 16384 =
    ap (λ n. (c.events + n) % 16384) (length-append es (e ∷ [])) ∙ ap (λ n. n % 16384) (omega arith) ∙ sym (mod-add-mod (c.events + length es) 16384 1) in
    let validation = latest_more validation_of c.validation es e in
    let update = update_more (updated_name e) (latest updated_name es) ∙ refl in
    let named = ap (λ o. unwrap_or (latest_update seconds sub o) c.update) (fold_push (λ known x. option_or (updated_name x) known) None es e) in
    let updated = named ∙ update in
    let dumped = latest_more dump_of c.dumped_file es e in
    cc
  where
    update_more : (o known : Option (List ℕ)) → unwrap_or (latest_update seconds sub (option_or o known)) c.update ≡ unwrap_or (latest_update seconds sub o) (unwrap_or (latest_update seconds sub known) c.update)
    update_more None known = refl
    update_more (Some name) known = refl

unmoved : (n m : ℕ) → n % m ≡ (n % m + 0) % m
unmoved n m = sym (mod-mod n m) ∙ ap (λ k. k % m) (omega arith)

-- an event that reports no validation
abbrev still : Counts → List TelemetryEvent → Counts → Counts
still c es other = record other {
  finished = ((c.finished + count_by is_finished es) % 65536 + 0) % 65536;
  good = ((c.good + count_by is_finished_well es) % 256 + 0) % 256;
  bad = ((c.bad + count_by is_finished_badly es) % 256 + 0) % 256;
}

module _ (seconds sub : ℕ) (es : List TelemetryEvent) (c : Counts) where
  abbrev before : Counts
  before = sent_events 1 (counted_events seconds sub es c)

  stays : (other : Counts) → other.finished ≡ before.finished → other.good ≡ before.good → other.bad ≡ before.bad → other ≡ still c es other
  stays other finished good bad = λ i. record other {
    finished = (finished ∙ unmoved (c.finished + count_by is_finished es) 65536) i;
    good = (good ∙ unmoved (c.good + count_by is_finished_well es) 256) i;
    bad = (bad ∙ unmoved (c.bad + count_by is_finished_badly es) 256) i;
  }

  by_cases : (e : TelemetryEvent) → counted_event seconds sub e before ≡ any_event seconds sub e before
  by_cases (Finished row active check verdict name) = refl
  by_cases (Judged row verdict) = stays before refl refl refl
  by_cases (Activated row count name) = stays (record before { update = record { seconds = seconds; sub = sub; name = name } }) refl refl refl
  by_cases (CopyFailed row slot) = stays before refl refl refl
  by_cases (Dumped row file len) = stays (record before { dumped_file = file }) refl refl refl
  by_cases (NotDumped row) = stays before refl refl refl

  pub counted_one_more : (e : TelemetryEvent) → counted_events seconds sub (es ++ e ∷ []) c ≡ counted_event seconds sub e before
  counted_one_more e = any_one_more seconds sub es e c ∙ sym (by_cases e)

-- ---- event packets

-- a sequence count is below 16,384
pub counted_packets : (seconds sub n : ℕ) (es : List Event) → event_packets seconds sub (n % 16384) es ≡ event_packets seconds sub n es
counted_packets seconds sub n [] = refl
counted_packets seconds sub n (e ∷ es) =
    let next : event_packets seconds sub (n % 16384 + 1) es ≡ event_packets seconds sub (n + 1) es =
    sym (counted_packets seconds sub (n % 16384 + 1) es) ∙ ap (λ k. event_packets seconds sub k es) (mod-add-mod n 16384 1) ∙ counted_packets seconds sub (n + 1) es in
    ap (λ k. telemetry_packet event_id (record { count = k; seconds = seconds; sub = sub }) (event_body e) ++ event_packets seconds sub (n % 16384 + 1) es) (mod-mod n 16384)
    ∙ ap (λ rest. telemetry_packet event_id (head_at seconds sub n) (event_body e) ++ rest) next

pub joined_packets : (seconds sub n : ℕ) (xs ys : List Event) → event_packets seconds sub n (xs ++ ys) ≡ event_packets seconds sub n xs ++ event_packets seconds sub (n + length xs) ys
joined_packets seconds sub n [] ys = ap (λ k. event_packets seconds sub k ys) (omega arith)
joined_packets seconds sub n (x ∷ xs) ys =
    let head = telemetry_packet event_id (head_at seconds sub n) (event_body x) in
    ap (λ rest. head ++ rest) (joined_packets seconds sub (n + 1) xs ys ∙ ap (λ k. event_packets seconds sub (n + 1) xs ++ event_packets seconds sub k ys) (omega arith))
    ∙ sym (append_assoc head (event_packets seconds sub (n + 1) xs) (event_packets seconds sub (n + length (x ∷ xs)) ys))

-- after those of the one list come those of the other
pub later_packets : (seconds sub n : ℕ) (xs ys : List Event) → event_packets seconds sub n xs ++ event_packets seconds sub ((n + length xs) % 16384) ys ≡ event_packets seconds sub n (xs ++ ys)
later_packets seconds sub n xs ys = ap (λ rest. event_packets seconds sub n xs ++ rest) (counted_packets seconds sub (n + length xs) ys) ∙ sym (joined_packets seconds sub n xs ys)

-- ---- the next event of a list

module _ (seconds sub : ℕ) (xs : List TelemetryEvent) (i : ℕ) (e : TelemetryEvent) (there : e ≡ get_or xs i e) (within : i < length xs) where
  pub counted_next : (c : Counts) → counted_event seconds sub e (sent_events 1 (counted_events seconds sub (take i xs) c)) ≡ counted_events seconds sub (take (i + 1) xs) c
  counted_next c =
      sym (counted_one_more seconds sub (take i xs) c e)
      ∙ ap (λ (x : TelemetryEvent). counted_events seconds sub (take i xs ++ x ∷ []) c) there
      ∙ ap (λ (es : List TelemetryEvent). counted_events seconds sub es c) (sym (take_more xs i e within))

  pub put_next : (n next : ℕ) (before after : List ℕ) (sent : Event) → sent ≡ sent_event e → after ≡ before ++ event_packets seconds sub n (sent ∷ []) → next ≡ (n + 1) % 16384
      → after ++ event_packets seconds sub next (map sent_event (drop (i + 1) xs)) ≡ before ++ event_packets seconds sub n (map sent_event (drop i xs))
  put_next n next before after sent is put counted =
      let rest = map sent_event (drop (i + 1) xs) in
      let front : drop i xs ≡ e ∷ drop (i + 1) xs = drop-cons xs i e within ∙ ap (λ (x : TelemetryEvent). x ∷ drop (suc i) xs) (sym there) ∙ ap (λ k. e ∷ drop k xs) (sym (add-one i)) in
      (λ j. put j ++ event_packets seconds sub (counted j) rest)
      ∙ append_assoc before (event_packets seconds sub n (sent ∷ [])) (event_packets seconds sub ((n + 1) % 16384) rest)
      ∙ ap (λ sent. before ++ sent) (later_packets seconds sub n (sent ∷ []) rest)
      ∙ ap (λ (x : Event). before ++ event_packets seconds sub n (x ∷ rest)) is
      ∙ ap (λ (es : List TelemetryEvent). before ++ event_packets seconds sub n (map sent_event es)) (sym front)

pub same_events : (seconds sub : ℕ) (e : TelemetryEvent) (c : Counts) → (counted_event seconds sub e c).events ≡ c.events
same_events seconds sub (Finished row active check verdict name) c = refl
same_events seconds sub (Judged row verdict) c = refl
same_events seconds sub (Activated row count name) c = refl
same_events seconds sub (CopyFailed row slot) c = refl
same_events seconds sub (Dumped row file len) c = refl
same_events seconds sub (NotDumped row) c = refl
