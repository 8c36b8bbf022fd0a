-- A request that no packet reports adds nothing to what telemetry counts.
use Rattle.std.proofs.Common.{◌≡◌, ◌∙◌, ◌+◌, ◌%◌, ◌<◌, ℕ, [], ◌&&◌, Bool, true, false, cond, None, refl, sym, ap, arith}
use Rattle.std.proofs.Math.Nat.{mod-lt, mod-eq_of_lt}
use Rattle.tbl_kinds.specs.Statuses.{is_success}
use Rattle.tbl_model.specs.State.{Tables}
use Rattle.tbl_model.specs.Commands.{read_command_in}
use Rattle.tbl_model.specs.Counts.{Counts, no_counts, is_reset, is_stopped, asks_load, load_file_of}
use Rattle.tbl_model.specs.CountsAfter.{Tally, bit, tally_of, counts_after, no_tally}
use Rattle.tbl_model.specs.declared.telemetry.Shown.TheVariants.{Nothing}
use Rattle.tbl_kinds.specs.declared.request.Request.{Request}
use Rattle.tbl_kinds.specs.declared.request.Request.TheVariants as ask
use Rattle.request_effects.specs.Effects.{Effect, told_at, seen_at, without_images}
use Rattle.tbl_core.specs.Requests.{is_command, is_uplink, told_handle}
use Rattle.reply_packets.specs.Telling.{Tells}
use Rattle.tbl_core.specs.Numbers.{AreCounts}

-- ---- the request

-- it is no command, no Reset and no load
pub record IsSilent (request : Request) : Type 0 where
  pub no_command : read_command_in request ≡ None
  pub no_reset : is_reset request ≡ false
  pub no_load : asks_load request None ≡ false
  pub no_file : load_file_of request None ≡ None

pub silent : (request : Request) → is_command request ≡ false → is_reset request ≡ false → told_handle request ≡ None → IsSilent request
silent (ask.Command packet) plain stays untold = absurd (cc plain)
silent (ask.Reset kind) plain stays untold = absurd (cc stays)
silent (ask.LoadImage handle image) plain stays untold = absurd (cc untold)
silent (ask.LoadFile handle name) plain stays untold = absurd (cc untold)
silent request plain stays untold = record { no_command = refl; no_reset = refl; no_load = refl; no_file = refl }

pub silent_uplink : (request : Request) → is_uplink request ≡ true → IsSilent request
silent_uplink (ask.File file) is = record { no_command = refl; no_reset = refl; no_load = refl; no_file = refl }
silent_uplink (ask.Time seconds sub) is = record { no_command = refl; no_reset = refl; no_load = refl; no_file = refl }
silent_uplink request is = absurd (cc is)

-- ---- the counts

and_false : (b : Bool) → (b && false) ≡ false
and_false true = refl
and_false false = refl

pub either : {X : Type 0} (b : Bool) (x : X) → cond b x x ≡ x
either true x = refl
either false x = refl

same : (n m : ℕ) → n < m → (n + 0) % m ≡ n
same n m low = let none : n + 0 ≡ n = omega arith in ap (λ (k : ℕ). k % m) none ∙ mod-eq_of_lt low

pub counts_stay : (c : Counts) → AreCounts c → counts_after c no_tally ≡ c
counts_stay c are = λ i. record {
  accepted = same c.accepted 256 are.accepted i;
  refused = same c.refused 256 are.refused i;
  finished = same c.finished 65536 are.finished i;
  good = same c.good 256 are.good i;
  bad = same c.bad 256 are.bad i;
  requests = same c.requests 256 are.requests i;
  events = same c.events 16384 are.events i;
  housekeepings = same c.housekeepings 16384 are.housekeepings i;
  registries = same c.registries 16384 are.registries i;
  notices = same c.notices 16384 are.notices i;
  validation = c.validation;
  update = c.update;
  loaded = c.loaded;
  loaded_file = c.loaded_file;
  dumped_file = c.dumped_file;
}

below : (b : Bool) (n m : ℕ) → 0 < m → cond b 0 (n % m) < m
below true n m some = some
below false n m some = mod-lt n some

-- what is counted stays below its modulus
pub counts_below : (c : Counts) (t : Tally) → AreCounts (counts_after c t)
counts_below c t = record {
  accepted = below t.cleared (c.accepted + bit t.accepted) 256 (omega arith);
  refused = below t.cleared (c.refused + bit t.refused) 256 (omega arith);
  finished = below t.cleared (c.finished + t.finished) 65536 (omega arith);
  good = below t.cleared (c.good + t.good) 256 (omega arith);
  bad = below t.cleared (c.bad + t.bad) 256 (omega arith);
  requests = below t.cleared (c.requests + bit t.request) 256 (omega arith);
  events = below t.restarted (c.events + t.events) 16384 (omega arith);
  housekeepings = below t.restarted (c.housekeepings + bit t.housekeeping) 16384 (omega arith);
  registries = below t.restarted (c.registries + bit t.registry) 16384 (omega arith);
  notices = below t.restarted (c.notices + bit t.notice) 16384 (omega arith);
}

pub none_counted : AreCounts no_counts
none_counted = record {
  accepted = omega arith;
  refused = omega arith;
  finished = omega arith;
  good = omega arith;
  bad = omega arith;
  requests = omega arith;
  events = omega arith;
  housekeepings = omega arith;
  registries = omega arith;
  notices = omega arith;
}

-- ---- what is reported

module _ (seconds sub : ℕ) (tables : Tables) (request : Request) (done : Effect) (quiet : IsSilent request)
    (goes : is_stopped (without_images done (seen_at seconds sub tables)) ≡ false) (no_events : done.events ≡ []) (no_shown : done.shown ≡ Nothing) (no_notice : done.notice ≡ None) where
  no_more : tally_of (told_at seconds sub tables request done) ≡ no_tally
  no_more = rw (quiet.no_command, quiet.no_reset, quiet.no_load, quiet.no_file, goes, no_events, no_shown, no_notice, and_false (is_success done.answer.status)) (λ i. record no_tally { loaded_file = either (is_success done.answer.status) None i })

  pub nothing_told : (c : Counts) → AreCounts c → Tells c c (told_at seconds sub tables request done) []
  nothing_told c are = record {
    packets = rw (goes, quiet.no_command, no_events, no_shown, no_notice) refl;
    counts = sym (ap (counts_after c) no_more ∙ counts_stay c are);
  }
