-- From what a step did to the core to the legal history.
use Rattle.std.proofs.Common.{◌≡◌, ℕ, suc, false, List, [], ◌∷◌, ◌++◌, length, Some, Result, Ok, Err, refl, sym, ap, subst, ◌∙◌, length-append, arith}
use Rattle.tbl_model.specs.State.{State, Tables}
use Rattle.tbl_kinds.specs.Requests.{Fits}
use Rattle.tbl_model.specs.Effects as model
use Rattle.tbl_model.specs.Dispatch.{effect_of}
use Rattle.tbl_model.specs.Counts.{Counts, counts_of}
use Rattle.tbl_model.specs.CountsAfter.{tally_of, counts_after}
use Rattle.tbl_model.specs.Replies.{packets_by, packets_of}
use Rattle.tbl_model.specs.History.{Run, begins_at, onward, onward_by, run_from, told, IsAnswered, AreAnswered}
use Rattle.tbl_model.proofs.CountsLaws.{counts_push}
use Rattle.tbl_model.proofs.HistoryLaws.{run_push, answered_push}
use Rattle.tbl_core.specs.BankAsked.{AsksOnce}
use Rattle.tbl_core.specs.Ended.{OnPlayed, session_end}
use Rattle.tbl_session.specs.Restores.{RestoresHeld}
use Rattle.store_requests.specs.Called.{Leaving}
use Rattle.request_effects.specs.Reports.{Reported}
use Rattle.request_effects.specs.Effects.{Effect, IsEffect, uncalled, given_of, without_images, told_at}
use Rattle.tbl_core.specs.Answers.{effect_in, moment_at, Answers}
use Rattle.tbl_core.specs.Numbers.{AreCounts}
use Rattle.tbl_core.specs.Service.{EngineView, core_of, Shows, Stands, step_of, HadEffect, IsMade, Plays, IsReady, IsAfter, PinsOnward}
use Rattle.tbl_core.specs.Verdicts.{Judged}
use Rattle.tbl_session.specs.Verdicts.{questions_in}
use Rattle.tbl_session.specs.Crashes.{all_calls_in, UnderWay}
use Rattle.tbl_core.proofs.Verdicts.{answers_each, few_more}
use Rattle.tbl_core.proofs.Nothing.{counts_below}
use Rattle.tbl_core.specs.Pins.{gets_after, HaveImages, PinsGoOn}
use Rattle.tbl_core.proofs.Places.{Kept, Changed, all_places, gets_on, image_on, got_on}
use Rattle.tbl_core.specs.declared.service.StepFault.{StepFault}
use Rattle.tbl_core.specs.declared.service.StepFault.TheVariants.{Memory, BootFault, BootStopped}
use Rattle.tbl_kinds.specs.declared.request.Actor.{Actor}
use Rattle.tbl_kinds.specs.declared.request.Request.{Request}
use Rattle.tbl_kinds.specs.declared.entry.Entry.{Entry}
use Rattle.tbl_outside.specs.declared.bank.Bank.{Ghosts}
use Rattle.tbl_outside.specs.declared.validator.Validator.{Ghosts as ValidatorGhosts}

-- ---- one effect

-- but for its images, questions and calls it is what the code has of it
same_but_images : (done : Effect) (e : model.Effect) → IsEffect done e.questions e.next (uncalled e) → e ≡ record (without_images done e.next) { images = e.images; questions = e.questions; calls = e.calls }
same_but_images done e is = λ i. record {
  status = is.status i;
  detail = is.detail i;
  bytes = is.bytes i;
  table = is.table i;
  events = is.events i;
  images = e.images;
  questions = e.questions;
  calls = e.calls;
  shown = is.shown i;
  notice = is.notice i;
  next = e.next;
}

-- telemetry doesn't report images, questions and calls, nor more of the state than the time and the tables
module _ (done : Effect) (seconds sub : ℕ) (actor : Actor) (request : Request) (s : State) (e : model.Effect) (is : IsEffect done e.questions e.next (uncalled e)) (same_seconds : s.seconds ≡ seconds) (same_sub : s.sub ≡ sub) where
  tally_same : (tables : Tables) → tally_of (told s actor request e) ≡ tally_of (told_at seconds sub tables request done)
  tally_same tables = rw (same_but_images done e is, ← same_seconds, ← same_sub) refl

  packets_same : (tables : Tables) (before after : Counts) → e.next.tables ≡ tables → packets_by before after (told s actor request e) ≡ packets_by before after (told_at seconds sub tables request done)
  packets_same tables before after same = rw (same_but_images done e is, ← same_seconds, ← same_sub, ← same) refl

-- ---- one request

-- what it keeps after a past, of what pins need
abbrev pub kept_of : {B C : Type 0} → List Entry → EngineView B C → Kept
kept_of past engine = record { entries = past; tables = engine.state.tables; gets = engine.gets }

-- what a request did, by its entry
pub record Did {B C : Type 0} (g : Ghosts B) (v : ValidatorGhosts C) (old new : EngineView B C) : Type 0 where
  pub began : Entry
  pub entry : Entry
  pub was : Reported
  pub report : Reported
  pub fits : Fits entry.actor entry.request
  pub live : old.state.ended ≡ false
  pub ready : IsReady v old
  pub answers : Answers g v (moment_at old.state old.counts was began) (moment_at new.state new.counts report entry)
  pub gets : new.gets ≡ gets_after old.gets old.played entry
  pub played : new.played ≡ suc old.played
  pub images : new.images ≡ suc old.images

module _ {B C : Type 0} (g : Ghosts B) (v : ValidatorGhosts C) (old new : EngineView B C) (did : Did g v old new) where
  abbrev entry : Entry
  entry = did.entry

  abbrev done : Effect
  done = effect_in did.entry did.report

  abbrev made : IsMade g v (step_of old.state new.state did.entry.request) (λ s given. effect_of s did.entry.actor did.entry.request given) (effect_in did.entry did.report)
  made = did.answers.made

  -- its effect, whatever run the core represented
  left : g.tells → (r : Run) → Shows g old.state old.counts r → (e : model.Effect) × (effect_of r.state entry.actor entry.request (given_of done) ≡ Some e) × HadEffect g v (step_of old.state new.state entry.request) r.state done e
  left told r shown = made.effect told r.state shown.state

  counted_on : (is_told : g.tells) (r : Run) (shown : Shows g old.state old.counts r) → counts_of (r.past ++ told r.state entry.actor entry.request (left is_told r shown).0 ∷ []) ≡ new.counts
  counted_on is_told r shown =
      let e = left is_told r shown in
      counts_push r.past (told r.state entry.actor entry.request e.0)
      ∙ ap (counts_after (counts_of r.past)) (tally_same done old.state.seconds old.state.sub entry.actor entry.request r.state e.0 e.2.told shown.state.parts.seconds shown.state.parts.sub new.state.tables)
      ∙ ap (λ c. counts_after c (tally_of (told_at old.state.seconds old.state.sub new.state.tables entry.request done))) shown.counts
      ∙ sym did.answers.told.counts

  answered : g.tells → (r : Run) → Shows g old.state old.counts r → IsAnswered r entry
  unfolding packets_of
  answered is_told r shown =
      let e = left is_told r shown in record {
        live = shown.state.parts.ended ∙ did.live;
        fits = did.fits;
        given = record { note = e.2.noted; verdicts = answers_each v.verdict old.state.kit e.0.questions done.verdicts made.two e.2.judged.gives };
        effect = e.0;
        effect_is = e.1;
        status = sym e.2.told.status;
        detail = sym e.2.told.detail;
        bytes = sym e.2.told.bytes;
        packets = did.answers.told.packets
            ∙ sym (packets_same done old.state.seconds old.state.sub entry.actor entry.request r.state e.0 e.2.told shown.state.parts.seconds shown.state.parts.sub new.state.tables old.counts new.counts e.2.holds.parts.tables)
            ∙ ap (λ c. packets_by c new.counts (told r.state entry.actor entry.request e.0)) (sym shown.counts)
            ∙ ap (λ c. packets_by (counts_of r.past) c (told r.state entry.actor entry.request e.0)) (sym (counted_on is_told r shown));
      }

  shows : g.tells → (r : Run) → Shows g old.state old.counts r → Shows g new.state new.counts (onward r entry)
  shows is_told r shown =
      let e = left is_told r shown in
      subst (λ found. Shows g new.state new.counts (onward_by r entry found)) (sym e.1) (record { state = e.2.holds; counts = counted_on is_told r shown })

  judged : g.tells → (r : Run) → Shows g old.state old.counts r → Judged v old.state.kit new.state.kit (questions_in r entry) entry.given.verdicts
  judged is_told r shown = rw (left is_told r shown).1 (left is_told r shown).2.judged

  gave : g.tells → (r : Run) → Shows g old.state old.counts r → RestoresHeld (g.now old.state.store.bank) (all_calls_in r entry) r.state.store entry.given.note
  gave is_told r shown = rw (left is_told r shown).1 (left is_told r shown).2.gave

  bank_asked : g.tells → (r : Run) → Shows g old.state old.counts r → AsksOnce g old.state.store new.state.store r entry
  bank_asked is_told r shown = rw (left is_told r shown).1 (left is_told r shown).2.asked

  moments : g.tells → (r : Run) → Shows g old.state old.counts r → Leaving g old.state.store new.state.store (UnderWay r entry)
  moments is_told r shown = rw (left is_told r shown).1 (left is_told r shown).2.moments

  -- ---- its pins

  pins_on : HaveImages new.state.tables × PinsGoOn old.state.tables new.state.tables entry.request entry.reply.status
  pins_on = made.pins did.ready.images

  ready : IsReady v new
  ready = record {
    fit = rw did.images (made.fit old.images did.ready.fit);
    few = omega (arith, did.images, did.played, did.ready.few);
    booted = made.booted;
    kit = rw did.played (few_more v old.state.kit new.state.kit made.judged.0 done.verdicts old.played made.two made.judged.1 did.ready.kit);
    images = pins_on.0;
    numbers = subst AreCounts (sym did.answers.told.counts) (counts_below old.counts (tally_of (told_at old.state.seconds old.state.sub new.state.tables entry.request done)));
    places = ap length did.gets ∙ all_places old.gets old.played entry.reply.status entry.request ∙ did.ready.places;
  }

  -- ---- after a past

  module _ (past : List Entry) (before : IsAfter past old) where
    changed : Changed (kept_of past old) (kept_of (past ++ entry ∷ []) new) entry
    changed = record { added = refl; gets = did.gets ∙ ap (λ (place : ℕ). gets_after old.gets place entry) (sym before.played); pins = pins_on.1; places = did.ready.places }

    after_it : IsAfter (past ++ entry ∷ []) new
    after_it = record {
      played = length-append past (entry ∷ []) ∙ omega (arith, before.played, did.played);
      gets = gets_on (kept_of past old) (kept_of (past ++ entry ∷ []) new) entry changed before.gets;
    }

    pins_onward : PinsOnward (core_of past old) (core_of (past ++ entry ∷ []) new)
    pins_onward = record {
      each = image_on (kept_of past old) (kept_of (past ++ entry ∷ []) new) entry changed;
      got = got_on (kept_of past old) (kept_of (past ++ entry ∷ []) new) entry changed;
    }

  pub did_play : (actor : Actor) (request : Request) → entry.actor ≡ actor → entry.request ≡ request → (result : Result Unit StepFault) → result ≡ session_end entry.given.note → Plays g v old new (actor, request) entry result
  did_play actor request by of result ends = record {
    actor_is = by;
    request_is = of;
    answered = answered;
    shows = shows;
    ended = made.ended;
    ends = ends;
    ready = ready;
    judged = judged;
    kit = made.judged;
    gave = gave;
    bank_asked = bank_asked;
    trouble = made.trouble;
    cause = made.cause;
    moments = moments;
    small = did.answers.small;
    after = after_it;
    pins = pins_onward;
  }

-- ---- the history

-- a step that played a request leads from each opening and past that the engine represented to one that it represents
module _ {B C : Type 0} (g : Ghosts B) (v : ValidatorGhosts C) (old new : EngineView B C) (actor : Actor) (request : Request) (e : Entry) (result : Result Unit StepFault)
    (p : Plays g v old new (actor, request) e result) (opening : State) (past : List Entry) (stood : Stands g opening past old) where
  goes_on : g.tells → AreAnswered (begins_at opening) (past ++ e ∷ []) × Shows g new.state new.counts (run_from (begins_at opening) (past ++ e ∷ []))
  goes_on told =
      let run = run_from (begins_at opening) past in (
        answered_push (begins_at opening) past e (stood.legal told).answered (p.answered told run (stood.shows told)),
        subst (λ (r : Run). Shows g new.state new.counts r) (sym (run_push (begins_at opening) past e)) (p.shows told run (stood.shows told)),
      )

  pub plays_on : Stands g opening (past ++ e ∷ []) new
  plays_on = record { legal = λ told. record { answered = (goes_on told).0; leads = refl }; shows = λ told. (goes_on told).1 }

-- what follows from a request that was played
pub on_played : {P Q : Type 0} (r : Result Unit StepFault) → (P → Q) → OnPlayed r P → OnPlayed r Q
on_played (Ok x) f p = f p
on_played (Err Memory) f p = tt
on_played (Err BootFault) f p = f p
on_played (Err BootStopped) f p = f p

pub played : {P : Type 0} (r : Result Unit StepFault) → P → OnPlayed r P
played (Ok x) p = p
played (Err Memory) p = tt
played (Err BootFault) p = p
played (Err BootStopped) p = p
