-- A request was made in which no call of the store was stopped, and its entry has what it did.
use Rattle.std.proofs.Common.{◌≡◌, ◌==◌, [], Bool, true, false, Option, Result, Ok, Err, refl, sym, ap, subst, arith}
use Rattle.std.specs.Result.{is_err}
use Rattle.std.proofs.lemmas.Bool.{eqb-true}
use Rattle.tbl_kinds.specs.Notes.{untouched}
use Rattle.tbl_kinds.specs.Blocks.{Store as Blocks}
use Rattle.tbl_kinds.specs.declared.note.BankNote.{BankNote}
use Rattle.tbl_kinds.specs.declared.note.Outcome.TheVariants.{Untouched}
use Rattle.tbl_kinds.specs.declared.status.Status.{Status}
use Rattle.tbl_kinds.specs.declared.status.TheConstants.Status.{INFO_STOPPED}
use Rattle.tbl_model.specs.State.{State}
use Rattle.tbl_model.specs.Effects as model
use Rattle.tbl_model.specs.Given.{Given}
use Rattle.tbl_model.specs.BankCounts.{HasCause}
use Rattle.tbl_model.specs.Dispatch.{effect_of}
use Rattle.tbl_kinds.specs.declared.request.Request.{Request}
use Rattle.cds_store.specs.StoreBlocks.{StandsFor as HasBlocks}
use Rattle.tbl_session.specs.Crashes.{DuringCalls}
use Rattle.store_requests.specs.Called.{Leaving}
use Rattle.request_effects.specs.Reports.{Reported, nothing_reported}
use Rattle.request_effects.specs.Effects.{Effect, told_at}
use Rattle.reply_packets.specs.Telling.{Tells}
use Rattle.tbl_core.specs.Answers.{Moment, moment_at, effect_in, Answers, Answered, AnsweredAlone}
use Rattle.tbl_core.specs.Numbers.{AreCounts}
use Rattle.tbl_kinds.specs.declared.entry.Entry.{Entry}
use Rattle.tbl_model.specs.Counts.{Counts}
use Rattle.tbl_core.specs.Service.{PartsView, step_of, AreReady, Does, Makes, Meets, IsMade}
use Rattle.tbl_core.proofs.BootedAfter.{is_made, no_boot}
use Rattle.tbl_core.proofs.Nothing.{IsSilent, nothing_told}
use Rattle.tbl_core.proofs.TableRequests.{table_makes, table_meets}
use Rattle.tbl_outside.specs.declared.bank.Bank.{Ghosts}
use Rattle.tbl_outside.specs.declared.validator.Validator.{Ghosts as ValidatorGhosts}

-- without a call of the store no answer reports a stop
pub not_stopped : (status : Status) (note : BankNote) → note ≡ untouched → HasCause status note → (status.0 == INFO_STOPPED.0) ≡ false
not_stopped status note none cause = by (status.0 == INFO_STOPPED.0) refl where
  by : (b : Bool) → (status.0 == INFO_STOPPED.0) ≡ b → (status.0 == INFO_STOPPED.0) ≡ false
  by false is = is
  by true is =
      let same : status ≡ INFO_STOPPED = λ i. record { 0 = eqb-true status.0 INFO_STOPPED.0 is i } in
      absurd ((subst (λ (n : BankNote). HasCause status n) none cause).stop same refl)

module _ {B C : Type 0} (g : Ghosts B) (v : ValidatorGhosts C) (old new : PartsView B C) (request : Request) (means : State → Given → Option model.Effect) (done : Effect)
    (makes : Makes g v request old new done) (meets : Meets g v (step_of old new request) means done) (none : done.note.outcome ≡ Untouched) where
  -- no boot comes after it
  pub made_plainly : IsMade g v (step_of old new request) means done
  made_plainly = is_made g v old new new request means done done.note makes meets
      (no_boot g new done.note (λ stop. cc (stop, none))) (λ stop. absurd (cc (stop, none)))

-- a request about tables was done that no packet reports
module _ {B C : Type 0} (g : Ghosts B) (v : ValidatorGhosts C) (old new : Moment B C)
    (same_actor : new.entry.actor ≡ old.entry.actor) (same_request : new.entry.request ≡ old.entry.request) (silent : IsSilent new.entry.request)
    (does : Does v 0 old.parts new.parts (λ s given. effect_of s new.entry.actor new.entry.request given) (effect_in new.entry nothing_reported))
    (ready : AreReady v old.parts)
    (moved : g.tells → (blocks : Blocks) → HasBlocks g.tells g.now old.parts.store blocks → Leaving g old.parts.store new.parts.store (DuringCalls [] blocks))
    (no_packets : new.entry.reply.packets.list ≡ []) (unreported : new.report ≡ nothing_reported) (same_counts : new.counts ≡ old.counts) (are : AreCounts old.counts) where
  makes : Makes g v new.entry.request old.parts new.parts (effect_in new.entry nothing_reported)
  makes = table_makes g v 0 old.parts new.parts new.entry.actor new.entry.request (effect_in new.entry nothing_reported) does (omega arith) ready silent.no_reset

  meets : Meets g v (step_of old.parts new.parts new.entry.request) (λ s given. effect_of s new.entry.actor new.entry.request given) (effect_in new.entry nothing_reported)
  meets = table_meets g v 0 old.parts new.parts new.entry.actor new.entry.request (effect_in new.entry nothing_reported) does (omega arith) ready moved silent.no_reset

  told : Tells old.counts new.counts (told_at old.parts.seconds old.parts.sub new.parts.tables new.entry.request (effect_in new.entry nothing_reported)) new.entry.reply.packets.list
  told = rw (no_packets, same_counts)
      (nothing_told old.parts.seconds old.parts.sub new.parts.tables new.entry.request (effect_in new.entry nothing_reported) silent (not_stopped new.entry.reply.status new.entry.given.note does.note makes.cause) refl refl refl old.counts are)

  pub quietly_answered : Answers g v old new
  quietly_answered =
      let made = made_plainly g v old.parts new.parts new.entry.request (λ s given. effect_of s new.entry.actor new.entry.request given) (effect_in new.entry nothing_reported) makes meets (ap (λ (n : BankNote). n.outcome) does.note) in
      record {
        actor_is = same_actor;
        request_is = same_request;
        made = subst (λ (r : Reported). IsMade g v (step_of old.parts new.parts new.entry.request) (λ s given. effect_of s new.entry.actor new.entry.request given) (effect_in new.entry r)) (sym unreported) made;
        told = subst (λ (r : Reported). Tells old.counts new.counts (told_at old.parts.seconds old.parts.sub new.parts.tables new.entry.request (effect_in new.entry r)) new.entry.reply.packets.list) (sym unreported) told;
        small = record { bytes = does.within.bytes; packets = rw no_packets (omega arith) };
      }

-- what holds if a request was answered
pub when_answered : {B C E : Type 0} (g : Ghosts B) (v : ValidatorGhosts C) (old new : Moment B C) (r : Result Unit E) → false ≡ is_err r → Answered g v old new r → Answers g v old new
when_answered g v old new (Ok x) is answers = answers
when_answered g v old new (Err e) is kept = absurd (cc is)

-- a request was answered that isn't counted
pub answered_alone : {B C E : Type 0} (g : Ghosts B) (v : ValidatorGhosts C) (old new : PartsView B C) (counts : Counts) (report : Reported) (begun entry : Entry) (r : Result Unit E) → AreCounts counts → report ≡ nothing_reported → AnsweredAlone g v old new begun entry r
    → Answered g v (moment_at old counts report begun) (moment_at new counts report entry) r
answered_alone g v old new counts report begun entry (Ok x) are none answers = subst (λ (r : Reported). Answers g v (moment_at old counts r begun) (moment_at new counts r entry)) (sym none) (answers counts are)
answered_alone g v old new counts report begun entry (Err e) are none kept = (kept, refl)
