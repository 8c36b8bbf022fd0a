-- A request was made: what it did, and the boot after it if a call of the store was stopped.
use Rattle.std.proofs.Common.{◌≡◌, ◌≢◌, ◌∙◌, ℕ, suc, List, false, not, Option, Some, None, refl, sym, ap, subst, inl, arith}
use Rattle.tbl_kinds.specs.Blocks.{Store as Blocks}
use Rattle.tbl_kinds.specs.StoreCalls.{StoreCall}
use Rattle.tbl_model.specs.State.{State, Tables}
use Rattle.tbl_model.specs.Effects as model
use Rattle.tbl_model.specs.Given.{Given}
use Rattle.tbl_model.specs.Counts.{is_reset}
use Rattle.tbl_model.specs.StoreNotes.{Ends, boot_in}
use Rattle.tbl_model.specs.Fit.{AreFit}
use Rattle.tbl_laws.proofs.Ordinary.{fit_at_first}
use Rattle.tbl_kinds.specs.declared.note.BankNote.{BankNote}
use Rattle.tbl_kinds.specs.declared.note.Outcome.{Outcome}
use Rattle.tbl_kinds.specs.declared.note.Outcome.TheVariants.{Untouched, Done, Failed, Stopped}
use Rattle.tbl_kinds.specs.declared.request.Request.{Request}
use Rattle.tbl_kinds.specs.declared.request.Request.TheVariants as ask
use Rattle.tbl_kinds.specs.declared.request.ResetKind.{ResetKind}
use Rattle.tbl_kinds.specs.declared.request.ResetKind.TheVariants.{Processor}
use Rattle.tbl_outside.specs.declared.validator.KitEntry.{KitEntry}
use Rattle.tbl_session.specs.Crashes.{DuringCalls}
use Rattle.tbl_kinds.specs.StoreSteps.{Shows as ShowsBlocks}
use Rattle.tbl_outside.proofs.Moments.{goes_on}
use Rattle.tbl_laws.proofs.Crashes.{behind_calls}
use Rattle.cds_layout.specs.Images.{store_of}
use Rattle.store_requests.specs.Called.{Leaving, boots_after}
use Rattle.tbl_core.specs.BankAsked.{BootAsks, BankAsked}
use Rattle.tbl_core.specs.Booting.{BootsIfStopped}
use Rattle.tbl_core.specs.Ended.{boot_only}
use Rattle.tbl_kinds.specs.Notes.{untouched}
use Rattle.request_effects.specs.Effects.{given_of}
use Rattle.tbl_core.specs.Service.{PartsView, HoldsAll, state_of, step_of, EndsIn, HasEffect, Has, Makes, Meets, IsMade, after_stop}
use Rattle.tbl_core.specs.Verdicts.{Judged}
use Rattle.request_effects.specs.Effects.{Effect}
use Rattle.tbl_core.specs.Pins.{HaveImages, PinsGoOn}
use Rattle.tbl_core.proofs.Pinning.{stopped_pins}
use Rattle.tbl_core.proofs.StoreRequests.{boot_at, no_boot_at}
use Rattle.tbl_core.proofs.Trouble.{troubled_after, caused_after}
use Rattle.tbl_outside.specs.declared.bank.Bank.{Ghosts}
use Rattle.tbl_outside.specs.declared.validator.Validator.{Ghosts as ValidatorGhosts}

-- without a stop no boot comes
module _ {B C : Type 0} (g : Ghosts B) (held : PartsView B C) (note : BankNote) where
  same_parts : (outcome : Outcome) → outcome ≢ Stopped → held ≡ after_stop outcome note held.store held
  same_parts Untouched goes = refl
  same_parts Done goes = refl
  same_parts Failed goes = refl
  same_parts Stopped goes = absurd (goes refl)

  same_state : (outcome : Outcome) → outcome ≢ Stopped → (s : State) → HoldsAll g held s → HoldsAll g held (boots_after outcome note s)
  same_state Untouched goes s holds = holds
  same_state Done goes s holds = holds
  same_state Failed goes s holds = holds
  same_state Stopped goes s holds = absurd (goes refl)

  same_note : (outcome : Outcome) → outcome ≢ Stopped → boot_only outcome note ≡ untouched
  same_note Untouched goes = refl
  same_note Done goes = refl
  same_note Failed goes = refl
  same_note Stopped goes = absurd (goes refl)

  pub no_boot : note.outcome ≢ Stopped → BootsIfStopped g note note held held
  no_boot goes = record {
    follows = record { ended = note.ended; stopped = note.stopped; found = note.found; is = refl; same = λ _. refl };
    held = same_parts note.outcome goes;
    booted = λ stop. absurd (goes stop);
    boots = λ told. same_state note.outcome goes;
    finds = λ told s holds stop. absurd (goes stop);
    trouble = rw (same_note note.outcome goes) (record { fault_count = omega arith; stop_count = omega arith; fault = inl (omega arith); stop = inl (omega arith); no_fault = λ _. refl; no_stop = λ _. refl });
    asked = λ told stop. absurd (goes stop);
    moments = λ told s holds stop. absurd (goes stop);
  }

-- only a stop changes which boot comes
same_boot : (request : Request) → (boot_in request Untouched ≡ boot_in request Done) × (boot_in request Untouched ≡ boot_in request Failed)
same_boot (ask.Reset kind) = (refl, refl)
same_boot request = (refl, refl)

module _ {B C : Type 0} (g : Ghosts B) (v : ValidatorGhosts C) (old mid new : PartsView B C) (request : Request) (means : State → Given → Option model.Effect)
    (called : Effect) (note : BankNote) (makes : Makes g v request old mid called) (meets : Meets g v (step_of old mid request) means called)
    (boot : BootsIfStopped g called.note note mid new) (plain : called.note.outcome ≡ Stopped → is_reset request ≡ false) where
  abbrev pub done : Effect
  done = record called { note = note }

  same_kit : new.kit ≡ mid.kit
  same_kit = by called.note.outcome boot.held where
    by : (outcome : Outcome) → new ≡ after_stop outcome note new.store mid → new.kit ≡ mid.kit
    by Untouched is = ap (λ (h : PartsView B C). h.kit) is
    by Done is = ap (λ (h : PartsView B C). h.kit) is
    by Failed is = ap (λ (h : PartsView B C). h.kit) is
    by Stopped is = ap (λ (h : PartsView B C). h.kit) is

  fit_on : (n : ℕ) → AreFit n (state_of mid) → AreFit n (state_of new)
  fit_on n fit = by called.note.outcome boot.held where
    by : (outcome : Outcome) → new ≡ after_stop outcome note new.store mid → AreFit n (state_of new)
    by Untouched is = rw is fit
    by Done is = rw is fit
    by Failed is = rw is fit
    by Stopped is = fit_at_first n (state_of new) (ap (λ (h : PartsView B C). h.tables) is) (ap (λ (h : PartsView B C). h.pending) is)

  ended : new.ended ≡ note.ended
  ended = by called.note.outcome refl boot.held where
    stays : called.note.outcome ≢ Stopped → new.ended ≡ mid.ended → new.ended ≡ note.ended
    stays goes is = is ∙ makes.ended ∙ sym (ap (λ (n : BankNote). n.ended) (boot.follows.same goes))

    by : (outcome : Outcome) → called.note.outcome ≡ outcome → new ≡ after_stop outcome note new.store mid → new.ended ≡ note.ended
    by Untouched at is = stays (λ stop. cc (at, stop)) (ap (λ (h : PartsView B C). h.ended) is)
    by Done at is = stays (λ stop. cc (at, stop)) (ap (λ (h : PartsView B C). h.ended) is)
    by Failed at is = stays (λ stop. cc (at, stop)) (ap (λ (h : PartsView B C). h.ended) is)
    by Stopped at is = ap (λ (h : PartsView B C). h.ended) is

  pins : HaveImages old.tables → HaveImages new.tables × PinsGoOn old.tables new.tables request called.answer.status
  pins has = by called.note.outcome refl boot.held where
    stays : new.tables ≡ mid.tables → HaveImages new.tables × PinsGoOn old.tables new.tables request called.answer.status
    stays same = subst (λ (tables : Tables). HaveImages tables × PinsGoOn old.tables tables request called.answer.status) (sym same) (makes.pins has)

    by : (outcome : Outcome) → called.note.outcome ≡ outcome → new ≡ after_stop outcome note new.store mid → HaveImages new.tables × PinsGoOn old.tables new.tables request called.answer.status
    by Untouched at is = stays (ap (λ (h : PartsView B C). h.tables) is)
    by Done at is = stays (ap (λ (h : PartsView B C). h.tables) is)
    by Failed at is = stays (ap (λ (h : PartsView B C). h.tables) is)
    by Stopped at is = stopped_pins old.tables new.tables request called.answer.status (makes.stopped at).0 (ap (λ (h : PartsView B C). h.tables) is)

  booted_on : new.store.booted ≡ not new.ended
  booted_on = by called.note.outcome refl boot.held where
    by : (outcome : Outcome) → called.note.outcome ≡ outcome → new ≡ after_stop outcome note new.store mid → new.store.booted ≡ not new.ended
    by Untouched at is = rw is makes.booted
    by Done at is = rw is makes.booted
    by Failed at is = rw is makes.booted
    by Stopped at is = boot.booted at ∙ sym (ap not ended)

  has_left : g.tells → (s : State) → HoldsAll g old s → (e : model.Effect) × (means s (given_of done) ≡ Some e) × HasEffect g v (step_of old mid request) s called note e
  has_left told s holds = by (means s (given_of done)) refl (meets told s holds note boot.follows) where
    by : (is : Option model.Effect) → means s (given_of done) ≡ is → Has g v (step_of old mid request) s called note is
        → (e : model.Effect) × (means s (given_of done) ≡ Some e) × HasEffect g v (step_of old mid request) s called note e
    by None at has = absurd has
    by (Some e) at has = (e, at, has)

  -- a reset inside the request leaves what its calls make of the blocks, also while the service boots after one that was stopped
  moments_after : g.tells → (s : State) → HoldsAll g old s → (e : model.Effect) → HasEffect g v (step_of old mid request) s called note e
      → Leaving g old.store new.store (EndsIn request e.calls s.store)
  moments_after told s holds e has = by called.note.outcome refl boot.held where
    outcome : note.outcome ≡ called.note.outcome
    outcome = ap (λ (n : BankNote). n.outcome) boot.follows.is

    ends : Ends note.outcome e.calls s.store note
    ends = (has.noted (λ stopped. boot.finds told has.before has.holds (sym outcome ∙ stopped))).ends

    stays : new ≡ mid → Leaving g old.store new.store (EndsIn request e.calls s.store)
    stays is = subst (λ (h : PartsView B C). Leaving g old.store h.store (EndsIn request e.calls s.store)) (sym is) has.moments

    booted_after : called.note.outcome ≡ Stopped → (left : Blocks) → ShowsBlocks has.before.store left → EndsIn request e.calls s.store left
    booted_after at left shows =
        inl (subst (λ (calls : List StoreCall). DuringCalls calls s.store left) (sym (has.writing (outcome ∙ at)))
        (behind_calls e.calls note s.store left ends (subst (λ (blocks : Blocks). ShowsBlocks blocks left) (has.left (outcome ∙ at)) shows)))

    by : (outcome : Outcome) → called.note.outcome ≡ outcome → new ≡ after_stop outcome note new.store mid → Leaving g old.store new.store (EndsIn request e.calls s.store)
    by Untouched at is = stays is
    by Done at is = stays is
    by Failed at is = stays is
    by Stopped at is = λ m. goes_on (has.moments m) (boot.moments told has.before has.holds at m) (λ image shows. booted_after at (store_of image) shows)

  -- what the bank was asked in the boot comes after what it was asked before
  asked_after : g.tells → (s : State) (e : model.Effect) → HasEffect g v (step_of old mid request) s called note e → BankAsked g (boot_in request note.outcome) old.store new.store e.calls s.store note
  asked_after told s e has = by called.note.outcome refl boot.held where
    outcome : note.outcome ≡ called.note.outcome
    outcome = ap (λ (n : BankNote). n.outcome) boot.follows.is

    stays : new ≡ mid → boot_in request Untouched ≡ boot_in request note.outcome → BankAsked g (boot_in request note.outcome) old.store new.store e.calls s.store note
    stays is none =
        subst (λ (h : PartsView B C). BankAsked g (boot_in request note.outcome) old.store h.store e.calls s.store note) (sym is)
        (subst (λ (boots : Option ResetKind). BankAsked g boots old.store mid.store e.calls s.store note) none has.asked)

    by : (o : Outcome) → called.note.outcome ≡ o → new ≡ after_stop o note new.store mid → BankAsked g (boot_in request note.outcome) old.store new.store e.calls s.store note
    by Untouched at is = stays is (ap (boot_in request) (sym (outcome ∙ at)))
    by Done at is = stays is ((same_boot request).0 ∙ ap (boot_in request) (sym (outcome ∙ at)))
    by Failed at is = stays is ((same_boot request).1 ∙ ap (boot_in request) (sym (outcome ∙ at)))
    by Stopped at is =
        let still : mid.store.bank ≡ has.asked.called.bank = subst (λ (boots : Option ResetKind). BootAsks g boots has.asked.called.bank mid.store.bank (not note.ended)) (no_boot_at request (plain at)).0 has.asked.booted in record {
          called = has.asked.called;
          asked = has.asked.asked;
          blocks_left = has.asked.blocks_left;
          booted = subst (λ (boots : Option ResetKind). BootAsks g boots has.asked.called.bank new.store.bank (not note.ended)) (sym (ap (boot_in request) (outcome ∙ at) ∙ boot_at request (plain at)))
              (subst (λ (bank : B). BootAsks g (Some Processor) bank new.store.bank (not note.ended)) still (boot.asked told at));
        }

  pub is_made : IsMade g v (step_of old new request) means done
  is_made = record {
    effect = λ told s holds.
        let e = has_left told s holds in
        let has = e.2 in
        let outcome : note.outcome ≡ called.note.outcome = ap (λ (n : BankNote). n.outcome) boot.follows.is in (
          e.0,
          e.1,
          record {
            told = record {
              status = has.effect.status;
              detail = has.effect.detail;
              bytes = has.effect.bytes;
              table = has.effect.table;
              events = has.effect.events;
              shown = has.effect.shown;
              questions = refl;
              calls = refl;
              notice = has.effect.notice;
              next = refl;
            };
            holds = subst (HoldsAll g new) (sym (has.effect.next ∙ ap (λ (o : Outcome). boots_after o note has.before) outcome)) (boot.boots told has.before has.holds);
            judged = subst (λ (kit : List (Option (KitEntry C))). Judged v old.kit kit e.0.questions called.verdicts) (sym same_kit) has.judged;
            noted = has.noted (λ stopped. boot.finds told has.before has.holds (sym outcome ∙ stopped));
            gave = has.gave;
            asked = asked_after told s e.0 has;
            moments = moments_after told s holds e.0 has;
          },
        );
    fit = λ n fits. fit_on (suc n) (makes.fit n fits);
    judged = (makes.judged.0, subst (λ (kit : List (Option (KitEntry C))). Judged v old.kit kit makes.judged.0 called.verdicts) (sym same_kit) makes.judged.1);
    two = makes.two;
    booted = booted_on;
    ended = ended;
    trouble = troubled_after g old.store.bank mid.store.bank new.store.bank called.note note boot.follows (λ is. (makes.stopped is).1) makes.trouble boot.trouble;
    cause = caused_after called.answer.status called.note note boot.follows (λ is. (makes.stopped is).1) makes.cause;
    pins = pins;
  }
