-- A call of a table's owner, after which an image that went active was copied: what is made of it, over any bank and over one that shows
-- its bytes.
use Rattle.std.proofs.Common.{◌≡◌, ◌∙◌, ℕ, suc, List, [], length, true, false, not, Option, Some, None, ℤ, refl, sym, ap, subst, ◌⊎◌, inl, inr, arith}
use Rattle.std.specs.Option.{option_map}
use Rattle.std.proofs.lemmas.Bool.{cond_both}
use Rattle.tbl_kinds.specs.Blocks.{Store as Blocks}
use Rattle.tbl_kinds.specs.StoreCalls.{StoreCall}
use Rattle.tbl_kinds.specs.Notes.{untouched}
use Rattle.tbl_kinds.specs.declared.note.BankNote.{BankNote}
use Rattle.tbl_kinds.specs.declared.note.Outcome.TheVariants.{Stopped}
use Rattle.tbl_kinds.specs.declared.request.Actor.{Actor}
use Rattle.tbl_kinds.specs.declared.request.Request.{Request}
use Rattle.tbl_kinds.specs.declared.request.Request.TheVariants as ask
use Rattle.tbl_kinds.specs.declared.status.Status.{Status}
use Rattle.tbl_kinds.specs.declared.status.TheConstants.Status.{INFO_STOPPED}
use Rattle.tbl_kinds.specs.TableFiles.{TableFile}
use Rattle.tbl_model.specs.State.{State, Table, Tables}
use Rattle.tbl_model.specs.StoreNotes.{IsNoteOf}
use Rattle.tbl_model.proofs.NoteLaws.{may_be_untouched}
use Rattle.tbl_core.specs.Pins.{HaveImages, PinsGoOn}
use Rattle.tbl_core.proofs.Pinning.{law_pins, pins_with}
use Rattle.tbl_core.proofs.Telling.{activates_no_reset, activates_no_get}
use Rattle.tbl_model.specs.Tables.{table_at, is_critical}
use Rattle.tbl_model.specs.Effects as model
use Rattle.tbl_model.specs.Given.{Given}
use Rattle.tbl_model.specs.BankCounts.{stopped_once, HasCause}
use Rattle.tbl_model.specs.Copies.{went_active, block_of, copied_to, copied_of, then_copy}
use Rattle.tbl_model.specs.Refusals.{by_answer, by_refusal, closed_refusal, image_refusal, file_refusal}
use Rattle.tbl_model.specs.Subjects.{if_file}
use Rattle.tbl_model.specs.AppLoads.{activate_effect, by_function, from_file, file_image, load_file_of}
use Rattle.tbl_model.specs.Dispatch.{effect_of}
use Rattle.tbl_model.specs.Counts.{is_reset}
use Rattle.tbl_model.specs.Fit.{AreFit}
use Rattle.tbl_laws.proofs.Cases.{OfEffect}
use Rattle.tbl_laws.proofs.Causes.{caused}
use Rattle.tbl_laws.proofs.Ordinary.{IsOrdinary, ordinary}
use Rattle.tbl_core.specs.Requests.{activates}
use Rattle.store_requests.specs.Called.{with_boot}
use Rattle.request_effects.specs.Effects.{IsEffect, given_of}
use Rattle.tbl_core.specs.Owned.{owned_effect, owned_at}
use Rattle.tbl_core.specs.Answers.{WasMade}
use Rattle.tbl_core.specs.Service.{PartsView, IsStateOf, state_of, step_of, DoesAndCopies, Has, HasEffect, Makes, Meets, AreReady}
use Rattle.tbl_core.specs.Verdicts.{Judged}
use Rattle.cds_store.specs.StoreBlocks.{StandsFor as HasBlocks}
use Rattle.request_effects.specs.Effects.{Effect}
use Rattle.tbl_core.proofs.StoreRequests.{has_called}
use Rattle.tbl_core.proofs.TableRequests.{stands_in, state_is, effect_left, judged_there, fit_without}
use Rattle.tbl_outside.specs.declared.bank.Bank.{Ghosts}
use Rattle.tbl_outside.specs.declared.validator.Validator.{Ghosts as ValidatorGhosts}

-- ---- the model

-- over no blocks nothing is copied
pub uncopied : (row : ℕ) (note : BankNote) (e : model.Effect) → e.next.store ≡ [] → then_copy row note e ≡ e
uncopied row note e empty = cond_both (went_active e) _ _ (λ x. x ≡ e) (λ _. of (table_at e.next.tables row)) (λ _. refl) where
  none : (t : Table) → block_of t e.next.store ≡ None
  none t = rw empty refl

  to : (t : Table) (slot : Option ℕ) → slot ≡ None → copied_to row note e slot t.last ≡ e
  to t None is = refl
  to t (Some slot) is = absurd (cc is)

  of : (t : Option Table) → copied_of row note e t ≡ e
  of None = refl
  of (Some t) = cond_both (is_critical t) _ _ (λ x. x ≡ e) (λ _. to t (block_of t e.next.store) (none t)) (λ _. refl)

-- what the request does to the table takes verdicts alone from what is given
module _ (s : State) (row : ℕ) (one other : BankNote) (verdicts : List (Option ℤ)) where
  abbrev first : Given
  first = record { note = one; verdicts = verdicts }

  abbrev second : Given
  second = record { note = other; verdicts = verdicts }

  same_function : (image : List ℕ) (validator : Option ℕ) (e : model.Effect) → by_function s row image validator first e ≡ by_function s row image validator second e
  same_function image None e = refl
  same_function image (Some number) e = refl

  same_file : (name : List ℕ) (t : Table) (file : TableFile) → load_file_of s name first row t file ≡ load_file_of s name second row t file
  same_file name t file = ap (by_refusal s (file_refusal s.tables row t file)) (same_function (file_image t file) t.validator (from_file row name (activate_effect s row t (file_image t file))))

  same_effect : (t : Table) (request : Request) → activates request ≡ true → owned_effect s row t request first ≡ owned_effect s row t request second
  same_effect t (ask.LoadImage handle image) is = ap (λ e. Some (by_refusal s (image_refusal s.tables row t (length image.list)) e)) (same_function image.list t.validator (activate_effect s row t image.list))
  same_effect t (ask.LoadFile handle name) is = λ i. Some (by_answer s (closed_refusal t) (if_file s name (λ file. same_file name t file i)))
  same_effect t (ask.Update handle) is = refl
  same_effect t (ask.Manage handle) is = refl
  same_effect t request is = absurd (cc is)

  pub same_owned : (request : Request) → activates request ≡ true → owned_at (table_at s.tables row) s row request first ≡ owned_at (table_at s.tables row) s row request second
  same_owned request is = by (table_at s.tables row) where
    by : (t : Option Table) → owned_at t s row request first ≡ owned_at t s row request second
    by None = refl
    by (Some t) = same_effect t request is

-- ---- the request

module _ {B C : Type 0} (g : Ghosts B) (v : ValidatorGhosts C) (old new : PartsView B C) (actor : Actor) (request : Request) (row : ℕ) (done : Effect)
    (does : DoesAndCopies g v old new row request done)
    (can : activates request ≡ true) (ready : AreReady v old)
    (taken : (s : State) → IsStateOf s.store old s → (given : Given) → effect_of s actor request given ≡ option_map (then_copy row given.note) (owned_at (table_at s.tables row) s row request given)) where
  mid : PartsView B C
  mid = record new { store = old.store }

  -- what it did to the table, without blocks
  left : (e : model.Effect) × (owned_at (table_at old.tables row) (state_of old) row request (given_of does.before) ≡ Some e) × (IsEffect does.before e.questions e.next e) × (IsStateOf [] (record new { store = old.store }) e.next)
  left = effect_left [] does.before (record new { store = old.store }) _ (does.does.effect (state_of old) (stands_in old))

  -- nothing is copied then
  whole : effect_of (state_of old) actor request (given_of does.before) ≡ Some left.0
  whole = taken (state_of old) (stands_in old) (given_of does.before) ∙ ap (option_map (then_copy row does.before.note)) left.1 ∙ ap (λ (e : model.Effect). Some e) (uncopied row does.before.note left.0 left.3.store)

  ordinary_left : (n : ℕ) → AreFit n (state_of old) → IsOrdinary n does.before.note left.0
  ordinary_left n fit = subst (OfEffect (IsOrdinary n does.before.note)) whole (ordinary (state_of old) n ready.live fit actor request (given_of does.before))

  goes : new.ended ≡ false
  goes = sym left.3.ended ∙ (ordinary_left ready.fit.0 ready.fit.1).live (rw does.does.note refl)

  -- what was answered before the copy reports no trouble
  quiet : HasCause does.before.answer.status untouched
  quiet = subst (HasCause does.before.answer.status) does.does.note (subst (λ (status : Status). HasCause status does.before.note) left.2.status (subst (OfEffect (λ e. HasCause e.status does.before.note)) whole (caused (state_of old) (given_of does.before) actor request)))

  cause : HasCause done.answer.status done.note
  cause = by does.copied.call.answer where
    by : (done.answer.status ≡ does.before.answer.status) ⊎ ((done.answer.status ≡ INFO_STOPPED) × (done.note.outcome ≡ Stopped)) → HasCause done.answer.status done.note
    by (inl same) = record {
      stop = λ is. absurd (quiet.stop (sym same ∙ is) refl);
      fault = λ is. absurd (cc (quiet.fault (sym same ∙ is)));
      boot = λ is. absurd (cc ((quiet.boot (sym same ∙ is)).0));
    }
    by (inr cut) = record {
      stop = λ is none. let once : stopped_once done.note.outcome ≡ 1 = rw cut.1 refl in omega (arith, once, none);
      fault = λ is. let same = ap (λ (status : Status). status.0) (sym cut.0 ∙ is) in absurd (omega (arith, same));
      boot = λ is. let same = ap (λ (status : Status). status.0) (sym cut.0 ∙ is) in absurd (omega (arith, same));
    }

  -- the pins that it leaves
  pins : HaveImages old.tables → HaveImages new.tables × PinsGoOn old.tables new.tables request done.answer.status
  pins has =
      let noted : IsNoteOf request left.0.calls [] does.before.note = subst (λ (note : BankNote). IsNoteOf request left.0.calls [] note) (sym does.does.note) (subst (λ (calls : List StoreCall). IsNoteOf request calls [] untouched) (sym left.2.calls) (may_be_untouched request [] (activates_no_reset request can))) in
      let on : HaveImages new.tables × PinsGoOn old.tables new.tables request left.0.status = subst (λ (tables : Tables). HaveImages tables × PinsGoOn old.tables tables request left.0.status) left.3.tables
      (law_pins (state_of old) ready.fit.0 ready.fit.1 has actor request (given_of does.before) left.0 whole noted) in
      (on.0, pins_with old.tables new.tables request left.0.status done.answer.status (activates_no_get request can) on.1)

  pub copies_makes : Makes g v request old new done
  copies_makes = record {
    fit = λ n fit. fit_without (suc n) [] (state_of new) (subst (AreFit (suc n)) (state_is (record new { store = old.store }) [] left.0.next left.3) (ordinary_left n fit).fit);
    judged = (
      left.0.questions,
      subst (λ (verdicts : List (Option ℤ)). Judged v old.kit new.kit left.0.questions verdicts) (sym does.copied.call.verdicts)
          (judged_there v old.kit new.kit does.before.verdicts _ left.0 left.1 (does.does.judged (state_of old) (stands_in old))),
    );
    two = ap length does.copied.call.verdicts ∙ does.does.two;
    within = let within = does.copied.call.within 3 does.does.within in let few = within.events in record { events = omega (arith, few); notice = within.notice; bytes = within.bytes };
    booted = does.copied.call.booted ∙ sym (ap not goes);
    ended = goes ∙ sym does.copied.call.no_boot.ended;
    stopped = λ is. (does.copied.call.stopped is, does.copied.call.no_boot);
    trouble = does.copied.call.trouble;
    cause = cause;
    pins = pins;
  }

  pub copies_meets : is_reset request ≡ false → Meets g v (step_of old new request) (λ s given. effect_of s actor request given) done
  copies_meets plain told s holds note follows =
      let found = effect_left s.store does.before (record new { store = old.store }) _ (does.does.effect s holds.parts) in
      let e = found.0 in
      let n = with_boot follows.ended follows.stopped follows.found done.note in
      let means : effect_of s actor request (record { note = note; verdicts = done.verdicts }) ≡ Some (then_copy row note e) =
      taken s holds.parts (record { note = note; verdicts = done.verdicts })
      ∙ ap (option_map (then_copy row note)) (ap (λ (verdicts : List (Option ℤ)). owned_at (table_at s.tables row) s row request (record { note = note; verdicts = verdicts })) does.copied.call.verdicts
      ∙ same_owned s row note does.before.note does.before.verdicts request can ∙ found.1) in
      let stands : IsStateOf e.next.store new e.next = record {
        tables = found.3.tables;
        pending = found.3.pending;
        store = refl;
        drawer = found.3.drawer;
        apps = found.3.apps;
        kit = found.3.kit;
        admit = found.3.admit;
        seconds = found.3.seconds;
        sub = found.3.sub;
        ended = found.3.ended;
      } in
      let c = does.copied.effect told e found.2 found.3.tables (subst (λ (blocks : Blocks). HasBlocks g.tells g.now old.store blocks) (sym found.3.store) (holds.blocks ready.live)) follows.ended follows.stopped follows.found in
      subst (Has g v (step_of old new request) s done note) (sym means)
      (subst (λ (n : BankNote). HasEffect g v (step_of old new request) s done n (then_copy row n e)) (sym follows.is)
      (has_called g v old new request done plain does.copied.call.no_boot s e.next e.questions (then_copy row n e) follows.ended follows.stopped follows.found (λ goes. sym follows.is ∙ follows.same goes) c
      found.3.store stands
      (subst (λ (verdicts : List (Option ℤ)). Judged v old.kit new.kit e.questions verdicts) (sym does.copied.call.verdicts) (judged_there v old.kit new.kit does.before.verdicts _ e found.1 (does.does.judged s holds.parts)))))

  pub copies_made : WasMade g v (step_of old new request) actor done
  copies_made = record { makes = copies_makes; meets = copies_meets (activates_no_reset request can) }
