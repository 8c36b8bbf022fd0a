-- A request about tables was made: the parts represent the state that it leaves, over the same blocks.
use Rattle.std.proofs.Common.{◌≡◌, ◌≤◌, ◌∙◌, ℕ, suc, List, [], false, not, Option, Some, None, ℤ, refl, sym, ap, subst, inl, arith}
use Rattle.tbl_kinds.specs.Notes.{untouched}
use Rattle.tbl_kinds.specs.Blocks.{Store as Blocks}
use Rattle.tbl_kinds.specs.StoreCalls.{StoreCall}
use Rattle.tbl_model.specs.State.{State, Tables}
use Rattle.tbl_model.specs.Effects as model
use Rattle.tbl_model.specs.BankCounts.{HasCause}
use Rattle.tbl_model.specs.Counts.{is_reset}
use Rattle.tbl_model.specs.Dispatch.{effect_of}
use Rattle.tbl_model.specs.StoreNotes.{IsNoteOf}
use Rattle.tbl_model.specs.StoreUse.{left_by}
use Rattle.tbl_kinds.specs.declared.request.ResetKind.{ResetKind}
use Rattle.tbl_model.proofs.NoteLaws.{may_be_untouched}
use Rattle.tbl_model.specs.Fit.{AreFit}
use Rattle.tbl_laws.proofs.Cases.{OfEffect}
use Rattle.tbl_laws.proofs.Causes.{caused}
use Rattle.tbl_laws.proofs.Ordinary.{IsOrdinary, ordinary}
use Rattle.cds_store.specs.StoreBlocks.{StoreParts, StandsFor as HasBlocks}
use Rattle.tbl_kinds.specs.declared.note.BankNote.{BankNote}
use Rattle.tbl_kinds.specs.declared.request.Actor.{Actor}
use Rattle.tbl_kinds.specs.declared.request.Request.{Request}
use Rattle.tbl_kinds.specs.declared.status.Status.{Status}
use Rattle.tbl_core.specs.Pins.{HaveImages, PinsGoOn}
use Rattle.tbl_core.proofs.Pinning.{law_pins}
use Rattle.tbl_outside.specs.declared.validator.KitEntry.{KitEntry}
use Rattle.tbl_session.specs.Crashes.{DuringCalls, writes}
use Rattle.tbl_outside.proofs.Moments.{leaves_among}
use Rattle.cds_layout.specs.Images.{store_of}
use Rattle.store_requests.specs.Called.{Leaving, boots_after}
use Rattle.store_requests.proofs.BankCalls.{bank_calls_none}
use Rattle.tbl_core.specs.BankAsked.{BootAsks}
use Rattle.tbl_core.proofs.StoreRequests.{no_boot_at}
use Rattle.tbl_session.specs.Restores.{RestoresHeld}
use Rattle.request_effects.specs.Effects.{IsEffect, given_of}
use Rattle.tbl_core.specs.Answers.{WasMade}
use Rattle.tbl_core.specs.Service.{PartsView, IsStateOf, state_of, step_of, Leaves, IsJudged, Does, HasEffect, Has, Makes, Meets, AreReady}
use Rattle.tbl_core.specs.Verdicts.{Judged}
use Rattle.request_effects.specs.Effects.{Effect}
use Rattle.tbl_outside.specs.declared.bank.Bank.{Ghosts}
use Rattle.tbl_outside.specs.declared.validator.Validator.{Ghosts as ValidatorGhosts}

-- ---- what the parts represent

-- over these blocks they represent such a state
pub stands_in : {B C : Type 0} (held : PartsView B C) → IsStateOf [] held (state_of held)
stands_in held = record { tables = refl; pending = refl; store = refl; drawer = refl; apps = refl; kit = refl; admit = refl; seconds = refl; sub = refl; ended = refl }

-- and for no other
pub state_is : {B C : Type 0} (held : PartsView B C) (blocks : Blocks) (s : State) → IsStateOf blocks held s → s ≡ record (state_of held) { store = blocks }
state_is held blocks s stands = λ i. record {
  tables = stands.tables i;
  pending = stands.pending i;
  store = stands.store i;
  drawer = stands.drawer i;
  apps = stands.apps i;
  kit = stands.kit i;
  admit = stands.admit i;
  seconds = stands.seconds i;
  sub = stands.sub i;
  ended = stands.ended i;
}

-- no blocks count for what is fit
pub fit_without : (n : ℕ) (blocks : Blocks) (s : State) → AreFit n (record s { store = blocks }) → AreFit n s
fit_without n blocks s fit = record { each = fit.each; few_pending = fit.few_pending }

-- ---- requests about tables

-- the effect after which the parts represent this
pub effect_left : {B C : Type 0} (blocks : Blocks) (done : Effect) (held : PartsView B C) (found : Option model.Effect) → Leaves blocks done held found → (e : model.Effect) × (found ≡ Some e) × (IsEffect done e.questions e.next e) × (IsStateOf blocks held e.next)
effect_left blocks done held None leaves = absurd leaves
effect_left blocks done held (Some e) leaves = (e, refl, leaves.0, leaves.1)

-- what its effect asks
pub judged_there : {C : Type 0} (v : ValidatorGhosts C) (old new : List (Option (KitEntry C))) (verdicts : List (Option ℤ)) (found : Option model.Effect) (e : model.Effect)
    → found ≡ Some e → IsJudged v old new verdicts found → Judged v old new e.questions verdicts
judged_there v old new verdicts found e is asks = subst (IsJudged v old new verdicts) is asks

module _ {B C : Type 0} (g : Ghosts B) (v : ValidatorGhosts C) (most : ℕ) (old new : PartsView B C) (actor : Actor) (request : Request) (done : Effect)
    (does : Does v most old new (λ s given. effect_of s actor request given) done) (few_enough : most ≤ 8) (ready : AreReady v old) where
  -- without blocks
  left : (e : model.Effect) × (effect_of (state_of old) actor request (given_of done) ≡ Some e) × (IsEffect done e.questions e.next e) × (IsStateOf [] new e.next)
  left = effect_left [] done new _ (does.effect (state_of old) (stands_in old))

  ordinary_left : (n : ℕ) → AreFit n (state_of old) → IsOrdinary n done.note left.0
  ordinary_left n fit = subst (OfEffect (IsOrdinary n done.note)) left.1 (ordinary (state_of old) n ready.live fit actor request (given_of done))

  goes : new.ended ≡ false
  goes = sym left.3.ended ∙ (ordinary_left ready.fit.0 ready.fit.1).live (rw does.note refl)

  -- the pins that it leaves
  pins : is_reset request ≡ false → HaveImages old.tables → HaveImages new.tables × PinsGoOn old.tables new.tables request done.answer.status
  pins plain has =
      let noted : IsNoteOf request left.0.calls [] done.note = subst (λ (note : BankNote). IsNoteOf request left.0.calls [] note) (sym does.note) (subst (λ (calls : List StoreCall). IsNoteOf request calls [] untouched) (sym left.2.calls) (may_be_untouched request [] plain)) in
      subst (λ (tables : Tables). HaveImages tables × PinsGoOn old.tables tables request done.answer.status) left.3.tables
      (subst (λ (status : Status). HaveImages left.0.next.tables × PinsGoOn old.tables left.0.next.tables request status) left.2.status
      (law_pins (state_of old) ready.fit.0 ready.fit.1 has actor request (given_of done) left.0 left.1 noted))

  pub table_makes : is_reset request ≡ false → Makes g v request old new done
  table_makes plain = record {
    fit = λ n fit. fit_without (suc n) [] (state_of new) (subst (AreFit (suc n)) (state_is new [] left.0.next left.3) (ordinary_left n fit).fit);
    judged = (left.0.questions, judged_there v old.kit new.kit done.verdicts _ left.0 left.1 (does.judged (state_of old) (stands_in old)));
    two = does.two;
    within = let few = does.within.events in record { events = omega (arith, few, few_enough); notice = does.within.notice; bytes = does.within.bytes };
    booted = rw (does.store, ready.relied.booted, goes) refl;
    ended = rw (goes, does.note) refl;
    stopped = rw does.note (λ is. absurd (cc is));
    trouble = rw (does.store, does.note) (record { fault_count = omega arith; stop_count = omega arith; fault = inl (omega arith); stop = inl (omega arith); no_fault = λ none. refl; no_stop = λ none. refl });
    cause = rw (← left.2.status) (subst (OfEffect (λ e. HasCause e.status done.note)) left.1 (caused (state_of old) (given_of done) actor request));
    pins = pins plain;
  }

  pub table_meets : (g.tells → (blocks : Blocks) → HasBlocks g.tells g.now old.store blocks → Leaving g old.store new.store (DuringCalls [] blocks))
      → is_reset request ≡ false → Meets g v (step_of old new request) (λ s given. effect_of s actor request given) done
  table_meets moved plain told s holds note follows =
      let same : note ≡ done.note = follows.same (rw does.note (λ is. cc is)) in
      let found = effect_left s.store done new _ (does.effect s holds.parts) in
      let noted : untouched ≡ done.note = sym does.note in
      let had : HasEffect g v (step_of old new request) s done done.note found.0 = record {
        before = found.0.next;
        holds = record {
          parts = subst (λ (blocks : Blocks). IsStateOf blocks new found.0.next) (sym found.3.store) found.3;
          blocks = λ is. subst (λ (kept : StoreParts B). HasBlocks g.tells g.now kept found.0.next.store) (sym does.store) (subst (λ (blocks : Blocks). HasBlocks g.tells g.now old.store blocks) (sym found.3.store) (holds.blocks ready.live));
        };
        effect = record {
          status = found.2.status;
          detail = found.2.detail;
          bytes = found.2.bytes;
          table = found.2.table;
          events = found.2.events;
          shown = found.2.shown;
          questions = refl;
          calls = refl;
          notice = found.2.notice;
          next = ap (λ (n : BankNote). boots_after n.outcome n found.0.next) noted;
        };
        judged = judged_there v old.kit new.kit done.verdicts _ found.0 found.1 (does.judged s holds.parts);
        gave = subst (λ (calls : List StoreCall). RestoresHeld (g.now old.store.bank) calls s.store done.note) (sym found.2.calls) tt;
        left = λ stop. absurd (cc (stop, does.note));
        writing = λ stop. absurd (cc (stop, does.note));
        moments = λ m. leaves_among (moved told s.store (holds.blocks ready.live) m) (λ image during. inl (subst (λ (calls : List StoreCall). DuringCalls (writes calls) s.store (store_of image)) (sym found.2.calls) during));
        noted = λ _. subst (IsNoteOf request found.0.calls s.store) noted (subst (λ (calls : List StoreCall). IsNoteOf request calls s.store untouched) (sym found.2.calls) (may_be_untouched request s.store plain));
        asked = record {
          called = old.store;
          asked = bank_calls_none g old.store.bank old.store.bank _ done.note refl does.note;
          blocks_left = subst (λ (n : BankNote). HasBlocks g.tells g.now old.store (left_by found.0.calls n s.store)) noted
              (subst (λ (calls : List StoreCall). HasBlocks g.tells g.now old.store (left_by calls untouched s.store)) (sym found.2.calls) (holds.blocks ready.live));
          booted = subst (λ (boots : Option ResetKind). BootAsks g boots old.store.bank new.store.bank (not done.note.ended)) (sym (no_boot_at request plain).0) (ap (λ (kept : StoreParts B). kept.bank) does.store);
        };
      } in
      subst (λ (n : BankNote). Has g v (step_of old new request) s done n (effect_of s actor request (record { note = n; verdicts = done.verdicts }))) (sym same)
      (subst (Has g v (step_of old new request) s done done.note) (sym found.1) had)

  pub table_made : is_reset request ≡ false → (g.tells → (blocks : Blocks) → HasBlocks g.tells g.now old.store blocks → Leaving g old.store new.store (DuringCalls [] blocks)) → WasMade g v (step_of old new request) actor done
  table_made plain moved = record { makes = table_makes plain; meets = table_meets moved plain }
