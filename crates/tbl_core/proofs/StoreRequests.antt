-- A request that calls the store was made: what it did, with any note that a boot after it may leave.
use Rattle.std.proofs.Common.{◌≡◌, ◌≢◌, ◌∙◌, ℕ, suc, List, [], ◌∷◌, Bool, false, not, Option, Some, None, IsSome, unwrap_or, Result, Ok, Err, refl, sym, ap, subst, inl, inr, arith}
use Rattle.tbl_kinds.specs.Notes.{untouched}
use Rattle.tbl_kinds.specs.Blocks.{Store as Blocks}
use Rattle.tbl_model.specs.State.{State, Tables}
use Rattle.tbl_model.specs.Effects as model
use Rattle.tbl_model.specs.Telemetry.{Question}
use Rattle.tbl_model.specs.Counts.{is_reset}
use Rattle.tbl_model.specs.Given.{Given}
use Rattle.tbl_model.specs.Dispatch.{effect_of}
use Rattle.tbl_model.specs.StoreNotes.{boot_in, Boots, IsNoteOf}
use Rattle.tbl_model.specs.StoreUse.{left_by}
use Rattle.tbl_model.specs.Fit.{AreFit}
use Rattle.tbl_laws.proofs.Changes.{grown}
use Rattle.tbl_kinds.specs.declared.note.BankNote.{BankNote}
use Rattle.tbl_kinds.specs.declared.note.Outcome.{Outcome}
use Rattle.tbl_kinds.specs.declared.note.Outcome.TheVariants.{Untouched, Done, Failed, Stopped}
use Rattle.tbl_kinds.specs.declared.request.Request.{Request}
use Rattle.tbl_kinds.specs.declared.request.ResetKind.{ResetKind}
use Rattle.tbl_kinds.specs.declared.request.ResetKind.TheVariants.{Processor}
use Rattle.tbl_kinds.specs.declared.request.Request.TheVariants as ask
use Rattle.std.proofs.lemmas.Option.{same_Some}
use Rattle.tbl_kinds.specs.GroundCommands.{GroundCommand, delete_cds, command_in}
use Rattle.tbl_kinds.specs.declared.entry.Answer.{Answer}
use Rattle.tbl_model.specs.Whole.{asks_address}
use Rattle.tbl_laws.proofs.Pins.{Keeps, stays_keeps, add_keeps}
use Rattle.tbl_laws.proofs.Ordinary.{free_place}
use Rattle.tbl_kinds.specs.Free.{least_free}
use Rattle.tbl_model.specs.TableSteps.{new_table}
use Rattle.sharing.specs.Registering.{next_row, next_handle}
use Rattle.store_requests.specs.Registering.{AtMostOne, RegistersOne}
use Rattle.tbl_core.proofs.Pinning.{kept_pins}
use Rattle.tbl_kinds.specs.declared.request.Actor.TheVariants.{Ground}
use Rattle.tbl_model.specs.AppBlocks.{delete_cds_effect}
use Rattle.tbl_model.specs.Commands.{read_command_in, effect_by}
use Rattle.validation.specs.Kits.{owners}
use Rattle.tbl_session.specs.Crashes.{DuringCalls, writes}
use Rattle.tbl_outside.proofs.Moments.{leaves_among}
use Rattle.cds_layout.specs.Images.{store_of}
use Rattle.cds_store.specs.StoreBlocks.{StoreParts, StandsFor}
use Rattle.tbl_core.specs.BankAsked.{BootAsks}
use Rattle.store_requests.specs.Called.{NoBoot, with_boot, IsCall, IsCalled, Calls}
use Rattle.store_requests.specs.Requests.{Site, Made, Served}
use Rattle.std.specs.Prelude.{IfOk, OnOk, OnErr}
use Rattle.tbl_session.specs.Restores.{RestoresHeld}
use Rattle.tbl_core.specs.Answers.{Tries}
use Rattle.tbl_kinds.specs.declared.request.Actor.{Actor}
use Rattle.tbl_core.specs.Service.{PartsView, IsStateOf, state_of, step_of, HasEffect, Has, Makes, Meets}
use Rattle.tbl_core.specs.Verdicts.{Judged}
use Rattle.request_effects.specs.Effects.{Effect}
use Rattle.tbl_core.proofs.Verdicts.{none_judged}
use Rattle.tbl_outside.specs.declared.bank.Bank.{Ghosts}
use Rattle.tbl_outside.specs.declared.validator.Validator.{Ghosts as ValidatorGhosts}

-- the parts as a request that calls the store finds or leaves them
abbrev pub site_of : {B C : Type 0} → PartsView B C → Site B
site_of held = record { store = held.store; state = λ s. record s { tables = held.tables; kit = owners held.kit; apps = held.apps } }

-- which boot comes after a request that isn't a Reset
pub boot_at : (request : Request) → is_reset request ≡ false → boot_in request Stopped ≡ Some Processor
boot_at (ask.Reset kind) plain = absurd (cc plain)
boot_at request plain = refl

pub no_boot_at : (request : Request) → is_reset request ≡ false → (boot_in request Untouched ≡ None) × (boot_in request Done ≡ None) × (boot_in request Failed ≡ None)
no_boot_at (ask.Reset kind) plain = absurd (cc plain)
no_boot_at request plain = (refl, refl, refl)

-- with what a boot after it reported, if it was stopped
module _ (request : Request) (plain : is_reset request ≡ false) (called : BankNote) (no_boot : NoBoot called) (left : Blocks) (ended stopped : Bool) (found : List ℕ) (same : called.outcome ≢ Stopped → with_boot ended stopped found called ≡ called) where
  abbrev told_note : BankNote
  told_note = with_boot ended stopped found called

  kind_is : (outcome : Outcome) (kind : Option ResetKind) → called.outcome ≡ outcome → boot_in request outcome ≡ kind → Boots kind left told_note → Boots (boot_in request called.outcome) left told_note
  kind_is outcome kind at is boots = subst (λ (b : Option ResetKind). Boots b left told_note) (sym (ap (boot_in request) at ∙ is)) boots

  none : called.outcome ≢ Stopped → Boots None left told_note
  none goes = subst (λ (n : BankNote). Boots None left n) (sym (same goes)) (no_boot.found, no_boot.ended, no_boot.stopped)

  boots_at : (called.outcome ≡ Stopped → Boots (Some Processor) left told_note) → Boots (boot_in request called.outcome) left told_note
  boots_at boots = by called.outcome refl where
    by : (outcome : Outcome) → called.outcome ≡ outcome → Boots (boot_in request called.outcome) left told_note
    by Stopped at = kind_is Stopped (Some Processor) at (boot_at request plain) (boots at)
    by Untouched at = kind_is Untouched None at (no_boot_at request plain).0 (none (λ stop. cc (at, stop)))
    by Done at = kind_is Done None at (no_boot_at request plain).1 (none (λ stop. cc (at, stop)))
    by Failed at = kind_is Failed None at (no_boot_at request plain).2 (none (λ stop. cc (at, stop)))

module _ {B C : Type 0} (g : Ghosts B) (v : ValidatorGhosts C) (old new : PartsView B C) (request : Request) (done : Effect) where
  -- what it did to the state before its calls, and what it asked
  pub has_called : (plain : is_reset request ≡ false) (no_boot : NoBoot done.note) (s after : State) (questions : List Question) (e : model.Effect) (ended stopped : Bool) (found : List ℕ)
      (same : done.note.outcome ≢ Stopped → with_boot ended stopped found done.note ≡ done.note) → IsCalled g old.store new.store (record { state = after; questions = questions }) done (with_boot ended stopped found done.note) e
      → after.store ≡ s.store → IsStateOf after.store new after → Judged v old.kit new.kit questions done.verdicts
      → HasEffect g v (step_of old new request) s done (with_boot ended stopped found done.note) e
  has_called plain no_boot s after questions e ended stopped found same c kept stands judged =
      let note = with_boot ended stopped found done.note in
      let left = left_by e.calls note after.store in record {
        before = record after { store = left };
        holds = record {
          parts = record {
            tables = stands.tables;
            pending = stands.pending;
            store = refl;
            drawer = stands.drawer;
            apps = stands.apps;
            kit = stands.kit;
            admit = stands.admit;
            seconds = stands.seconds;
            sub = stands.sub;
            ended = stands.ended;
          };
          blocks = λ _. c.blocks;
        };
        effect = record {
          status = c.effect.status;
          detail = c.effect.detail;
          bytes = c.effect.bytes;
          table = c.effect.table;
          events = c.effect.events;
          shown = c.effect.shown;
          questions = refl;
          calls = refl;
          notice = c.effect.notice;
          next = c.effect.next;
        };
        judged = subst (λ (questions : List Question). Judged v old.kit new.kit questions done.verdicts) (sym c.effect.questions) judged;
        gave = subst (λ (store : Blocks). RestoresHeld (g.now old.store.bank) e.calls store note) kept c.held;
        left = λ _. ap (λ (store : Blocks). left_by e.calls note store) kept;
        writing = c.writing;
        moments = λ m. leaves_among (c.moments m) (λ image during. inl (subst (λ (store : Blocks). DuringCalls (writes e.calls) store (store_of image)) kept during));
        noted = λ boots. subst (λ (store : Blocks). IsNoteOf request e.calls store note) kept
            (record { ends = c.ends; gave = c.gave; tells = c.says; boots = boots_at request plain done.note no_boot left ended stopped found same boots });
        asked = record {
          called = new.store;
          asked = c.asked;
          blocks_left = subst (λ (store : Blocks). StandsFor g.tells g.now new.store (left_by e.calls note store)) kept c.blocks;
          booted = subst (λ (boots : Option ResetKind). BootAsks g boots new.store.bank new.store.bank (not note.ended)) (sym (no_boot_at request plain).0) refl;
        };
      }

  module _ (held : new ≡ record old { store = new.store; tables = new.tables }) (live : old.ended ≡ false) (call : IsCall g old.store new.store done) where
    unasked : (questions : List Question) → questions ≡ [] → Judged v old.kit new.kit questions done.verdicts
    unasked questions none =
        let same : new.kit ≡ old.kit = ap (λ (h : PartsView B C). h.kit) held in
        rw (same, call.verdicts) (none_judged v old.kit questions untouched (None ∷ None ∷ []) none refl)

    pub call_makes : ((n : ℕ) → AreFit n (state_of old) → AreFit (suc n) (record (state_of old) { tables = new.tables })) → Keeps old.tables new.tables → ((n : ℕ) → asks_address n request ≡ false)
        → Makes g v request old new done
    call_makes fit keeps none =
        let goes : new.ended ≡ false = ap (λ (h : PartsView B C). h.ended) held ∙ live in record {
          fit = λ n was. subst (AreFit (suc n)) (ap state_of (sym held)) (fit n was);
          judged = ([], unasked [] refl);
          two = rw call.verdicts refl;
          within = let few = call.within.events in record { events = omega (arith, few); notice = call.within.notice; bytes = call.within.bytes };
          booted = call.booted ∙ sym (ap not goes);
          ended = goes ∙ sym call.no_boot.ended;
          stopped = λ is. (call.stopped is, call.no_boot);
          trouble = call.trouble;
          cause = call.cause;
          pins = λ has. kept_pins old.tables new.tables has request done.answer.status keeps none;
        }

    -- if the model's effect is this
    pub call_meets : (means : State → BankNote → model.Effect) → Made g (site_of old) (site_of new) means done → is_reset request ≡ false → Meets g v (step_of old new request) (λ s given. Some (means s given.note)) done
    call_meets means made plain told s holds note follows =
        let before : (site_of old).state s ≡ s = λ i. record s { tables = sym holds.parts.tables i; kit = sym holds.parts.kit i; apps = sym holds.parts.apps i } in
        let kit : owners new.kit ≡ s.kit = ap (λ (h : PartsView B C). owners h.kit) held ∙ sym holds.parts.kit in
        let apps : new.apps ≡ s.apps = ap (λ (h : PartsView B C). h.apps) held ∙ sym holds.parts.apps in
        let after : (site_of new).state s ≡ record s { tables = new.tables } = λ i. record s { tables = new.tables; kit = kit i; apps = apps i } in
        let calls : Calls g old.store new.store (record s { tables = new.tables }) done (means s) =
        subst (λ (x : State). Calls g old.store new.store x done (means s)) after (subst (λ (x : State). Calls g old.store new.store ((site_of new).state s) done (means x)) before (made.effect told s (holds.blocks live))) in
        subst (λ (n : BankNote). HasEffect g v (step_of old new request) s done n (means s n)) (sym follows.is)
        (has_called plain call.no_boot s (record s { tables = new.tables }) [] (means s (with_boot follows.ended follows.stopped follows.found done.note)) follows.ended follows.stopped follows.found (λ goes. sym follows.is ∙ follows.same goes)
        (calls follows.ended follows.stopped follows.found) refl (record {
          tables = refl;
          pending = holds.parts.pending ∙ sym (ap (λ (h : PartsView B C). h.pending) held);
          store = refl;
          drawer = holds.parts.drawer ∙ sym (ap (λ (h : PartsView B C). h.drawer) held);
          apps = sym apps;
          kit = sym kit;
          admit = holds.parts.admit ∙ sym (ap (λ (h : PartsView B C). h.admit) held);
          seconds = holds.parts.seconds ∙ sym (ap (λ (h : PartsView B C). h.seconds) held);
          sub = holds.parts.sub ∙ sym (ap (λ (h : PartsView B C). h.sub) held);
          ended = holds.parts.ended ∙ sym (ap (λ (h : PartsView B C). h.ended) held);
        }) (unasked [] refl))

-- a request about blocks leaves all but the store
module _ {B C : Type 0} (g : Ghosts B) (v : ValidatorGhosts C) (old : PartsView B C) (store : StoreParts B) (request : Request) (live : old.ended ≡ false) where
  pub block_makes : ((n : ℕ) → asks_address n request ≡ false) → (done : Effect) → IsCall g old.store store done → Makes g v request old (record old { store = store }) done
  block_makes none done call = call_makes g v old (record old { store = store }) request done refl live call (λ n fit. grown n (state_of old) fit) (stays_keeps old.tables) none

  module _ {E : Type 0} (means : State → BankNote → model.Effect) (Asks : Ghosts B → StoreParts B → StoreParts B → Outcome → Type 0) (r : Result Effect E) (served : Served g (site_of old) (site_of (record old { store = store })) means Asks r) where
    -- what the actor requests has this effect
    module _ (actor : Actor) (none : (n : ℕ) → asks_address n request ≡ false) (plain : is_reset request ≡ false) (is : (s : State) (given : Given) → effect_of s actor request given ≡ Some (means s given.note)) where
      abbrev left : PartsView B C
      left = record old { store = store }

      pub blocks_tried : Tries g v (step_of old left request) actor r
      blocks_tried = by r served where
        by : (r : Result Effect E) → Served g (site_of old) (site_of left) means Asks r → Tries g v (step_of old left request) actor r
        by (Ok done) it = record {
          made = record {
            makes = block_makes none done it.made.call;
            meets = λ told s holds note follows. subst (Has g v (step_of old left request) s done note) (sym (is s (record { note = note; verdicts = done.verdicts })))
                (call_meets g v old left request done refl live it.made.call means it.made plain told s holds note follows);
          };
          err = tt;
        }
        by (Err e) same = record { made = tt; err = ap (λ (parts : StoreParts B). record old { store = parts }) same }

-- ---- a registration

pub with_two : {T E : Type 0} (r : Result T E) (P R : T → Type 0) (Q S : Type 0) → IfOk r P → OnOk r Q → OnOk r S → ((x : T) → P x → Q → S → R x) → IfOk r R
with_two (Ok x) P R Q S p q s then = then x p q s
with_two (Err e) P R Q S p q s then = tt

pub both_lost : {T E : Type 0} (r : Result T E) (P Q R : Type 0) → OnErr r P → OnErr r Q → (P → Q → R) → OnErr r R
both_lost (Ok x) P Q R p q then = tt
both_lost (Err e) P Q R p q then = then p q

some_is : (o : Option ℕ) → IsSome o → o ≡ Some (unwrap_or o 0)
some_is None is = absurd (cc is)
some_is (Some n) is = refl

-- it leaves all pins, and each image has its table's size
pub registers_keeps : (old new : Tables) (app : ℕ) → RegistersOne old new app → Keeps old new
registers_keeps old new app (inl same) = subst (Keeps old) (sym same) (stays_keeps old)
registers_keeps old new app (inr (plan, can, one)) = by one where
  by : AtMostOne old new app plan → Keeps old new
  by (inl same) = subst (Keeps old) (sym same) (stays_keeps old)
  by (inr (options, first, sized, is)) =
      subst (Keeps old) (sym is)
      (add_keeps old (next_row old) (new_table plan.name app plan.size options plan.validator (next_handle old)) first (free_place old.rows (next_row old) (some_is (least_free old.rows) can.row)).1 refl sized)

-- ---- the command that deletes a block

pub deletes : (request : Request) (name : List ℕ) → read_command_in request ≡ Some (Ok (delete_cds name)) → (is_reset request ≡ false) × ((n : ℕ) → asks_address n request ≡ false) × ((s : State) (given : Given) → effect_of s Ground request given ≡ Some (delete_cds_effect s name given.note))
deletes (ask.Command bytes) name is = (
  refl,
  λ n. refl,
  λ s given. ap (λ (r : Result GroundCommand Answer). Some (effect_by s r given.note)) (same_Some (command_in bytes.list) (Ok (delete_cds name)) is),
)
deletes request name is = absurd (cc is)
