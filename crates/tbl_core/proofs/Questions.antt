-- What a request asks doesn't depend on what is given to it, and functions that are handed in leave what the engine represents.
use Rattle.std.proofs.Common.{◌≡◌, ◌∙◌, ℕ, ◌+◌, ◌*◌, ◌^◌, ◌<◌, List, [], ◌∷◌, true, false, Option, Some, None, IsSome, option_map, refl, sym, ap, subst, inl, inr, arith}
use Rattle.std.specs.Option.{ForSome}
use Rattle.std.proofs.lemmas.Bool.{cases_eq, cond_both}
use Rattle.std.proofs.lemmas.Option.{same_Some}
use Rattle.tbl_kinds.specs.StoreCalls.{copy}
use Rattle.tbl_kinds.specs.declared.note.BankNote.{BankNote}
use Rattle.tbl_kinds.specs.declared.note.Outcome.{Outcome}
use Rattle.tbl_kinds.specs.declared.note.Outcome.TheVariants.{Untouched, Done, Failed, Stopped}
use Rattle.tbl_kinds.specs.declared.request.Actor.{Actor}
use Rattle.tbl_kinds.specs.declared.request.Actor.TheVariants.{Ground, App}
use Rattle.tbl_kinds.specs.declared.request.Request.{Request}
use Rattle.tbl_kinds.specs.declared.request.Request.TheVariants as ask
use Rattle.tbl_kinds.specs.declared.status.Status.{Status}
use Rattle.tbl_model.specs.State.{State, Table, Tables}
use Rattle.tbl_model.specs.Tables.{table_at, is_critical}
use Rattle.tbl_model.specs.Effects.{Effect, answered}
use Rattle.tbl_model.specs.Given.{Given}
use Rattle.tbl_model.specs.Telemetry.{Question}
use Rattle.tbl_model.specs.Copies.{went_active, block_of, copy_failed, copied_to, copied_of, then_copy}
use Rattle.tbl_model.specs.StoreUse.{with_calls, by_outcome}
use Rattle.tbl_model.specs.Boots.{stopped}
use Rattle.tbl_model.specs.Subjects.{if_handle}
use Rattle.tbl_model.specs.Dispatch.{ground_effect}
use Rattle.tbl_model.specs.History.{Run, begins_at, run_from}
use Rattle.tbl_outside.specs.declared.bank.Bank.{Ghosts}
use Rattle.tbl_outside.specs.declared.validator.KitEntry.{KitEntry}
use Rattle.tbl_outside.specs.declared.validator.Validator.{Ghosts as ValidatorGhosts}
use Rattle.validation.specs.Kits.{entry_at, owners, with_check, Hands}
use Rattle.request_effects.specs.Requests.{owners_handle}
use Rattle.tbl_core.specs.Asking.{may_ask, asked_in, AsksIn, Asks, StandsOn}
use Rattle.tbl_core.specs.Owned.{owned_effect, owned_at, copied_at}
use Rattle.tbl_core.specs.Service.{PartsView, EngineView, IsStateOf, IsReady, AskedBelow, LeadsTo, owned_in, recounted}
use Rattle.tbl_core.proofs.Owners.{refused}
use Rattle.tbl_model.specs.Dispatch.{effect_of}

-- ---- the copy after a call asks nothing

module _ (note : BankNote) (row : ℕ) (e : Effect) where
  Same : Effect → Type 0
  Same x = x.questions ≡ e.questions

  by_end : (slot : ℕ) (image : List ℕ) (outcome : Outcome)
      → Same (by_outcome outcome (with_calls (copy slot image ∷ []) note e) (copy_failed row slot (with_calls (copy slot image ∷ []) note e)) (stopped note (with_calls (copy slot image ∷ []) note e)))
  unfolding Same
  by_end slot image Untouched = refl
  by_end slot image Done = refl
  by_end slot image Failed = refl
  by_end slot image Stopped = refl

  into : (slot : Option ℕ) (image : Option (List ℕ)) → Same (copied_to row note e slot image)
  unfolding Same
  into None image = refl
  into (Some slot) None = refl
  into (Some slot) (Some image) = by_end slot image note.outcome

  of_table : (t : Option Table) → Same (copied_of row note e t)
  unfolding Same
  of_table None = refl
  of_table (Some t) = cond_both (is_critical t) _ _ Same (λ _. into (block_of t e.next.store) t.last) (λ _. refl)

  copy_asks : (then_copy row note e).questions ≡ e.questions
  unfolding Same
  copy_asks = cond_both (went_active e) _ _ Same (λ _. of_table (table_at e.next.tables row)) (λ _. refl)

mapped : (row : ℕ) (note : BankNote) (o : Option Effect) → asked_in (option_map (then_copy row note) o) ≡ asked_in o
mapped row note None = refl
mapped row note (Some e) = copy_asks note row e

copied_asks : (request : Request) (row : ℕ) (note : BankNote) (o : Option Effect) → asked_in (copied_at request row note o) ≡ asked_in o
copied_asks (ask.LoadImage h image) row note o = mapped row note o
copied_asks (ask.LoadFile h name) row note o = mapped row note o
copied_asks (ask.Update h) row note o = mapped row note o
copied_asks (ask.Manage h) row note o = mapped row note o
copied_asks request row note o = refl

-- ---- a request

module _ {B C : Type 0} (held : PartsView B C) where
  -- what is asked of the table that a handle leads to
  pub owner_asks : (actor : Actor) (row : ℕ) (request : Request) (questions : List Question) → may_ask request ≡ true → LeadsTo held actor request row
      → ((s : State) → IsStateOf s.store held s → (given : Given) → ForSome (table_at held.tables row) (λ t. asked_in (owned_effect s row t request given) ≡ questions)) → AsksIn held actor request questions
  owner_asks actor row request questions may leads each = record {
    owners = λ _ s stood given. ap asked_in (leads.means s stood given) ∙ copied_asks request row given.note (owned_in row request s given)
        ∙ ap (λ (tables : Tables). asked_in (owned_at (table_at tables row) s row request given)) stood.tables ∙ found (table_at held.tables row) s given leads.table (each s stood given);
    others = λ quiet. absurd (cc (may, quiet));
  } where
    found : (o : Option Table) (s : State) (given : Given) → IsSome o → ForSome o (λ t. asked_in (owned_effect s row t request given) ≡ questions) → asked_in (owned_at o s row request given) ≡ questions
    found None s given there all = absurd (cc there)
    found (Some t) s given there all = all t refl

  -- a handle that leads nowhere
  pub nobody_asks : (app handle : ℕ) (request : Request) (status : Status) → may_ask request ≡ true → owners_handle request ≡ Some handle
      → ((s : State) → IsStateOf s.store held s → (effect : ℕ → Effect) → if_handle s app handle true effect ≡ answered s status 0) → AsksIn held (App app) request []
  nobody_asks app handle request status may owns never = record {
    owners = λ _ s stood given. ap asked_in (refused s app handle given status (never s stood) request owns);
    others = λ quiet. refl;
  }

  -- the ground makes no such request
  pub ground_asks : (request : Request) → AsksIn held Ground request []
  ground_asks request = record { owners = λ may s stood given. by request s given may; others = λ quiet. refl } where
    by : (request : Request) (s : State) (given : Given) → may_ask request ≡ true → asked_in (ground_effect s request given) ≡ []
    by (ask.LoadImage h image) s given may = refl
    by (ask.LoadFile h name) s given may = refl
    by (ask.Validate h) s given may = refl
    by (ask.Manage h) s given may = refl
    by request s given may = absurd (cc may)

  -- a request by which nothing is judged
  pub quiet_asks : (actor : Actor) (request : Request) → may_ask request ≡ false → AsksIn held actor request []
  quiet_asks actor request quiet = record { owners = λ may s stood given. absurd (cc (may, quiet)); others = λ _. refl }

-- over every past
pub asks_of : {B C : Type 0} (g : Ghosts B) (engine : EngineView B C) (actor : Actor) (request : Request) (questions : List Question) → AsksIn engine.state actor request questions → Asks g engine actor request questions
asks_of g engine actor request questions it = record {
  owners = λ may told opening past stands e is_actor is_request.
      let r : Run = run_from (begins_at opening) past in
      subst (λ (a : Actor). asked_in (effect_of r.state a e.request e.given) ≡ questions) (sym is_actor)
      (subst (λ (q : Request). asked_in (effect_of r.state actor q e.given) ≡ questions) (sym is_request) (it.owners may r.state (stands.shows told).state.parts e.given));
  others = it.others;
}

-- a count of images that is taken again
pub recount_on : {B C : Type 0} (g : Ghosts B) (engine : EngineView B C) → StandsOn g engine (recounted engine)
recount_on g engine = record {
  stands = λ opening past was. record { legal = was.legal; shows = was.shows };
  after = λ past was. record { played = was.played; gets = was.gets };
  bank = refl;
  ended = refl;
  played = refl;
}

-- ---- functions that are handed in

abbrev with_kit : {B C : Type 0} → EngineView B C → List (Option (KitEntry C)) → EngineView B C
with_kit engine kit = record engine { state = record engine.state { kit = kit } }

module _ {B C : Type 0} (engine : EngineView B C) (kit : List (Option (KitEntry C))) (owned : owners kit ≡ owners engine.state.kit) where
  pub other_kit : (g : Ghosts B) → StandsOn g engine (with_kit engine kit)
  other_kit g = record {
    stands = λ opening past was. record {
      legal = was.legal;
      shows = λ told. let shown = was.shows told in record {
        state = record {
          parts = let parts = shown.state.parts in record {
            tables = parts.tables;
            pending = parts.pending;
            store = parts.store;
            drawer = parts.drawer;
            apps = parts.apps;
            kit = parts.kit ∙ sym owned;
            admit = parts.admit;
            seconds = parts.seconds;
            sub = parts.sub;
            ended = parts.ended;
          };
          blocks = shown.state.blocks;
        };
        counts = shown.counts;
      };
    };
    after = λ past was. record { played = was.played; gets = was.gets };
    bank = refl;
    ended = refl;
    played = refl;
  }

  pub other_ready : (v : ValidatorGhosts C) → AskedBelow v.asked (2 ^ 62 + 2 * engine.played) kit → IsReady v engine → IsReady v (with_kit engine kit)
  other_ready v below ready = record {
    fit = rw owned ready.fit;
    few = ready.few;
    booted = ready.booted;
    kit = below;
    images = ready.images;
    numbers = ready.numbers;
    places = ready.places;
  }

-- a function that was asked seldom enough is put among others
pub below_still : {C : Type 0} (asked : C → ℕ) (more number : ℕ) (check : C) (old new : List (Option (KitEntry C))) → asked check < 2 ^ 62 → Hands number check old new → AskedBelow asked (2 ^ 62 + more) old → AskedBelow asked (2 ^ 62 + more) new
below_still {C} asked more number check old new few hands all n = elim (cases_eq n number) [
  | inl here ↦ rw (here, hands.this) (by (entry_at old number))
  | inr other ↦ rw (hands.others n other) (all n)
] where
  by : (o : Option (KitEntry C)) → ForSome (option_map (with_check check) o) (λ entry. asked entry.check < 2 ^ 62 + more)
  by None = λ entry is. absurd (cc is)
  by (Some e) = λ entry is. rw (← same_Some (with_check check e) entry is) (omega (arith, few))
