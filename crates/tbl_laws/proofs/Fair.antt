-- What the effect of each request does to pins: a handle that pins an image remains, or it got its address just now.
use Rattle.std.proofs.Common.{◌≡◌, ◌≢◌, ℕ, eqb, nat_lt, [], Bool, true, false, ◌&&◌, ◌||◌, cond, Some, refl, ap, sym, ◌∙◌, inl, inr, ◌⊎◌, List, None, Option, is_some, length, not, ◌∷◌}
use Rattle.std.proofs.lemmas.Bool.{eqb-false, eq-eqb, ne_eqb, or_from, or_parts, not-true, cond_both}
use Rattle.std.proofs.lemmas.Option.{same_Some}
use Rattle.tbl_model.specs.State.{State, Table, Handle, Tables, no_tables, Dump, Load, filled, quiet, requested}
use Rattle.tbl_model.specs.Tables.{table_at, is_quiet}
use Rattle.tbl_model.specs.TableSteps.{handle_at, access_of, Access, end_dump, filled_with, is_checked, last_image, locker}
use Rattle.tbl_model.specs.AddressSteps.{pin_last}
use Rattle.tbl_model.specs.Effects.{Effect}
use Rattle.tbl_model.specs.Addresses.{stepped}
use Rattle.tbl_model.specs.Counts.{is_reset}
use Rattle.tbl_model.specs.BankCounts.{tells_trouble}
use Rattle.tbl_model.specs.Whole.{is_by, is_done, asks_address, is_get, asks_end, is_exit, gives_back, asks_removal, takes_away, begins_anew, ends_pin}
use Rattle.tbl_kinds.specs.declared.entry.Entry.{Entry}
use Rattle.tbl_kinds.specs.declared.request.Actor.{Actor}
use Rattle.tbl_kinds.specs.declared.request.Actor.TheVariants.{App}
use Rattle.tbl_kinds.specs.declared.request.Request.{Request}
use Rattle.tbl_kinds.specs.declared.status.Status.{Status}
use Rattle.tbl_kinds.specs.declared.status.TheConstants.Status.{SUCCESS, INFO_UPDATED, INFO_STOPPED, ERR_VALIDATION_FAILED, INFO_DUMP_PENDING, INFO_TABLE_LOCKED, INFO_UPDATE_PENDING, INFO_VALIDATION_PENDING}
use Rattle.tbl_model.proofs.RefusalAnswers.{is_refusal}
use Rattle.tbl_laws.proofs.Cases.{Leads, access_is}
use Rattle.tbl_laws.proofs.Pins.{at_set, nothing_there, kept, IsNear, GoesOn, AreLoaded, Remains, Keeps, stays_goes_on, stays_keeps, then_keeps, unseen_keeps}
use Rattle.std.specs.List.{fold}
use Rattle.std.specs.Option.{option_map_or}
use Rattle.tbl_kinds.specs.Drawer.{is_full_for}
use Rattle.tbl_kinds.specs.declared.entry.Answer.{Answer}
use Rattle.tbl_laws.proofs.Changes.{either, validated, with_found}
use Rattle.tbl_laws.proofs.Fits.{was}
use Rattle.tbl_laws.proofs.PinsKept.{update_keeps}
use Rattle.tbl_laws.proofs.PinsLoaded.{mark_keeps}
use Rattle.tbl_model.proofs.RefusalLaws.{update_taken}
use Rattle.tbl_model.specs.Dumps.{Ended, end_by, then_end}
use Rattle.tbl_model.specs.Fit.{AreFit}
use Rattle.tbl_model.specs.Given.{Given, verdict_at}
use Rattle.tbl_model.specs.Management.{Done, all_done, is_requested, manage_answer, nothing_done, pending_status, then_fill, then_update, then_validate, with_fill, with_update, with_validation}
use Rattle.tbl_model.specs.Pending.{is_pending}
use Rattle.tbl_model.specs.Refusals.{update_refusal}
use Rattle.tbl_model.specs.Telemetry.{is_good}
use Rattle.tbl_model.specs.Validations.{marked}
use Rattle.tbl_kinds.specs.declared.request.Request.TheVariants as ask

-- ---- what an entry says of a handle

-- the request, with this status, gets no address by the application's handle and doesn't end its pin on a table that keeps this
pub record Spares (actor : Actor) (request : Request) (status : Status) (app n : ℕ) (same : ℕ × ℕ × ℕ) : Type 0 where
  pub no_get : (is_by app actor && asks_address n request && is_done status) ≡ false
  pub no_return : (is_by app actor && is_done status && (asks_end n request || is_exit request)) ≡ false
  pub no_removal : (is_by same.1 actor && is_done status && (asks_removal same.2 request || is_exit request)) ≡ false
  pub goes_on : (is_reset request || eqb status.0 INFO_STOPPED.0) ≡ false

-- so does the entry
pub gets_none : (app n : ℕ) (t : Table) (e : Entry) → Spares e.actor e.request e.reply.status app n (kept t) → is_get app n e ≡ false
gets_none app n t e spares = spares.no_get

pub ends_none : (app n : ℕ) (t : Table) (e : Entry) → Spares e.actor e.request e.reply.status app n (kept t) → ends_pin app n t e ≡ false
ends_none app n t e spares = or_from (gives_back app n e || takes_away t e) (begins_anew e) (or_from (gives_back app n e) (takes_away t e) spares.no_return spares.no_removal) spares.goes_on

-- ---- the requests that end no pin

-- a request that neither gets nor ends anything
pub record IsPlain (request : Request) : Type 0 where
  pub no_address : (n : ℕ) → asks_address n request ≡ false
  pub no_end : (n : ℕ) → asks_end n request ≡ false
  pub no_removal : (n : ℕ) → asks_removal n request ≡ false
  pub no_exit : is_exit request ≡ false
  pub no_reset : is_reset request ≡ false

and_false : (a : Bool) → (a && false) ≡ false
and_false true = refl
and_false false = refl

middle : (a b : Bool) → (a && false && b) ≡ false
middle true b = refl
middle false b = refl

pub plain_spares : (actor : Actor) (request : Request) (status : Status) (app n : ℕ) (same : ℕ × ℕ × ℕ) → IsPlain request → eqb status.0 INFO_STOPPED.0 ≡ false → Spares actor request status app n same
plain_spares actor request status app n same plain goes_on = record {
  no_get = rw (plain.no_address n) (middle (is_by app actor) (is_done status));
  no_return = rw (plain.no_end n, plain.no_exit) (and_false (is_by app actor && is_done status));
  no_removal = rw (plain.no_removal same.2, plain.no_exit) (and_false (is_by same.1 actor && is_done status));
  goes_on = rw plain.no_reset goes_on;
}

-- an answer that reports no trouble isn't that of a stop
pub no_stop : (status : Status) → tells_trouble status ≡ false → eqb status.0 INFO_STOPPED.0 ≡ false
no_stop status none = (or_parts (eqb status.0 INFO_STOPPED.0) _ none).0

-- a refusal
refused_spares : (actor : Actor) (request : Request) (status : Status) (app n : ℕ) (same : ℕ × ℕ × ℕ) → is_reset request ≡ false → is_refusal status ≡ true → Spares actor request status app n same
refused_spares actor request status app n same no_reset refuses =
    let parts = or_parts (is_done status) (tells_trouble status) (not-true _ refuses) in record {
      no_get = rw parts.0 (gone (is_by app actor) (asks_address n request));
      no_return = rw parts.0 (middle (is_by app actor) (asks_end n request || is_exit request));
      no_removal = rw parts.0 (middle (is_by same.1 actor) (asks_removal same.2 request || is_exit request));
      goes_on = rw no_reset (no_stop status parts.1);
    }
  where
    gone : (a b : Bool) → (a && b && false) ≡ false
    gone true true = refl
    gone true false = refl
    gone false b = refl

-- ---- what an effect does

-- the request got an address by the handle, which pins the last image of its table
pub record Gets (old new : Tables) (actor : Actor) (request : Request) (status : Status) (n : ℕ) (h : Handle) (p : ℕ) : Type 0 where
  pub requested_it : asks_address n request ≡ true
  pub by : is_by h.app actor ≡ true
  pub done : is_done status ≡ true
  pub found : Access
  pub leads : access_of old n ≡ Some found
  pub row_is : h.row ≡ Some found.row
  pub there : table_at new found.row ≡ Some found.table
  pub is_last : p ≡ found.table.count
  pub some : found.table.count ≢ 0

-- the handle remains, and the request spares it
pub record Stays (old new : Tables) (actor : Actor) (request : Request) (status : Status) (n : ℕ) (h : Handle) (p : ℕ) : Type 0 where
  pub remains : Remains old new n h p
  pub spares : (row : ℕ) (t : Table) → h.row ≡ Some row → table_at old row ≡ Some t → IsNear p t → Spares actor request status h.app n (kept t)

-- after this effect each handle that pins an image stays, or it got its address just now
pub record Fair (s : State) (actor : Actor) (request : Request) (effect : Effect) : Type 0 where
  pub pins : (n : ℕ) (h : Handle) (p : ℕ) → handle_at effect.next.tables n ≡ Some h → h.pin ≡ Some p
      → Stays s.tables effect.next.tables actor request effect.status n h p ⊎ Gets s.tables effect.next.tables actor request effect.status n h p
  pub loaded : AreLoaded s.tables.rows → AreLoaded effect.next.tables.rows

module _ (s : State) (actor : Actor) (request : Request) where
  -- each handle remains and is spared
  pub fair_keeps : (effect : Effect) → Keeps s.tables effect.next.tables
      → ((n : ℕ) (h : Handle) (p row : ℕ) (t : Table) → handle_at effect.next.tables n ≡ Some h → h.pin ≡ Some p → h.row ≡ Some row → table_at s.tables row ≡ Some t → GoesOn effect.next.tables.rows row p t → Spares actor request effect.status h.app n (kept t))
      → Fair s actor request effect
  fair_keeps effect keeps spares = record {
    pins = λ n h p at pin. let remains = keeps.remains n h p at pin in inl record { remains = remains; spares = λ row t of there near. spares n h p row t at pin of there (remains.goes_on row t of there near) };
    loaded = keeps.loaded;
  }

  -- a request that ends nothing
  pub fair_plain : IsPlain request → (effect : Effect) → Keeps s.tables effect.next.tables → eqb effect.status.0 INFO_STOPPED.0 ≡ false → Fair s actor request effect
  fair_plain plain effect keeps goes_on = fair_keeps effect keeps (λ n h p row t at pin of there on. plain_spares actor request effect.status h.app n (kept t) plain goes_on)

  -- a refusal leaves the tables as they are
  pub fair_refused : is_reset request ≡ false → (effect : Effect) → effect.next ≡ s → effect.events ≡ [] → effect.calls ≡ [] → is_refusal effect.status ≡ true → Fair s actor request effect
  fair_refused no_reset effect same no_events no_calls refuses = fair_keeps effect (rw same (stays_keeps s.tables)) (λ n h p row t at pin of there on. refused_spares actor request effect.status h.app n (kept t) no_reset refuses)

  -- without tables nothing is pinned
  pub fair_anew : (effect : Effect) → effect.next.tables ≡ no_tables → Fair s actor request effect
  fair_anew effect none = record {
    pins = λ n h p at pin. absurd (nothing_there 256 n h (rw none at at));
    loaded = λ all row t there. absurd (nothing_there 128 row t (rw none at there));
  }

-- ---- what each request does

-- a granted call, whether or not an image came that the handle doesn't know of
pub granted : (b : Bool) → (is_done (cond b INFO_UPDATED SUCCESS) ≡ true) × (eqb (cond b INFO_UPDATED SUCCESS).0 INFO_STOPPED.0 ≡ false)
granted true = (refl, refl)
granted false = (refl, refl)

-- a call that names another handle
pub other_number : (m n : ℕ) → n ≢ m → eqb m n ≡ false
other_number m n other = ne_eqb m n (λ same. other (sym same))

-- the handle pins the last image, and the others stay
pub pin_fair : (s : State) (app m : ℕ) (a : Access) → Leads s.tables app m a → eqb a.table.count 0 ≡ false → Fair s (App app) (ask.Get m) (stepped s (pin_last s.tables m a.handle a.table))
pin_fair s app m a leads some =
    let h : Handle = a.handle in
    let t : Table = a.table in
    let pinning : Handle = record h { pin = Some t.count; told = t.count } in record {
      pins = λ n g p at pin. elim (at_set s.tables.handles m n pinning g at) [
        | inl here ↦ inr record {
          requested_it = eq-eqb m n (sym here.0);
          by = eq-eqb app g.app (sym leads.own ∙ ap (λ (x : Handle). x.app) here.1);
          done = (granted (nat_lt h.told t.count)).0;
          found = a;
          leads = rw here.0 (access_is s.tables m h a.row leads.place leads.row_is ∙ rw leads.there refl);
          row_is = ap (λ (x : Handle). x.row) (sym here.1) ∙ leads.row_is;
          there = leads.there;
          is_last = same_Some p t.count (sym pin ∙ ap (λ (x : Handle). x.pin) (sym here.1));
          some = eqb-false t.count 0 some;
        }
        | inr other ↦ inl record {
          remains = record { was = other.1; goes_on = λ row u of there near. stays_goes_on s.tables.rows row p u there near };
          spares = λ row u of there near. record {
            no_get = rw (other_number m n other.0) (middle (eqb app g.app) _);
            no_return = and_false _;
            no_removal = and_false _;
            goes_on = (granted (nat_lt h.told t.count)).1;
          };
        }
      ];
      loaded = λ all. all;
    }

-- a handle that was given back
module _ (s : State) (app m : ℕ) (request : Request) (names : (n : ℕ) → asks_end n request ≡ eqb m n) (gets : (n : ℕ) → asks_address n request ≡ false) (exit : is_exit request ≡ false) (reset : is_reset request ≡ false) where
  pub back_fair : (effect : Effect) → Keeps s.tables effect.next.tables → eqb effect.status.0 INFO_STOPPED.0 ≡ false
      → ((n : ℕ) (h : Handle) (p : ℕ) → handle_at effect.next.tables n ≡ Some h → h.pin ≡ Some p → n ≢ m)
      → ((n : ℕ) (h : Handle) (p row : ℕ) (t : Table) → handle_at effect.next.tables n ≡ Some h → h.pin ≡ Some p → h.row ≡ Some row → table_at s.tables row ≡ Some t → GoesOn effect.next.tables.rows row p t → asks_removal t.handle request ≡ false)
      → Fair s (App app) request effect
  back_fair effect keeps goes_on others removal = fair_keeps s (App app) request effect keeps (λ n h p row t at pin of there on. record {
    no_get = rw (gets n) (middle (eqb app h.app) (is_done effect.status));
    no_return = rw (names n, other_number m n (others n h p at pin), exit) (and_false _);
    no_removal = rw (removal n h p row t at pin of there on, exit) (and_false _);
    goes_on = rw reset goes_on;
  })

-- ---- Manage and housekeeping keep what pins see.

-- a load that is about to go active is open
pub open_checked : (t : Table) → is_checked t ≡ true → is_some t.load ≡ true
open_checked t checked = by t.load checked where
  by : (load : Option Load) → option_map_or (λ (l : Load). l.checked) load false ≡ true → is_some load ≡ true
  by None is = absurd (cc is)
  by (Some l) is = refl

-- ---- Manage

module _ (n : ℕ) (row : ℕ) (given : Given) where
  validate_keeps : (active : Bool) (d : Done) → Keeps d.state.tables (then_validate row active given d).state.tables
  validate_keeps active d = with_found n row given (λ e. Keeps d.state.tables e.state.tables) d _ (table_at d.state.tables row) refl (stays_keeps d.state.tables) (λ t there.
      either n row given (λ e. Keeps d.state.tables e.state.tables) (not (is_pending row active d.state.pending)) d (with_validation row active (verdict_at (length d.questions) given) d t) (stays_keeps d.state.tables) (λ _. by active))
    where
      by : (a : Bool) → Keeps d.state.tables (marked row a (verdict_at (length d.questions) given) d.state.tables)
      by true = stays_keeps d.state.tables
      by false = mark_keeps d.state.tables row (is_good (verdict_at (length d.questions) given))

  then_update_keeps : (d : Done) → AreFit n d.state → Keeps d.state.tables (then_update row d).state.tables
  then_update_keeps d fit = with_found n row given (λ e. Keeps d.state.tables e.state.tables) d _ (table_at d.state.tables row) refl (stays_keeps d.state.tables) (λ t there. by t there (update_refusal d.state.tables row t) refl) where
    by : (t : Table) → table_at d.state.tables row ≡ Some t → (r : Option Answer) → update_refusal d.state.tables row t ≡ r → Keeps d.state.tables (cond (is_some r) d (with_update row d t)).state.tables
    by t there (Some answer) is = stays_keeps d.state.tables
    by t there None is =
        let taken = update_taken d.state.tables row t is in
        update_keeps d.state.tables row t d.state.seconds d.state.sub there taken.1 (open_checked t ((was n d.state fit row t there).checked taken.0))

  fill_keeps : (d : Done) → Keeps d.state.tables (then_fill row d).state.tables
  fill_keeps d = with_found n row given (λ e. Keeps d.state.tables e.state.tables) d _ (table_at d.state.tables row) refl (stays_keeps d.state.tables) (λ t there.
      either n row given (λ e. Keeps d.state.tables e.state.tables) (not (is_requested t.dump)) d (with_fill row d) (stays_keeps d.state.tables) (λ _. unseen_keeps d.state.tables row (λ u. record u { dump = filled_with (last_image u) u.dump }) (λ u. refl) (λ u. refl)))

  pub manage_keeps : (s : State) → AreFit n s → Keeps s.tables (all_done s given row).state.tables
  manage_keeps s fit =
      let one = then_validate row true given (nothing_done s) in
      let two = then_validate row false given one in
      let three = then_update row two in
      then_keeps s.tables one.state.tables _ (validate_keeps true (nothing_done s)) (then_keeps one.state.tables two.state.tables _ (validate_keeps false one)
      (then_keeps two.state.tables three.state.tables _ (then_update_keeps two (validated n row given false one (validated n row given true (nothing_done s) fit))) (fill_keeps three)))

-- the answer of Manage isn't that of a stop
pub manage_goes_on : (tables : Tables) (row : ℕ) (t : Table) → eqb (manage_answer tables row t).status.0 INFO_STOPPED.0 ≡ false
manage_goes_on tables row t = by t.activation (locker tables row t) where
  by : (b : Bool) (lock : Option ℕ) → eqb (cond {A = Answer} (not b) (record { status = SUCCESS; detail = 0 }) (option_map_or (λ handle. record { status = INFO_TABLE_LOCKED; detail = handle }) lock (record { status = INFO_UPDATED; detail = 0 }))).status.0 INFO_STOPPED.0 ≡ false
  by false lock = refl
  by true None = refl
  by true (Some handle) = refl

-- nor is that of a validation, or a status
pub judged_goes_on : (b : Bool) → eqb (cond b SUCCESS ERR_VALIDATION_FAILED).0 INFO_STOPPED.0 ≡ false
judged_goes_on true = refl
judged_goes_on false = refl

pub status_goes_on : (pending : List (ℕ × Bool)) (row : ℕ) (t : Table) → eqb (pending_status pending row t).0 INFO_STOPPED.0 ≡ false
status_goes_on pending row t = by (is_pending row true pending || is_pending row false pending) t.activation (is_quiet t.dump) where
  by : (validation activation idle : Bool) → eqb (cond validation INFO_VALIDATION_PENDING (cond activation INFO_UPDATE_PENDING (cond (not idle) INFO_DUMP_PENDING SUCCESS))).0 INFO_STOPPED.0 ≡ false
  by true activation idle = refl
  by false true idle = refl
  by false false true = refl
  by false false false = refl

-- ---- housekeeping

pub ends_keep : (rows : List ℕ) (e : Ended) → Keeps e.state.tables (fold then_end e rows).state.tables
ends_keep [] e = stays_keeps e.state.tables
ends_keep (row ∷ rows) e = then_keeps e.state.tables (then_end e row).state.tables _ (one (table_at e.state.tables row)) (ends_keep rows (then_end e row)) where
  over : Keeps e.state.tables (end_dump row e.state.tables)
  over = unseen_keeps e.state.tables row (λ u. record u { dump = quiet }) (λ u. refl) (λ u. refl)

  dump : (name : List ℕ) (d : Dump) → Keeps e.state.tables (end_by e row name d).state.tables
  dump name quiet = stays_keeps e.state.tables
  dump name (requested file) = stays_keeps e.state.tables
  dump name (filled file image) = cond_both (is_full_for e.state.drawer file) _ _ (λ (d : Ended). Keeps e.state.tables d.state.tables) (λ _. over) (λ _. over)

  one : (found : Option Table) → Keeps e.state.tables (option_map_or (λ (t : Table). end_by e row t.name t.dump) found e).state.tables
  one None = stays_keeps e.state.tables
  one (Some t) = dump t.name t.dump
