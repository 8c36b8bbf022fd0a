-- How requests leave pins.
use Rattle.std.proofs.Common.{◌≡◌, ℕ, eqb, List, [], Bool, true, false, ◌&&◌, Option, Some, None, is_some, refl, sym, ap, ◌∙◌, subst, inl, inr}
use Rattle.std.specs.Prelude.{option_and_then}
use Rattle.std.specs.Option.{option_map, option_map_or}
use Rattle.std.proofs.lemmas.Bool.{eqb-true, eq-eqb, and_parts, or_parts, not-true}
use Rattle.std.proofs.lemmas.List.{get_or-set_same}
use Rattle.tbl_model.specs.State.{State, Table, Handle, Tables, no_tables}
use Rattle.tbl_model.specs.Tables.{table_at}
use Rattle.tbl_model.specs.TableSteps.{Access, handle_at, image_of, with_handle}
use Rattle.tbl_model.specs.AddressSteps.{pin_last}
use Rattle.tbl_model.specs.Effects.{Effect}
use Rattle.tbl_model.specs.Addresses.{stepped}
use Rattle.tbl_model.specs.Given.{Given}
use Rattle.tbl_model.specs.Fit.{AreFit}
use Rattle.tbl_model.specs.Dispatch.{effect_of}
use Rattle.tbl_model.specs.StoreNotes.{IsNoteOf}
use Rattle.tbl_model.specs.BankCounts.{tells_trouble}
use Rattle.tbl_model.specs.Whole.{is_done, asks_address}
use Rattle.tbl_kinds.specs.declared.request.Actor.{Actor}
use Rattle.tbl_kinds.specs.declared.request.Actor.TheVariants.{Ground, App}
use Rattle.tbl_kinds.specs.declared.request.Request.{Request}
use Rattle.tbl_kinds.specs.declared.request.Request.TheVariants as ask
use Rattle.tbl_kinds.specs.declared.status.Status.{Status}
use Rattle.tbl_kinds.specs.declared.status.TheConstants.Status.{INFO_STOPPED}
use Rattle.tbl_model.proofs.RefusalAnswers.{is_refusal}
use Rattle.tbl_laws.proofs.Cases.{OfEffect, Leads, access_at, access_is}
use Rattle.tbl_laws.proofs.AddressCases.{by_get}
use Rattle.tbl_laws.proofs.Pins.{nothing_there, within, some_there, GoesOn, IsLoaded, AreLoaded, Remains, Keeps}
use Rattle.tbl_laws.proofs.Fair.{Gets, Fair}
use Rattle.tbl_laws.proofs.FairRequests.{request_fair}
use Rattle.tbl_registry.specs.Lending.{pins_image, pinned_by, pinned_image}
use Rattle.tbl_core.specs.Pins.{IsHeld, IsFilled, HaveImages, gets_address, PinsGoOn}

-- ---- the image of a pin

-- the image that a handle pins, by its row, its table and the number of the image
pub pinned_is : (tables : Tables) (n row p : ℕ) (h : Handle) (t : Table) → handle_at tables n ≡ Some h → h.row ≡ Some row → table_at tables row ≡ Some t → h.pin ≡ Some p → pinned_image n tables ≡ image_of t p
pinned_is tables n row p h t at of there pin =
    ap (option_and_then pinned_by) (access_is tables n h row at of ∙ ap (option_map (access_at h row)) there) ∙ ap (option_and_then (image_of t)) pin

-- whose handle it is, and that it is held
pub record IsPinnedBy (tables : Tables) (n : ℕ) (image : List ℕ) : Type 0 where
  pub handle : Handle
  pub at : handle_at tables n ≡ Some handle
  pub number : ℕ
  pub pin : handle.pin ≡ Some number

pub pinned_by_handle : (tables : Tables) (n : ℕ) (image : List ℕ) → pinned_image n tables ≡ Some image → IsPinnedBy tables n image
pinned_by_handle tables n image is = by_handle (handle_at tables n) refl where
  by_pin : (h : Handle) (pin : Option ℕ) → handle_at tables n ≡ Some h → h.pin ≡ pin → (pin ≡ None → ⊥) → IsPinnedBy tables n image
  by_pin h None at none some = absurd (some refl)
  by_pin h (Some p) at pin some = record { handle = h; at = at; number = p; pin = pin }

  by_table : (h : Handle) (row : ℕ) (found : Option Table) → handle_at tables n ≡ Some h → h.row ≡ Some row → table_at tables row ≡ found → IsPinnedBy tables n image
  by_table h row None at of there = absurd (cc (is, ap (option_and_then pinned_by) (access_is tables n h row at of ∙ ap (option_map (access_at h row)) there)))
  by_table h row (Some t) at of there = by_pin h h.pin at refl (λ none.
      cc (is, ap (option_and_then pinned_by) (access_is tables n h row at of ∙ ap (option_map (access_at h row)) there) ∙ ap (option_and_then (image_of t)) none))

  by_row : (h : Handle) (of : Option ℕ) → handle_at tables n ≡ Some h → h.row ≡ of → IsPinnedBy tables n image
  by_row h None at of = absurd (no_row (handle_at tables n) h at of is) where
    no_row : (found : Option Handle) (h : Handle) → found ≡ Some h → h.row ≡ None
        → option_and_then pinned_by (option_and_then (λ (g : Handle). option_and_then (λ row. option_map (λ t. record { handle = g; row = row; table = t }) (table_at tables row)) g.row) found) ≡ Some image → ⊥
    no_row found h at of some = cc (rw (at, of) at some)
  by_row h (Some row) at of = by_table h row (table_at tables row) at of refl

  by_handle : (found : Option Handle) → handle_at tables n ≡ found → IsPinnedBy tables n image
  by_handle None at = absurd (cc (rw at at is))
  by_handle (Some h) at = by_row h h.row at refl

-- ---- an effect that is fair to pins

pub all_loaded : (tables : Tables) → HaveImages tables → AreLoaded tables.rows
all_loaded tables has row t there = let f = has.filled row t there in record { some = f.some; sized = f.sized; load_sized = f.load_sized }

pub all_filled : (tables : Tables) → AreLoaded tables.rows → (row : ℕ) (t : Table) → table_at tables row ≡ Some t → IsFilled t
all_filled tables loaded row t there = let f = loaded row t there in record { some = f.some; sized = f.sized; load_sized = f.load_sized }

module _ (old new : Tables) (has : HaveImages old) where
  -- a handle that remains pins what it pinned
  pub held_on : (n : ℕ) (h : Handle) (p : ℕ) → handle_at new n ≡ Some h → h.pin ≡ Some p → Remains old new n h p → IsHeld new h p × (pinned_image n new ≡ pinned_image n old)
  held_on n h p at pin remains =
      let was : IsHeld old h p = has.held n h p remains.was pin in
      let on : GoesOn new.rows was.row p was.table = remains.goes_on was.row was.table was.row_is was.there was.near in (
        record {
          row = was.row;
          row_is = was.row_is;
          table = on.table;
          there = on.there;
          near = on.gives.near;
          image = was.image;
          image_is = on.gives.image ∙ was.image_is;
        },
        pinned_is new n was.row p h on.table at was.row_is on.there pin ∙ on.gives.image ∙ sym (pinned_is old n was.row p h was.table remains.was was.row_is was.there pin),
      )

  -- where each remains
  module _ (request : Request) (status : Status) (keeps : Keeps old new) (none : (n : ℕ) → asks_address n request ≡ false) where
    pub kept_pins : HaveImages new × PinsGoOn old new request status
    kept_pins = (
      record {
        held = λ n h p at pin. (held_on n h p at pin (keeps.remains n h p at pin)).0;
        filled = all_filled new (keeps.loaded (all_loaded old has));
      },
      record {
        each = λ n h p at pin. let remains = keeps.remains n h p at pin in inl (remains.was, (held_on n h p at pin remains).1);
        got = λ n got. absurd (cc (subst (λ (b : Bool). (b && is_done status) ≡ true) (none n) got));
      },
    )

-- no status makes an address of another request
pub pins_with : (old new : Tables) (request : Request) (status other : Status) → ((n : ℕ) → asks_address n request ≡ false) → PinsGoOn old new request status → PinsGoOn old new request other
pins_with old new request status other none on = record {
  each = λ n h p at pin. elim (on.each n h p at pin) [ inl was ↦ inl was | inr got ↦ absurd (never n status got) ];
  got = λ n got. absurd (never n other got);
} where
  never : (n : ℕ) (status : Status) → gets_address n request status ≡ true → ⊥
  never n status got = cc (subst (λ (b : Bool). (b && is_done status) ≡ true) (none n) got)

-- without tables there is no handle
pub no_handle : (tables : Tables) (n : ℕ) (h : Handle) → tables ≡ no_tables → handle_at tables n ≡ Some h → ⊥
no_handle tables n h is at = nothing_there 256 n h (rw is at at)

pub no_images : (tables : Tables) → tables ≡ no_tables → HaveImages tables
no_images tables is = record {
  held = λ n h p at pin. absurd (no_handle tables n h is at);
  filled = λ row t there. absurd (nothing_there 128 row t (rw is at there));
}

-- so nothing is pinned
pub no_pins : (old new : Tables) (request : Request) (status : Status) → new ≡ no_tables → ((n : ℕ) → asks_address n request ≡ false) → HaveImages new × PinsGoOn old new request status
no_pins old new request status is none = (
  no_images new is,
  record {
    each = λ n h p at pin. absurd (no_handle new n h is at);
    got = λ n got. absurd (cc (subst (λ (b : Bool). (b && is_done status) ≡ true) (none n) got));
  },
)

-- and who was stopped got no address
pub stopped_pins : (old new : Tables) (request : Request) (status : Status) → status ≡ INFO_STOPPED → new ≡ no_tables → HaveImages new × PinsGoOn old new request status
stopped_pins old new request status stop is = (
  no_images new is,
  record {
    each = λ n h p at pin. absurd (no_handle new n h is at);
    got = λ n got. absurd (cc ((and_parts (asks_address n request) (is_done status) got).1, ap is_done stop));
  },
)

-- ---- a request about tables

-- whoever got an address pins by its handle
abbrev Pins : Request → Effect → Type 0
Pins request e = (n : ℕ) → gets_address n request e.status ≡ true → pins_image n e.next.tables ≡ true

module _ (s : State) where
  -- a refusal got none
  refused_pins : (request : Request) (e : Effect) → e.next ≡ s → e.events ≡ [] → e.calls ≡ [] → is_refusal e.status ≡ true → Pins request e
  refused_pins request e same no_events no_calls refuses n got =
      let done : is_done e.status ≡ true = (and_parts (asks_address n request) (is_done e.status) got).1 in
      let none : is_done e.status ≡ false = (or_parts (is_done e.status) (tells_trouble e.status) (not-true _ refuses)).0 in
      absurd (cc (done, none))

  -- a call that got the address of the table to which its handle leads
  pinned_pins : (app m : ℕ) (a : Access) → Leads s.tables app m a → eqb a.table.count 0 ≡ false → Pins (ask.Get m) (stepped s (pin_last s.tables m a.handle a.table))
  pinned_pins app m a leads some n got =
      let h : Handle = a.handle in
      let t : Table = a.table in
      let pinning : Handle = record h { pin = Some t.count; told = t.count } in
      let new : Tables = with_handle m pinning s.tables in
      let same : m ≡ n = eqb-true m n (and_parts (eqb m n) (is_done (pin_last s.tables m h t).status) got).0 in
      let at : handle_at new m ≡ Some pinning = get_or-set_same s.tables.handles m (Some pinning) None (within s.tables.handles m h leads.place) in
      subst (λ (k : ℕ). pins_image k new ≡ true) same
      (ap (λ (found : Option Access). option_map_or (λ (b : Access). is_some b.handle.pin) found false) (access_is new m pinning a.row at leads.row_is ∙ ap (option_map (access_at pinning a.row)) leads.there))

  request_pins : (actor : Actor) (request : Request) (given : Given) → OfEffect (Pins request) (effect_of s actor request given)
  request_pins (App app) (ask.Get m) given = by_get s (Pins (ask.Get m)) (refused_pins (ask.Get m)) app m (pinned_pins app m)
  request_pins Ground (ask.Get m) given = tt
  request_pins actor request given = of_all (effect_of s actor request given) where
    of_all : (found : Option Effect) → OfEffect (Pins request) found
    of_all None = tt
    of_all (Some e) = λ n got. absurd (cc got)

  module _ (many : ℕ) (fit : AreFit many s) (has : HaveImages s.tables) (actor : Actor) (request : Request) (given : Given) (e : Effect) (is : effect_of s actor request given ≡ Some e) (noted : IsNoteOf request e.calls s.store given.note) where
    fair : Fair s actor request e
    fair = (subst (OfEffect (λ (f : Effect). IsNoteOf request f.calls s.store given.note → Fair s actor request f)) is (request_fair s many fit (all_loaded s.tables has) actor request given)) noted

    loaded_on : AreLoaded e.next.tables.rows
    loaded_on = fair.loaded (all_loaded s.tables has)

    held_by_get : (n : ℕ) (h : Handle) (p : ℕ) → Gets s.tables e.next.tables actor request e.status n h p → IsHeld e.next.tables h p
    held_by_get n h p gets =
        let t : Table = gets.found.table in
        let loaded : IsLoaded t = loaded_on gets.found.row t gets.there in
        let last : (image : List ℕ) × (t.last ≡ Some image) = some_there t.last (loaded.some gets.some) in record {
          row = gets.found.row;
          row_is = gets.row_is;
          table = t;
          there = gets.there;
          near = inl gets.is_last;
          image = last.0;
          image_is = rw (eq-eqb p t.count gets.is_last) last.1;
        }

    pub law_pins : HaveImages e.next.tables × PinsGoOn s.tables e.next.tables request e.status
    law_pins = (
      record {
        held = λ n h p at pin. elim (fair.pins n h p at pin) [ inl stays ↦ (held_on s.tables e.next.tables has n h p at pin stays.remains).0 | inr gets ↦ held_by_get n h p gets ];
        filled = all_filled e.next.tables loaded_on;
      },
      record {
        each = λ n h p at pin. elim (fair.pins n h p at pin) [
          | inl stays ↦ inl (stays.remains.was, (held_on s.tables e.next.tables has n h p at pin stays.remains).1)
          | inr gets ↦ inr (rw (gets.requested_it, gets.done) refl)
        ];
        got = subst (OfEffect (Pins request)) is (request_pins actor request given);
      },
    )
