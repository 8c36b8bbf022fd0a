-- Every legal history is whole: what is read by a pinned handle is of the image that was the last when it got the address.
use Rattle.std.proofs.Common.{◌≡◌, ◌≤◌, ℕ, ◌+◌, List, [], ◌∷◌, ◌++◌, length, length-append, arith, Bool, false, Option, Some, None, unwrap_or, refl, ap, sym, ◌∙◌, subst, inl, inr, append_assoc}
use Rattle.std.specs.List.{list_any}
use Rattle.std.proofs.lemmas.Bool.{eq-eqb}
use Rattle.std.proofs.lemmas.List.{append-nil}
use Rattle.std.proofs.lemmas.List.Folds.{list_any-append}
use Rattle.std.proofs.lemmas.Option.{same_Some}
use Rattle.tbl_kinds.specs.Numbers.{piece}
use Rattle.tbl_model.specs.State.{State, Table, Handle, Tables, no_tables}
use Rattle.tbl_model.specs.Tables.{table_at}
use Rattle.tbl_model.specs.TableSteps.{handle_at, image_of}
use Rattle.tbl_model.specs.Effects.{Effect}
use Rattle.tbl_model.specs.Given.{Given}
use Rattle.tbl_model.specs.StoreNotes.{IsNoteOf}
use Rattle.tbl_model.specs.Dispatch.{effect_of}
use Rattle.tbl_model.specs.Addresses.{read_effect}
use Rattle.tbl_model.specs.History.{Run, begins_at, onward_by, run_from, IsAnswered, AreAnswered, IsLegal}
use Rattle.tbl_model.specs.Whole.{is_get, ends_pin, IsWholeRead, IsWholeBy, IsWholeEntry, IsWhole}
use Rattle.tbl_model.proofs.HistoryLaws.{run_push}
use Rattle.tbl_kinds.specs.declared.entry.Entry.{Entry}
use Rattle.tbl_kinds.specs.declared.request.Actor.{Actor}
use Rattle.tbl_kinds.specs.declared.request.Actor.TheVariants.{App}
use Rattle.tbl_kinds.specs.declared.request.Request.{Request}
use Rattle.tbl_kinds.specs.declared.request.Request.TheVariants as ask
use Rattle.tbl_kinds.specs.declared.status.TheConstants.Status.{SUCCESS}
use Rattle.tbl_model.specs.Fit.{AreFit}
use Rattle.tbl_laws.proofs.Cases.{OfEffect}
use Rattle.tbl_laws.proofs.AddressCases.{by_read}
use Rattle.tbl_laws.proofs.Ordinary.{IsOrdinary, fit_at_first, ordinary}
use Rattle.tbl_laws.proofs.Fair.{Spares, Gets, Stays, Fair, gets_none, ends_none}
use Rattle.tbl_laws.proofs.FairRequests.{request_fair}
use Rattle.tbl_laws.proofs.Pins.{some_there, nothing_there, kept, IsNear, GoesOn, IsLoaded, AreLoaded}

-- ---- the history before a pin

-- a read that is whole, of a table that keeps this
abbrev WholeOf : State → List Entry → ℕ → ℕ → ℕ × ℕ × ℕ → ℕ → ℕ → List ℕ → Type 0
WholeOf opening entries app n same offset len image = (w : IsWholeRead opening entries app n offset len (piece offset len image)) × (kept w.found.table ≡ same)

-- the handle leads to a table that gives an image under the number of the pin, and whatever is read of it now is whole
record Pinned (opening : State) (entries : List Entry) (tables : Tables) (n : ℕ) (h : Handle) (p : ℕ) : Type 0 where
  row : ℕ
  row_is : h.row ≡ Some row
  table : Table
  there : table_at tables row ≡ Some table
  near : IsNear p table
  image : List ℕ
  image_is : image_of table p ≡ Some image
  reads : (offset len : ℕ) → offset + len ≤ table.size → WholeOf opening entries h.app n (kept table) offset len image

-- this holds of each pinned handle
record Invariant (opening : State) (entries : List Entry) (s : State) : Type 0 where
  pinned : (n : ℕ) (h : Handle) (p : ℕ) → handle_at s.tables n ≡ Some h → h.pin ≡ Some p → Pinned opening entries s.tables n h p
  loaded : AreLoaded s.tables.rows
  fit : AreFit (length entries) s

-- without tables nothing is pinned
holds_start : (opening : State) → opening.tables ≡ no_tables → opening.pending ≡ [] → Invariant opening [] opening
holds_start opening tables pending = record {
  pinned = λ n h p at pin. absurd (nothing_there 256 n h (rw tables at at));
  loaded = λ row t there. absurd (nothing_there 128 row t (rw tables at there));
  fit = fit_at_first 0 opening tables pending;
}

-- none passes a test if one more fails it
none_more : {X : Type 0} (p : X → Bool) (xs : List X) (x : X) → list_any p xs ≡ false → p x ≡ false → list_any p (xs ++ x ∷ []) ≡ false
none_more p xs x none fails = rw (list_any-append p xs (x ∷ []), none, fails) refl

-- a read stays whole over an entry that gets no address by the handle and doesn't end its pin
whole_on : (opening : State) (entries : List Entry) (app n : ℕ) (same : ℕ × ℕ × ℕ) (offset len : ℕ) (image : List ℕ) (e : Entry) → is_get app n e ≡ false → ((t : Table) → kept t ≡ same → ends_pin app n t e ≡ false)
    → WholeOf opening entries app n same offset len image → WholeOf opening (entries ++ e ∷ []) app n same offset len image
whole_on opening entries app n same offset len image e no_get no_end whole = let w = whole.0 in (
  record {
    earlier = w.earlier;
    get = w.get;
    between = w.between ++ e ∷ [];
    split = ap (λ (es : List Entry). es ++ e ∷ []) w.split ∙ append_assoc w.earlier (w.get ∷ w.between) (e ∷ []);
    got = w.got;
    latest = none_more (is_get app n) w.between e w.latest no_get;
    found = w.found;
    leads = w.leads;
    stands = none_more (ends_pin app n w.found.table) w.between e w.stands (no_end w.found.table whole.1);
    image = w.image;
    is_last = w.is_last;
    sized = w.sized;
    within = w.within;
    bytes_are = w.bytes_are;
  },
  whole.1,
)

-- one more entry, answered with this effect
module _ (opening : State) (entries : List Entry) (e : Entry) (s : State) (effect : Effect) (here : (run_from (begins_at opening) entries).state.tables ≡ s.tables) (holds : Invariant opening entries s)
    (status : e.reply.status ≡ effect.status) (fair : Fair s e.actor e.request effect) (ordinary_left : IsOrdinary (length entries) e.given.note effect) where
  -- a handle that stays leads to the same image, and the call that pinned it is still the latest
  stays_pinned : (n : ℕ) (h : Handle) (p : ℕ) → h.pin ≡ Some p → Stays s.tables effect.next.tables e.actor e.request effect.status n h p → Pinned opening (entries ++ e ∷ []) effect.next.tables n h p
  stays_pinned n h p pin stays =
      let was : Pinned opening entries s.tables n h p = holds.pinned n h p stays.remains.was pin in
      let on : GoesOn effect.next.tables.rows was.row p was.table = stays.remains.goes_on was.row was.table was.row_is was.there was.near in
      let spares : Spares e.actor e.request e.reply.status h.app n (kept was.table) = rw status (stays.spares was.row was.table was.row_is was.there was.near) in record {
        row = was.row;
        row_is = was.row_is;
        table = on.table;
        there = on.there;
        near = on.gives.near;
        image = was.image;
        image_is = on.gives.image ∙ was.image_is;
        reads = λ offset len inside. subst (λ (same : ℕ × ℕ × ℕ). WholeOf opening (entries ++ e ∷ []) h.app n same offset len was.image) (sym on.gives.same)
            (whole_on opening entries h.app n (kept was.table) offset len was.image e (gets_none h.app n was.table e spares)
            (λ t same. ends_none h.app n t e (subst (Spares e.actor e.request e.reply.status h.app n) (sym same) spares))
            (was.reads offset len (rw (ap (λ (k : ℕ × ℕ × ℕ). k.0) on.gives.same) at inside)));
      }

  -- a handle that got its address just now leads to the last image, and this call is the latest
  gets_pinned : (n : ℕ) (h : Handle) (p : ℕ) → Gets s.tables effect.next.tables e.actor e.request effect.status n h p → Pinned opening (entries ++ e ∷ []) effect.next.tables n h p
  gets_pinned n h p gets =
      let t : Table = gets.found.table in
      let loaded : IsLoaded t = fair.loaded holds.loaded gets.found.row t gets.there in
      let last : (image : List ℕ) × (t.last ≡ Some image) = some_there t.last (loaded.some gets.some) in record {
        row = gets.found.row;
        row_is = gets.row_is;
        table = t;
        there = gets.there;
        near = inl gets.is_last;
        image = last.0;
        image_is = rw (eq-eqb p t.count gets.is_last) last.1;
        reads = λ offset len inside. (
          record {
            earlier = entries;
            get = e;
            between = [];
            split = refl;
            got = rw (gets.by, gets.requested_it, status, gets.done) refl;
            latest = refl;
            found = gets.found;
            leads = rw here gets.leads;
            stands = refl;
            image = last.0;
            is_last = last.1;
            sized = loaded.sized last.0 last.1;
            within = inside;
            bytes_are = refl;
          },
          refl,
        );
      }

  -- what holds of the pinned handles holds with one entry more
  holds_on : Invariant opening (entries ++ e ∷ []) effect.next
  holds_on = record {
    pinned = λ n h p at pin. elim (fair.pins n h p at pin) [ inl stays ↦ stays_pinned n h p pin stays | inr gets ↦ gets_pinned n h p gets ];
    loaded = fair.loaded holds.loaded;
    fit = subst (λ (k : ℕ). AreFit k effect.next) (omega (arith, length-append entries (e ∷ []))) ordinary_left.fit;
  }

-- ---- whole histories

-- a read by a pinned handle gives a piece of the image that the pin is of
read_is : (h : Handle) (t : Table) (p offset len : ℕ) (image : List ℕ) → h.pin ≡ Some p → image_of t p ≡ Some image → piece offset len (unwrap_or (image_of t (unwrap_or h.pin 0)) []) ≡ piece offset len image
read_is h t p offset len image pin is = rw (pin, is) refl

module _ (opening : State) (entries : List Entry) (s : State) (holds : Invariant opening entries s) where
  -- so each read that is answered with bytes is whole
  whole_read : (app n offset len : ℕ) → (read_effect s app n offset len).status ≡ SUCCESS → IsWholeRead opening entries app n offset len (read_effect s app n offset len).bytes
  whole_read app n offset len =
      by_read s (λ effect. effect.status ≡ SUCCESS → IsWholeRead opening entries app n offset len effect.bytes)
      (λ effect same no_events no_calls refuses ok. absurd (cc (rw ok at refuses))) app n offset len
      (λ a leads pinned inside _.
      let pin : (p : ℕ) × (a.handle.pin ≡ Some p) = some_there a.handle.pin pinned in
      let is : Pinned opening entries s.tables n a.handle pin.0 = holds.pinned n a.handle pin.0 leads.place pin.1 in
      let row : is.row ≡ a.row = same_Some is.row a.row (sym is.row_is ∙ leads.row_is) in
      let one : is.table ≡ a.table = same_Some is.table a.table (sym is.there ∙ rw (← row) at leads.there) in
      rw (read_is a.handle a.table pin.0 offset len is.image pin.1 (rw one at is.image_is))
      (subst (λ (by : ℕ). IsWholeRead opening entries by n offset len (piece offset len is.image)) leads.own (is.reads offset len (rw one inside)).0))

  -- and other requests owe nothing
  whole_by : (actor : Actor) (request : Request) (given : Given) → OfEffect (λ e. e.status ≡ SUCCESS → IsWholeBy opening entries actor request e.bytes) (effect_of s actor request given)
  whole_by (App app) (ask.Read n offset len) given = whole_read app n offset len
  whole_by actor request given = of_all (effect_of s actor request given) where
    of_all : (found : Option Effect) → OfEffect (λ e. e.status ≡ SUCCESS → IsWholeBy opening entries actor request e.bytes) found
    of_all None = tt
    of_all (Some e) = λ ok. tt

module _ (opening : State) where
  -- what is there after these entries
  abbrev run_at : List Entry → Run
  run_at entries = run_from (begins_at opening) entries

  abbrev HoldsAt : List Entry → Type 0
  HoldsAt entries = Invariant opening entries (run_at entries).state

  -- the next entry, if it is a read
  whole_entry : (entries : List Entry) (e : Entry) → HoldsAt entries → IsAnswered (run_at entries) e → IsWholeEntry opening entries e
  whole_entry entries e holds is ok =
      let by = subst (OfEffect (λ (f : Effect). f.status ≡ SUCCESS → IsWholeBy opening entries e.actor e.request f.bytes)) is.effect_is (whole_by opening entries (run_at entries).state holds e.actor e.request e.given) in
      subst (IsWholeBy opening entries e.actor e.request) (sym is.bytes) (by (sym is.status ∙ ok))

  -- the pins after the next entry
  holds_after : (entries : List Entry) (e : Entry) → HoldsAt entries → IsAnswered (run_at entries) e → HoldsAt (entries ++ e ∷ [])
  holds_after entries e holds is =
      let s : State = (run_at entries).state in
      let fair : Fair s e.actor e.request is.effect = (subst (OfEffect (λ (f : Effect). IsNoteOf e.request f.calls s.store e.given.note → Fair s e.actor e.request f)) is.effect_is (request_fair s (length entries) holds.fit holds.loaded e.actor e.request e.given)) is.given.note in
      let left : IsOrdinary (length entries) e.given.note is.effect = subst (OfEffect (IsOrdinary (length entries) e.given.note)) is.effect_is (ordinary s (length entries) is.live holds.fit e.actor e.request e.given) in
      let on : Invariant opening (entries ++ e ∷ []) is.effect.next = holds_on opening entries e s is.effect refl holds is.status fair left in
      subst (λ (r : Run). Invariant opening (entries ++ e ∷ []) r.state) (sym (run_push (begins_at opening) entries e))
      (subst (λ (found : Option Effect). Invariant opening (entries ++ e ∷ []) (onward_by (run_at entries) e found).state) (sym is.effect_is) on)

  -- all entries, from some that were played on
  whole_from : (done before after : List Entry) (e : Entry) → HoldsAt done → AreAnswered (run_at done) (before ++ e ∷ after) → IsWholeEntry opening (done ++ before) e
  whole_from done [] after e holds are = subst (λ (es : List Entry). IsWholeEntry opening es e) (sym (append-nil done)) (whole_entry done e holds are.0)
  whole_from done (x ∷ before) after e holds are =
      let rest : AreAnswered (run_at (done ++ x ∷ [])) (before ++ e ∷ after) = subst (λ (r : Run). AreAnswered r (before ++ e ∷ after)) (sym (run_push (begins_at opening) done x)) are.1 in
      subst (λ (es : List Entry). IsWholeEntry opening es e) (append_assoc done (x ∷ []) before) (whole_from (done ++ x ∷ []) before after e (holds_after done x holds are.0) rest)

-- from a state without tables and pending validations on, every legal history is whole
pub whole : (opening : State) (entries : List Entry) (after : State) → opening.tables ≡ no_tables → opening.pending ≡ [] → IsLegal opening entries after → IsWhole opening entries
whole opening entries after none nothing_pending legal before rest e split =
    whole_from opening [] before rest e (holds_start opening none nothing_pending) (subst (AreAnswered (begins_at opening)) split legal.answered)
