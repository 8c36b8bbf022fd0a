-- Images that go active and marks of loads have a verdict in the events: loads of the owner, validations and updates.
use Rattle.std.proofs.Common.{◌≡◌, ℕ, suc, zero, ◌+◌, List, [], ◌∷◌, Bool, true, false, Option, Some, None, is_some, refl, ap, sym, ◌∙◌, subst, inl, inr, ◌⊎◌, arith, ℤ}
use Rattle.std.specs.Option.{option_map, option_map_or}
use Rattle.std.proofs.lemmas.Bool.{cases_eq, eq-eqb}
use Rattle.std.proofs.lemmas.Option.{same_Some}
use Rattle.tbl_model.specs.State.{State, Load, Table, Tables}
use Rattle.tbl_model.specs.Tables.{table_at}
use Rattle.tbl_model.specs.TableSteps.{load_image, set_checked}
use Rattle.tbl_model.specs.Effects.{Effect}
use Rattle.tbl_model.specs.Telemetry.{is_good, activated, finished}
use Rattle.tbl_model.specs.Validations.{judged_image, marked}
use Rattle.tbl_model.specs.Activations.{updated_effect}
use Rattle.tbl_model.specs.declared.telemetry.TelemetryEvent.{TelemetryEvent}
use Rattle.tbl_model.specs.declared.telemetry.TelemetryEvent.TheVariants.{Judged, Activated}
use Rattle.tbl_model.specs.Fit.{AreFit}
use Rattle.tbl_laws.proofs.Rows.{changed_row}
use Rattle.tbl_laws.proofs.Fits.{was}
use Rattle.tbl_laws.proofs.Honest.{TellsIn, PassesIn, NoneActive, none_active_one, Inherits, inherits_same, IsHonest, honest_plain, inherits_updated}

-- ---- events

-- the row of an image that goes active
row_of : TelemetryEvent → Option ℕ
row_of (Activated row count name) = Some row
row_of _ = None

pub same_row : (row k n m : ℕ) (a b : List ℕ) → Activated row n a ≡ Activated k m b → row ≡ k
unfolding row_of
same_row row k n m a b is = same_Some row k (ap row_of is)

-- one event, of an image that goes active
one_active : (row n : ℕ) (name image : List ℕ) (place k m : ℕ) (other found : List ℕ) → TellsIn (Activated row n name ∷ []) (Some image ∷ []) place (Activated k m other) found → (row ≡ k) × (image ≡ found)
one_active row n name image zero k m other found tells = (same_row row k n m name other (same_Some _ _ tells.event_is), same_Some _ _ tells.image_is)
one_active row n name image (suc zero) k m other found tells = absurd (cc tells.event_is)
one_active row n name image (suc (suc place)) k m other found tells = absurd (cc tells.event_is)

-- a verdict, and then an image that goes active
verdict_active : (verdict : ℤ) (row n : ℕ) (name image : List ℕ) (place k m : ℕ) (other found : List ℕ) → is_good verdict ≡ true → TellsIn (Judged row verdict ∷ Activated row n name ∷ []) (Some image ∷ Some image ∷ []) place (Activated k m other) found
    → PassesIn (Judged row verdict ∷ Activated row n name ∷ []) (Some image ∷ Some image ∷ []) k found place
unfolding row_of
verdict_active verdict row n name image zero k m other found good tells = absurd (cc (ap row_of (same_Some _ _ tells.event_is)))
verdict_active verdict row n name image (suc zero) k m other found good tells = record {
  place = 0;
  first = omega arith;
  event = Judged row verdict;
  tells = record { event_is = refl; image_is = tells.image_is };
  verdict = verdict;
  is = rw (eq-eqb row k (same_row row k n m name other (same_Some _ _ tells.event_is))) refl;
  good = good;
}
verdict_active verdict row n name image (suc (suc zero)) k m other found good tells = absurd (cc tells.event_is)
verdict_active verdict row n name image (suc (suc (suc place))) k m other found good tells = absurd (cc tells.event_is)

-- ---- loads of the owner, validations and updates

module _ (s : State) where
  -- an image of a table without a function
  pub plain_active : (row : ℕ) (t : Table) (image : List ℕ) (e : Effect) → table_at s.tables row ≡ Some t → t.validator ≡ None → e.events ≡ activated row t ∷ [] → e.images ≡ Some image ∷ [] → Inherits s.tables e.next.tables → IsHonest s e
  plain_active row t image e there no_function events images inherits = record {
    active = λ place k count name found u tells at function.
        let one = one_active row (t.count + 1) t.name image place k count name found (record { event_is = rw events at tells.event_is; image_is = rw images at tells.image_is }) in
        let same : t ≡ u = same_Some t u (sym there ∙ ap (λ (j : ℕ). table_at s.tables j) one.0 ∙ at) in
        absurd (cc (function, ap (λ (x : Table). is_some x.validator) same, no_function));
    marks = λ k u l at load checked function. inr (inherits k u l at load checked);
  }

  -- of a table whose function had verdict 0
  pub judged_active : (row : ℕ) (t : Table) (image : List ℕ) (verdict : ℤ) (e : Effect) → is_good verdict ≡ true → e.events ≡ Judged row verdict ∷ activated row t ∷ [] → e.images ≡ Some image ∷ Some image ∷ [] → Inherits s.tables e.next.tables → IsHonest s e
  judged_active row t image verdict e good events images inherits = record {
    active = λ place k count name found u tells at function. inl (rw (events, images) (verdict_active verdict row (t.count + 1) t.name image place k count name found good (record { event_is = rw events at tells.event_is; image_is = rw images at tells.image_is })));
    marks = λ k u l at load checked function. inr (inherits k u l at load checked);
  }

  -- a marked load that goes active
  pub loaded_active : (n : ℕ) → AreFit n s → (row : ℕ) (t : Table) → table_at s.tables row ≡ Some t → t.activation ≡ true → IsHonest s (updated_effect s row t)
  loaded_active n fit row t there requested_before = record {
    active = λ place k count name found u tells at function.
        let one = one_active row (t.count + 1) t.name (load_image t) place k count name found tells in
        let same : t ≡ u = same_Some t u (sym there ∙ ap (λ (j : ℕ). table_at s.tables j) one.0 ∙ at) in
        let load = checked_load t.load ((was n s fit row t there).checked requested_before) in
        inr (load.0, ap (λ (x : Table). x.load) (sym same) ∙ load.1, load.2, load.3 ∙ one.1);
    marks = λ k u l at load checked function. inr (inherits_updated s.tables row s.seconds s.sub k u l at load checked);
  } where
    checked_load : (load : Option Load) → option_map_or (λ (l : Load). l.checked) load false ≡ true → (l : Load) × (load ≡ Some l) × (l.checked ≡ true) × (l.image ≡ option_map_or (λ (l : Load). l.image) load [])
    checked_load None is = absurd (cc is)
    checked_load (Some l) is = (l, refl, is, refl)

  -- a validation's verdict is the mark of its load
  pub marked_by : (row : ℕ) (t : Table) (verdict : ℤ) → table_at s.tables row ≡ Some t → (k : ℕ) (u : Table) (l : Load) → table_at (set_checked row (is_good verdict) s.tables) k ≡ Some u → u.load ≡ Some l → l.checked ≡ true
      → ((k ≡ row) × (is_good verdict ≡ true) × (l.image ≡ load_image t)) ⊎ ((v : Table) × (table_at s.tables k ≡ Some v) × (v.load ≡ Some l) × (v.validator ≡ u.validator))
  marked_by row t verdict there k u l at load checked = elim (cases_eq k row) [
    | inl same ↦
        let one = changed_row s.tables row (λ v. record v { load = option_map (λ (x : Load). record x { checked = is_good verdict }) v.load }) t there in
        let is : record t { load = option_map (λ (x : Load). record x { checked = is_good verdict }) t.load } ≡ u = same_Some _ u (sym one.here ∙ ap (λ (j : ℕ). table_at (set_checked row (is_good verdict) s.tables) j) (sym same) ∙ at) in
        let mark = the_mark t.load (ap (λ (x : Table). x.load) is ∙ load) in
        inl (same, mark.0, mark.1)
    | inr other ↦
        let one = changed_row s.tables row (λ v. record v { load = option_map (λ (x : Load). record x { checked = is_good verdict }) v.load }) t there in
        inr (u, sym (one.others k other) ∙ at, load, refl)
  ] where
    the_mark : (found : Option Load) → option_map (λ (x : Load). record x { checked = is_good verdict }) found ≡ Some l → (is_good verdict ≡ true) × (l.image ≡ option_map_or (λ (x : Load). x.image) found [])
    the_mark None is = absurd (cc is)
    the_mark (Some x) is = (ap (λ (y : Load). y.checked) (same_Some _ l is) ∙ checked, sym (ap (λ (y : Load). y.image) (same_Some _ l is)))

  -- a validation that comes to its end
  pub validated_mark : (row : ℕ) (t : Table) (active : Bool) (verdict : ℤ) (e : Effect) → table_at s.tables row ≡ Some t → e.events ≡ finished row active t (judged_image t active) verdict ∷ [] → e.images ≡ Some (judged_image t active) ∷ [] → e.next.tables ≡ marked row active verdict s.tables → IsHonest s e
  validated_mark row t true verdict e there events images next = honest_plain s e (subst NoneActive (sym events) (none_active_one (finished row true t (judged_image t true) verdict) refl)) (inherits_same s.tables e.next.tables (ap (λ (x : Tables). x.rows) next))
  validated_mark row t false verdict e there events images next = record {
    active = λ place k count name found u tells at function. absurd ((none_active_one (finished row false t (judged_image t false) verdict) refl) place k count name (rw events at tells.event_is));
    marks = λ k u l at load checked function. elim (marked_by row t verdict there k u l (rw next at at) load checked) [
      | inl new ↦ inl record {
        place = 0;
        first = rw events (omega arith);
        event = finished row false t (judged_image t false) verdict;
        tells = record { event_is = rw events refl; image_is = rw images (ap (λ (x : List ℕ). Some x) (sym new.2)) };
        verdict = verdict;
        is = rw (eq-eqb row k (sym new.0)) refl;
        good = new.1;
      }
      | inr before ↦ inr before
    ];
  }
