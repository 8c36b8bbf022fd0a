-- What Manage does has it too.
use Rattle.std.proofs.Common.{◌≡◌, ℕ, suc, zero, ◌+◌, List, [], ◌∷◌, ◌++◌, length, Bool, true, false, not, cond, Option, Some, None, is_some, refl, ap, sym, ◌∙◌, subst, inl, inr, ◌⊎◌, arith, length-append, ℤ}
use Rattle.std.specs.Prelude.{slice_index_or}
use Rattle.std.specs.Option.{option_map_or}
use Rattle.std.proofs.lemmas.Bool.{eq-eqb}
use Rattle.std.proofs.lemmas.Option.{same_Some}
use Rattle.tbl_model.specs.State.{State, Load, Table}
use Rattle.tbl_model.specs.Tables.{table_at}
use Rattle.tbl_model.specs.TableSteps.{last_image, load_image, filled_with}
use Rattle.tbl_model.specs.Telemetry.{activated, finished}
use Rattle.tbl_model.specs.Given.{Given, verdict_at}
use Rattle.tbl_model.specs.Pending.{is_pending}
use Rattle.tbl_model.specs.Refusals.{update_refusal}
use Rattle.tbl_model.specs.Validations.{judged_image}
use Rattle.tbl_model.specs.Management.{Done, nothing_done, with_validation, then_validate, with_update, then_update, with_fill, then_fill, all_done, is_requested}
use Rattle.tbl_model.specs.declared.telemetry.TelemetryEvent.TheVariants.{Activated}
use Rattle.tbl_model.proofs.RefusalLaws.{update_taken}
use Rattle.tbl_kinds.specs.declared.entry.Answer.{Answer}
use Rattle.tbl_model.specs.Fit.{AreFit}
use Rattle.tbl_laws.proofs.Fits.{was}
use Rattle.tbl_laws.proofs.Changes.{with_found, either, validated}
use Rattle.tbl_laws.proofs.Honest.{TellsIn, PassesIn, NoneActive, none_active_nil, none_active_more, slice_get_more, passes_more, last_tells, inherits_unseen, inherits_updated}
use Rattle.tbl_laws.proofs.HonestImages.{marked_by, same_row}

-- what was done so far reports no image that went active, and each mark has a verdict in it or was there
record SoFar (s : State) (d : Done) : Type 0 where
  none : NoneActive d.events
  long : length d.events ≡ length d.images
  marks : (row : ℕ) (u : Table) (l : Load) → table_at d.state.tables row ≡ Some u → u.load ≡ Some l → l.checked ≡ true
      → PassesIn d.events d.images row l.image (length d.events) ⊎ ((t : Table) × (table_at s.tables row ≡ Some t) × (t.load ≡ Some l) × (t.validator ≡ u.validator))

long_more : {X Y : Type 0} (xs : List X) (ys : List Y) (x : X) (y : Y) → length xs ≡ length ys → length (xs ++ x ∷ []) ≡ length (ys ++ y ∷ [])
long_more xs ys x y same = omega (arith, same, length-append xs (x ∷ []), length-append ys (y ∷ []))

module _ (n : ℕ) (row : ℕ) (given : Given) (s : State) where
  -- one validation more
  so_far_validated : (active : Bool) (d : Done) → SoFar s d → SoFar s (then_validate row active given d)
  so_far_validated active d so_far = with_found n row given (SoFar s) d _ (table_at d.state.tables row) refl so_far (λ t there.
      either n row given (SoFar s) (not (is_pending row active d.state.pending)) d (with_validation row active (verdict_at (length d.questions) given) d t) so_far (λ _. by t there active (verdict_at (length d.questions) given)))
    where
      by : (t : Table) → table_at d.state.tables row ≡ Some t → (a : Bool) (verdict : ℤ) → SoFar s (with_validation row a verdict d t)
      by t there true verdict = record {
        none = none_active_more d.events (finished row true t (judged_image t true) verdict) so_far.none refl;
        long = long_more d.events d.images (finished row true t (judged_image t true) verdict) (Some (judged_image t true)) so_far.long;
        marks = λ k u l at load checked. elim (so_far.marks k u l at load checked) [
          | inl passes ↦ inl (passes_more d.events (finished row true t (judged_image t true) verdict ∷ []) d.images (Some (judged_image t true) ∷ []) k l.image (length d.events) _ (omega (arith, length-append d.events (finished row true t (judged_image t true) verdict ∷ []))) passes)
          | inr before ↦ inr before
        ];
      }
      by t there false verdict = record {
        none = none_active_more d.events (finished row false t (judged_image t false) verdict) so_far.none refl;
        long = long_more d.events d.images (finished row false t (judged_image t false) verdict) (Some (judged_image t false)) so_far.long;
        marks = λ k u l at load checked. elim (marked_by d.state row t verdict there k u l at load checked) [
          | inl new ↦ inl record {
            place = length d.events;
            first = omega (arith, length-append d.events (finished row false t (judged_image t false) verdict ∷ []));
            event = finished row false t (judged_image t false) verdict;
            tells = subst (TellsIn (d.events ++ finished row false t (judged_image t false) verdict ∷ []) (d.images ++ Some (judged_image t false) ∷ []) (length d.events) (finished row false t (judged_image t false) verdict)) (sym new.2)
                (last_tells d.events d.images (finished row false t (judged_image t false) verdict) (judged_image t false) so_far.long);
            verdict = verdict;
            is = rw (eq-eqb row k (sym new.0)) refl;
            good = new.1;
          }
          | inr before ↦ elim (so_far.marks k before.0 l before.1 before.2 checked) [
            | inl passes ↦ inl (passes_more d.events (finished row false t (judged_image t false) verdict ∷ []) d.images (Some (judged_image t false) ∷ []) k l.image (length d.events) _ (omega (arith, length-append d.events (finished row false t (judged_image t false) verdict ∷ []))) passes)
            | inr earlier ↦ inr (earlier.0, earlier.1, earlier.2, earlier.3 ∙ before.3)
          ]
        ];
      }

  -- and then the update
  pub record AtEnd (d : Done) : Type 0 where
    pub active : (place k count : ℕ) (name image : List ℕ) (t : Table) → TellsIn d.events d.images place (Activated k count name) image → table_at s.tables k ≡ Some t → is_some t.validator ≡ true
        → PassesIn d.events d.images k image place ⊎ ((l : Load) × (t.load ≡ Some l) × (l.checked ≡ true) × (l.image ≡ image))
    pub marks : (k : ℕ) (u : Table) (l : Load) → table_at d.state.tables k ≡ Some u → u.load ≡ Some l → l.checked ≡ true
        → PassesIn d.events d.images k l.image (length d.events) ⊎ ((t : Table) × (table_at s.tables k ≡ Some t) × (t.load ≡ Some l) × (t.validator ≡ u.validator))

  no_update : (d : Done) → SoFar s d → AtEnd d
  no_update d so_far = record { active = λ place k count name image t tells there function. absurd (so_far.none place k count name tells.event_is); marks = so_far.marks }

  index_at : {X : Type 0} (xs : List (Option X)) (x y : X) (place : ℕ) → place ≡ length xs → slice_index_or (xs ++ Some x ∷ []) place None ≡ Some y → x ≡ y
  index_at [] x y zero same is = same_Some x y is
  index_at [] x y (suc place) same is = absurd (omega (arith, same))
  index_at (z ∷ zs) x y zero same is = absurd (omega (arith, same))
  index_at (z ∷ zs) x y (suc place) same is = index_at zs x y place (omega (arith, same)) is

  at_end : (d : Done) → AreFit n d.state → SoFar s d → AtEnd (then_update row d)
  at_end d fit so_far = with_found n row given AtEnd d _ (table_at d.state.tables row) refl (no_update d so_far) (λ t there. by t there (update_refusal d.state.tables row t) refl) where
    by : (t : Table) → table_at d.state.tables row ≡ Some t → (r : Option Answer) → update_refusal d.state.tables row t ≡ r → AtEnd (cond (is_some r) d (with_update row d t))
    by t there (Some answer) is = no_update d so_far
    by t there None is = record {
      active = λ place k count name image u tells at function. elim (slice_get_more d.events (activated row t) (Activated k count name) place tells.event_is) [
        | inl before ↦ absurd (so_far.none place k count name before)
        | inr last ↦
            let here : row ≡ k = same_row row k (t.count + 1) count t.name name last.1 in
            let found : load_image t ≡ image = index_at d.images (load_image t) image place (last.0 ∙ so_far.long) tells.image_is in
            let load = checked_load t.load ((was n d.state fit row t there).checked (update_taken d.state.tables row t is).0) in
            elim (so_far.marks row t load.0 there load.1 load.2) [
              | inl passes ↦ inl (subst (λ (j : ℕ). PassesIn (d.events ++ activated row t ∷ []) (d.images ++ Some (load_image t) ∷ []) j image place) here
                  (subst (λ (x : List ℕ). PassesIn (d.events ++ activated row t ∷ []) (d.images ++ Some (load_image t) ∷ []) row x place) (load.3 ∙ found)
                  (passes_more d.events (activated row t ∷ []) d.images (Some (load_image t) ∷ []) row load.0.image (length d.events) place (omega (arith, last.0)) passes)))
              | inr before ↦
                  let same : before.0 ≡ u = same_Some before.0 u (sym before.1 ∙ ap (λ (j : ℕ). table_at s.tables j) here ∙ at) in
                  inr (load.0, ap (λ (x : Table). x.load) (sym same) ∙ before.2, load.2, load.3 ∙ found)
            ]
      ];
      marks = λ k u l at load checked.
          let inherited = inherits_updated d.state.tables row d.state.seconds d.state.sub k u l at load checked in
          elim (so_far.marks k inherited.0 l inherited.1 inherited.2 checked) [
            | inl passes ↦ inl (passes_more d.events (activated row t ∷ []) d.images (Some (load_image t) ∷ []) k l.image (length d.events) _ (omega (arith, length-append d.events (activated row t ∷ []))) passes)
            | inr earlier ↦ inr (earlier.0, earlier.1, earlier.2, earlier.3 ∙ inherited.3)
          ];
    } where
      checked_load : (load : Option Load) → option_map_or (λ (l : Load). l.checked) load false ≡ true → (l : Load) × (load ≡ Some l) × (l.checked ≡ true) × (l.image ≡ option_map_or (λ (l : Load). l.image) load [])
      checked_load None is = absurd (cc is)
      checked_load (Some l) is = (l, refl, is, refl)

  -- the filling of a dump touches no load
  at_end_filled : (d : Done) → AtEnd d → AtEnd (then_fill row d)
  at_end_filled d end = with_found n row given AtEnd d _ (table_at d.state.tables row) refl end (λ t there.
      either n row given AtEnd (not (is_requested t.dump)) d (with_fill row d) end (λ _. record {
        active = end.active;
        marks = λ k u l at load checked.
            let inherited = inherits_unseen d.state.tables row (λ v. record v { dump = filled_with (last_image v) v.dump }) (λ v. refl) (λ v. refl) k u l at load checked in
            elim (end.marks k inherited.0 l inherited.1 inherited.2 checked) [
              | inl passes ↦ inl passes
              | inr earlier ↦ inr (earlier.0, earlier.1, earlier.2, earlier.3 ∙ inherited.3)
            ];
      }))

  pub managed_end : AreFit n s → AtEnd (all_done s given row)
  managed_end fit =
      let one = then_validate row true given (nothing_done s) in
      let two = then_validate row false given one in
      at_end_filled (then_update row two) (at_end two (validated n row given false one (validated n row given true (nothing_done s) fit))
      (so_far_validated false one (so_far_validated true (nothing_done s) (record {
        none = none_active_nil [] refl;
        long = refl;
        marks = λ k u l at load checked. inr (u, at, load, refl);
      }))))
