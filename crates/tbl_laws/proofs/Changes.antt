-- Each change that a request makes to a table leaves what holds between requests.
use Rattle.std.proofs.Common.{◌≡◌, ℕ, suc, ◌≤◌, List, [], ◌∷◌, ◌++◌, length, Bool, true, false, not, Option, Some, None, is_some, refl, sym, ◌∙◌, arith, inl, inr, cond, length-append}
use Rattle.std.specs.Option.{option_map_or}
use Rattle.std.proofs.lemmas.Bool.{eqb-false, not-false}
use Rattle.tbl_kinds.specs.Numbers.{patched}
use Rattle.tbl_model.specs.State.{State, Table}
use Rattle.tbl_model.specs.Tables.{table_at}
use Rattle.tbl_model.specs.TableSteps.{base, unchecked, with_image, changed, put, patch, set_file, set_time, ask, close_load, activate, filled_with, last_image, load_image, set_notice}
use Rattle.tbl_model.specs.Given.{Given, verdict_at}
use Rattle.tbl_model.specs.Pending.{is_pair, is_pending, without_pair}
use Rattle.tbl_model.specs.Refusals.{validation_refusal, activation_refusal, update_refusal}
use Rattle.tbl_model.specs.Management.{Done, nothing_done, with_validation, then_validate, with_update, then_update, with_fill, then_fill, all_done, is_requested}
use Rattle.tbl_model.proofs.RefusalLaws.{validation_taken, activation_taken, update_taken}
use Rattle.tbl_model.specs.Fit.{AreFit, HasCode}
use Rattle.tbl_model.specs.declared.telemetry.Notice.{Notice}
use Rattle.tbl_laws.proofs.Rows.{same_rows, changed_row, put_row, time_row, then_row}
use Rattle.tbl_laws.proofs.Pairs.{both_images, pending_more_other, pending_less_other, pending_gone, fewer}
use Rattle.tbl_laws.proofs.Fits.{image_there, last_there, load_there, fit_on, fit_same, was, Becomes, kept, unseen, mark, handles_changed, handles_put, handles_time}
use Rattle.tbl_kinds.specs.declared.entry.Answer.{Answer}

-- ---- a table changes

module _ (n : ℕ) (s : State) (fit : AreFit n s) (row : ℕ) (t : Table) (there : table_at s.tables row ≡ Some t) where
  -- by one change that leaves its registration
  changes : (change : Table → Table) → (change t).handle ≡ t.handle → (change t).owner ≡ t.owner → (change t).validator ≡ t.validator → (change t).notice ≡ t.notice → Becomes n s fit row t there (changed row change s.tables) (change t)
  changes change handle owner validator notice = record { changes = changed_row s.tables row change t there; handles = handles_changed s.tables row change; handle = handle; owner = owner; validator = validator; notice = rw notice (was n s fit row t there).notice }

  -- what only telemetry reports of changes
  pub told : (m : ℕ) (change : Table → Table) → n ≤ m → (change t).handle ≡ t.handle → (change t).owner ≡ t.owner → (change t).validator ≡ t.validator → (change t).notice ≡ t.notice → (change t).count ≡ t.count → (change t).load ≡ t.load → (change t).activation ≡ t.activation
      → AreFit m (record s { tables = changed row change s.tables })
  told m change low handle owner validator notice count load activation =
      unseen n s fit row t there m (changed row change s.tables) (change t) low (changes change handle owner validator notice)
      (omega (arith, count)) (let few = (was n s fit row t there).few in omega (arith, count)) load activation

  -- the owner's notice is another one
  pub noticed : (m : ℕ) (notice : Notice) → n ≤ m → HasCode notice → AreFit m (record s { tables = set_notice row notice s.tables })
  noticed m notice low coded =
      let change : Table → Table = λ u. record u { notice = Some notice } in
      unseen n s fit row t there m (set_notice row notice s.tables) (change t) low
      (record { changes = changed_row s.tables row change t there; handles = handles_changed s.tables row change; handle = refl; owner = refl; validator = refl; notice = coded })
      (omega arith) (let few = (was n s fit row t there).few in omega arith) refl refl

  -- a new image becomes the last one, at a time
  image_at : (image : List ℕ) (seconds sub : ℕ) → Becomes n s fit row t there (set_time row seconds sub (put row image s.tables)) (record (with_image s.tables.handles row image t) { seconds = seconds; sub = sub })
  image_at image seconds sub =
      let first = put_row s.tables row image t there in record {
        changes = then_row s.tables (put row image s.tables) _ row _ _ first (time_row (put row image s.tables) row seconds sub (with_image s.tables.handles row image t) first.here);
        handles = handles_time (put row image s.tables) row seconds sub ∙ handles_put s.tables row image;
        handle = refl;
        owner = refl;
        validator = refl;
        notice = (was n s fit row t there).notice;
      }

  pub imaged : (image : List ℕ) (seconds sub : ℕ) → AreFit (suc n) (record s { tables = set_time row seconds sub (put row image s.tables) })
  imaged image seconds sub =
      let few = (was n s fit row t there).few in
      unseen n s fit row t there (suc n) _ _ (omega arith) (image_at image seconds sub) (omega arith) (omega (arith, few)) refl refl

  -- with no time
  pub put_alone : (image : List ℕ) → AreFit (suc n) (record s { tables = put row image s.tables })
  put_alone image =
      let few = (was n s fit row t there).few in
      unseen n s fit row t there (suc n) (put row image s.tables) (with_image s.tables.handles row image t) (omega arith)
      (record { changes = put_row s.tables row image t there; handles = handles_put s.tables row image; handle = refl; owner = refl; validator = refl; notice = (was n s fit row t there).notice }) (omega arith) (omega (arith, few)) refl refl

  pub imaged_from : (image : List ℕ) (seconds sub : ℕ) (file : List ℕ) → AreFit (suc n) (record s { tables = set_file row file (set_time row seconds sub (put row image s.tables)) })
  imaged_from image seconds sub file =
      let few = (was n s fit row t there).few in
      let first = image_at image seconds sub in
      unseen n s fit row t there (suc n) (set_file row file (set_time row seconds sub (put row image s.tables))) (record (with_image s.tables.handles row image t) { seconds = seconds; sub = sub; file = file }) (omega arith) (record {
        changes = then_row s.tables _ _ row _ _ first.changes (changed_row _ row (λ u. record u { file = file }) _ first.changes.here);
        handles = handles_changed _ row (λ u. record u { file = file }) ∙ first.handles;
        handle = refl;
        owner = refl;
        validator = refl;
        notice = (was n s fit row t there).notice;
      }) (omega arith) (omega (arith, few)) refl refl

  -- bytes of a file go into the load
  pub loads : (offset : ℕ) (bytes name : List ℕ) → t.activation ≡ false → AreFit (suc n) (record s { tables = set_file row name (patch row offset bytes s.tables) })
  loads offset bytes name no_activation =
      let few = (was n s fit row t there).few in
      let put_in_load : Table → Table = λ u. record u { load = unchecked (patched (base u) offset bytes) } in
      let first = changes put_in_load refl refl refl refl in
      kept n s fit row t there (suc n) (set_file row name (patch row offset bytes s.tables)) (record (put_in_load t) { file = name }) (omega arith) (record {
        changes = then_row s.tables (patch row offset bytes s.tables) _ row _ _ first.changes (changed_row (patch row offset bytes s.tables) row (λ u. record u { file = name }) (put_in_load t) first.changes.here);
        handles = handles_changed (patch row offset bytes s.tables) row (λ u. record u { file = name }) ∙ first.handles;
        handle = refl;
        owner = refl;
        validator = refl;
        notice = (was n s fit row t there).notice;
      }) (omega arith) (omega (arith, few)) (λ requested_now. absurd (cc (requested_now, no_activation))) (λ pends open_load not_requested. (refl, no_activation))

  -- a validation is requested
  pub pends : (active : Bool) → validation_refusal s.pending row t active ≡ None → is_some t.validator ≡ true → AreFit (suc n) (record s { pending = s.pending ++ (row, active) ∷ [] })
  pends active none function =
      let takes = validation_taken s.pending row t active none in
      let held = was n s fit row t there in
      fit_on n (suc n) s (record s { pending = s.pending ++ (row, active) ∷ [] }) row (Some t) (omega arith) fit (record {
        rows = same_rows s.tables s.tables row t there refl;
        pending = λ k a other. pending_more_other s.pending row k active a (λ same. absurd (other same));
        handles = λ k u other at reg. reg;
        kit = refl;
        few_pending = let few = fit.few_pending in let room = eqb-false (length s.pending) 10 (takes.room function) in omega (arith, length-append s.pending ((row, active) ∷ []));
      }) (record {
        few = let few = held.few in omega arith;
        registered = held.registered;
        function = held.function;
        notice = held.notice;
        checked = held.checked;
        pends = λ a pending. elim (both_images a active) [
          | inl same ↦ rw same (function, image_there t active (λ last. let some = eqb-false t.count 0 (takes.loaded last) in omega (arith, some)) (λ inactive. (takes.open_load inactive, takes.no_activation inactive)))
          | inr other ↦ held.pends a (sym (pending_more_other s.pending row row active a (λ _. other)) ∙ pending)
        ];
      })

  -- the activation of the load is requested
  pub asks : activation_refusal s.pending row t ≡ None → AreFit (suc n) (record s { tables = ask row s.tables })
  asks none =
      let takes = activation_taken s.pending row t none in
      let few = (was n s fit row t there).few in
      kept n s fit row t there (suc n) (ask row s.tables) (record t { activation = true }) (omega arith) (changes (λ u. record u { activation = true }) refl refl refl refl) (omega arith) (omega (arith, few))
      (λ _. takes.checked) (λ pending open_load not_requested. absurd (cc (pending, takes.none_pending)))

  -- the load is dropped, with what is pending for it
  pub aborts : AreFit n (record s { tables = close_load row s.tables; pending = without_pair row false s.pending })
  aborts =
      let held = was n s fit row t there in
      let u : Table = record t { load = None; activation = false } in
      fit_on n n s (record s { tables = close_load row s.tables; pending = without_pair row false s.pending }) row (Some u) (omega arith) fit (record {
        rows = changed_row s.tables row (λ v. record v { load = None; activation = false }) t there;
        pending = λ k a other. pending_less_other s.pending row k false a (λ same. absurd (other same));
        handles = λ k v other at reg. rw (handles_changed s.tables row (λ v. record v { load = None; activation = false })) reg;
        kit = refl;
        few_pending = let h = fewer (λ pair. not (is_pair row false pair)) s.pending in let k = fit.few_pending in omega arith;
      }) (record {
        few = held.few;
        registered = rw (handles_changed s.tables row (λ v. record v { load = None; activation = false })) held.registered;
        function = held.function;
        notice = held.notice;
        checked = λ requested_now. cc requested_now;
        pends = λ a pending. elim (both_images a false) [
          | inl same ↦ absurd (cc (rw same at pending, pending_gone s.pending row false))
          | inr other ↦
              let can = held.pends a (sym (pending_less_other s.pending row row false a (λ _. other)) ∙ pending) in
              (can.0, image_there u a (last_there t a can.1) (λ inactive. absurd (other inactive)))
        ];
      })

  -- the load goes active, at a time
  pub updates : (seconds sub : ℕ) → t.activation ≡ true → AreFit (suc n) (record s { tables = set_time row seconds sub (activate row s.tables) })
  updates seconds sub requested_before =
      let few = (was n s fit row t there).few in
      let close : Table → Table = λ u. record (with_image s.tables.handles row (load_image u) u) { load = None; activation = false } in
      let first = changes close refl refl refl refl in
      kept n s fit row t there (suc n) (set_time row seconds sub (activate row s.tables)) (record (close t) { seconds = seconds; sub = sub }) (omega arith) (record {
        changes = then_row s.tables (activate row s.tables) _ row _ _ first.changes (time_row (activate row s.tables) row seconds sub (close t) first.changes.here);
        handles = handles_time (activate row s.tables) row seconds sub ∙ first.handles;
        handle = refl;
        owner = refl;
        validator = refl;
        notice = (was n s fit row t there).notice;
      }) (omega arith) (omega (arith, few)) (λ requested_now. cc requested_now) (λ pending open_load not_requested. absurd (cc (requested_before, not_requested)))

-- more images may have been
pub grown : (n : ℕ) (s : State) → AreFit n s → AreFit (suc n) s
grown n s fit = fit_same n (suc n) s s (omega arith) fit refl refl refl (λ k t at reg. reg)

-- ---- Manage

-- its stages: each leaves a state in which all holds, and the images of a table have become one more at most
module _ (n : ℕ) (row : ℕ) (given : Given) where
  pub with_found : (P : Done → Type 0) (d : Done) (next : Table → Done) (found : Option Table) → table_at d.state.tables row ≡ found → P d → ((t : Table) → table_at d.state.tables row ≡ Some t → P (next t)) → P (option_map_or next found d)
  with_found P d next None at stays does = stays
  with_found P d next (Some t) at stays does = does t at

  -- a test comes before what is done
  pub either : (P : Done → Type 0) (b : Bool) (d e : Done) → P d → (b ≡ false → P e) → P (cond b d e)
  either P true d e stays does = stays
  either P false d e stays does = does refl

  pub validated : (active : Bool) (d : Done) → AreFit n d.state → AreFit n (then_validate row active given d).state
  validated active d fit = with_found (λ e. AreFit n e.state) d _ (table_at d.state.tables row) refl fit (λ t there.
      either (λ e. AreFit n e.state) (not (is_pending row active d.state.pending)) d (with_validation row active (verdict_at (length d.questions) given) d t) fit (λ pending.
      mark n d.state fit row t there active (verdict_at (length d.questions) given) (λ inactive. (load_there t active ((was n d.state fit row t there).pends active (not-false (is_pending row active d.state.pending) pending)).1 inactive).1)))

  pub updated : (d : Done) → AreFit n d.state → AreFit (suc n) (then_update row d).state
  updated d fit = with_found (λ e. AreFit (suc n) e.state) d _ (table_at d.state.tables row) refl (grown n d.state fit) (λ t there. by t there (update_refusal d.state.tables row t) refl) where
    by : (t : Table) → table_at d.state.tables row ≡ Some t → (r : Option Answer) → update_refusal d.state.tables row t ≡ r → AreFit (suc n) (cond (is_some r) d (with_update row d t)).state
    by t there (Some answer) is = grown n d.state fit
    by t there None is = updates n d.state fit row t there d.state.seconds d.state.sub (update_taken d.state.tables row t is).0

  filled_up : (m : ℕ) (d : Done) → AreFit m d.state → AreFit m (then_fill row d).state
  filled_up m d fit = with_found (λ e. AreFit m e.state) d _ (table_at d.state.tables row) refl fit (λ t there.
      either (λ e. AreFit m e.state) (not (is_requested t.dump)) d (with_fill row d) fit (λ is. told m d.state fit row t there m (λ u. record u { dump = filled_with (last_image u) u.dump }) (omega arith) refl refl refl refl refl refl refl))

  pub managed : (s : State) → AreFit n s → AreFit (suc n) (all_done s given row).state
  managed s fit = filled_up (suc n) _ (updated _ (validated false _ (validated true (nothing_done s) fit)))

  -- no stage ends the service
  pub goes_on : (s : State) → (all_done s given row).state.ended ≡ s.ended
  goes_on s = fill (then_update row (then_validate row false given (then_validate row true given (nothing_done s)))) ∙ update (then_validate row false given (then_validate row true given (nothing_done s)))
      ∙ validate false (then_validate row true given (nothing_done s)) ∙ validate true (nothing_done s)
    where
      validate : (active : Bool) (d : Done) → (then_validate row active given d).state.ended ≡ d.state.ended
      validate active d = with_found (λ e. e.state.ended ≡ d.state.ended) d _ (table_at d.state.tables row) refl refl (λ t there.
          either (λ e. e.state.ended ≡ d.state.ended) (not (is_pending row active d.state.pending)) d (with_validation row active (verdict_at (length d.questions) given) d t) refl (λ _. refl))

      update : (d : Done) → (then_update row d).state.ended ≡ d.state.ended
      update d = with_found (λ e. e.state.ended ≡ d.state.ended) d _ (table_at d.state.tables row) refl refl (λ t there.
          either (λ e. e.state.ended ≡ d.state.ended) (is_some (update_refusal d.state.tables row t)) d (with_update row d t) refl (λ _. refl))

      fill : (d : Done) → (then_fill row d).state.ended ≡ d.state.ended
      fill d = with_found (λ e. e.state.ended ≡ d.state.ended) d _ (table_at d.state.tables row) refl refl (λ t there.
          either (λ e. e.state.ended ≡ d.state.ended) (not (is_requested t.dump)) d (with_fill row d) refl (λ _. refl))
