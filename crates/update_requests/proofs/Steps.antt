-- What is pending for a table is done, one thing after another.
use Rattle.std.proofs.Common.{◌≡◌, ◌+◌, ℕ, List, [], ◌∷◌, ◌++◌, length, Bool, true, false, not, cond, Option, Some, None, IfSome, is_some, ℤ, refl, sym, subst, arith}
use Rattle.std.proofs.lemmas.List.{append-nil}
use Rattle.std.specs.Option.{option_map_or}
use Rattle.tbl_kinds.specs.declared.entry.Answer.{Answer}
use Rattle.tbl_model.specs.State.{Table}
use Rattle.tbl_model.specs.Tables.{table_at}
use Rattle.tbl_model.specs.TableSteps.{fill_dump}
use Rattle.tbl_model.specs.Pending.{is_pending}
use Rattle.tbl_model.specs.Given.{Given, verdict_at}
use Rattle.tbl_model.specs.Telemetry.{Question, activated}
use Rattle.tbl_model.specs.Refusals.{update_refusal}
use Rattle.tbl_model.specs.Management.{Done, then_validate, then_update, then_fill, with_validation, with_fill, is_requested, with_update as with_updated}
use Rattle.tbl_model.specs.declared.telemetry.TelemetryEvent.{TelemetryEvent}
use Rattle.tbl_outside.specs.declared.validator.KitEntry.{KitEntry}
use Rattle.validation.specs.Kits.{owners}
use Rattle.desk.specs.Desk.{Rest, state_at}
use Rattle.desk.specs.declared.desk.Desk.{Desk}
use Rattle.update_requests.specs.Activations.{with_update}
use Rattle.update_requests.specs.Judging.{judged_by, judged_events, judged_questions}
use Rattle.update_requests.proofs.Verdicts.{judged_state}

-- the state that it left, what was reported and asked, and a bit for each thing
pub record IsDone {C : Type 0} (rest : Rest) (desk : Desk C) (told : List TelemetryEvent) (asked : List Question) (did : ℕ) (d : Done) : Type 0 where
  pub state : d.state ≡ state_at rest desk
  pub events : d.events ≡ told
  pub questions : d.questions ≡ asked
  pub bits : d.bits ≡ did

module _ {C : Type 0} (rest : Rest) (row : ℕ) (desk : Desk C) (told : List TelemetryEvent) (asked : List Question) (did : ℕ) where
  abbrev done_so : List (Option (List ℕ)) → Done
  done_so images = record { state = state_at rest desk; events = told; images = images; questions = asked; bits = did }

  -- a step is shown for what was done so, whatever the images are
  by_step : (step : Done → Done) (P : Done → Type 0) → ((images : List (Option (List ℕ))) → P (step (done_so images))) → (d : Done) → IsDone rest desk told asked did d → P (step d)
  by_step step P shown d is =
      let same : done_so d.images ≡ d = λ i. record { state = sym is.state i; events = sym is.events i; images = d.images; questions = sym is.questions i; bits = sym is.bits i } in
      subst (λ (x : Done). P (step x)) same (shown d.images)

  -- at the table that is there
  at_table : (next : Done → Table → Done) (P : Done → Type 0) (t : Table) (images : List (Option (List ℕ))) → table_at desk.tables row ≡ Some t → P (next (done_so images) t)
      → P (option_map_or (next (done_so images)) (table_at desk.tables row) (done_so images))
  at_table next P t images there shown = subst (λ (o : Option Table). P (option_map_or (next (done_so images)) o (done_so images))) (sym there) shown

  module _ (t : Table) (there : table_at desk.tables row ≡ Some t) where
    pub validated : (active : Bool) (given : Given) (kit : List (Option (KitEntry C))) (verdict : Option ℤ) → is_some verdict ≡ is_pending row active desk.pending → IfSome verdict (λ v. verdict_at (length asked) given ≡ v)
        → IfSome verdict (λ v. owners kit ≡ owners desk.kit) → (d : Done) → IsDone rest desk told asked did d
        → IsDone rest (judged_by row active verdict kit desk) (told ++ judged_events row active t verdict) (asked ++ judged_questions active t verdict) (did + cond (is_some verdict) (cond active 1 2) 0) (then_validate row active given d)
    validated active given kit verdict is came same = by_step (then_validate row active given) (Goal verdict)
        (λ images. at_table (λ d u. cond (not (is_pending row active desk.pending)) d (with_validation row active (verdict_at (length asked) given) d u)) (Goal verdict) t images there (by images verdict is came same))
      where
        Goal : Option ℤ → Done → Type 0
        Goal w d = IsDone rest (judged_by row active w kit desk) (told ++ judged_events row active t w) (asked ++ judged_questions active t w) (did + cond (is_some w) (cond active 1 2) 0) d

        by : (images : List (Option (List ℕ))) (w : Option ℤ) → is_some w ≡ is_pending row active desk.pending → IfSome w (λ v. verdict_at (length asked) given ≡ v) → IfSome w (λ v. owners kit ≡ owners desk.kit)
            → Goal w (cond (not (is_pending row active desk.pending)) (done_so images) (with_validation row active (verdict_at (length asked) given) (done_so images) t))
        by images None is came same = rw (← is) (record { state = refl; events = sym (append-nil told); questions = sym (append-nil asked); bits = omega arith })
        by images (Some w) is came same = rw (← is, came) (record { state = judged_state row active desk kit rest w same; events = refl; questions = refl; bits = refl })

    pub updated : (refused : Option Answer) → refused ≡ update_refusal desk.tables row t → (d : Done) → IsDone rest desk told asked did d
        → IsDone rest (cond (is_some refused) desk (with_update row desk)) (cond (is_some refused) told (told ++ activated row t ∷ [])) asked (did + cond (is_some refused) 0 4) (then_update row d)
    updated refused is = by_step (then_update row) (Goal (is_some refused))
        (λ images. at_table (λ d u. cond (is_some (update_refusal desk.tables row u)) d (with_updated row d u)) (Goal (is_some refused)) t images there (subst (λ (o : Option Answer). Goal (is_some refused) (cond (is_some o) (done_so images) (with_updated row (done_so images) t))) is (by images (is_some refused))))
      where
        Goal : Bool → Done → Type 0
        Goal r d = IsDone rest (cond r desk (with_update row desk)) (cond r told (told ++ activated row t ∷ [])) asked (did + cond r 0 4) d

        by : (images : List (Option (List ℕ))) (r : Bool) → Goal r (cond r (done_so images) (with_updated row (done_so images) t))
        by images true = record { state = refl; events = refl; questions = refl; bits = omega arith }
        by images false = record { state = refl; events = refl; questions = refl; bits = refl }

    pub filled_up : (full : Bool) → full ≡ is_requested t.dump → (d : Done) → IsDone rest desk told asked did d
        → IsDone rest (record desk { tables = cond full (fill_dump row desk.tables) desk.tables }) told asked (did + cond full 8 0) (then_fill row d)
    filled_up full is = by_step (then_fill row) (Goal full)
        (λ images. at_table (λ d u. cond (not (is_requested u.dump)) d (with_fill row d)) (Goal full) t images there (subst (λ (b : Bool). Goal full (cond (not b) (done_so images) (with_fill row (done_so images)))) is (by images full)))
      where
        Goal : Bool → Done → Type 0
        Goal b d = IsDone rest (record desk { tables = cond b (fill_dump row desk.tables) desk.tables }) told asked (did + cond b 8 0) d

        by : (images : List (Option (List ℕ))) (b : Bool) → Goal b (cond (not b) (done_so images) (with_fill row (done_so images)))
        by images true = record { state = refl; events = refl; questions = refl; bits = refl }
        by images false = record { state = refl; events = refl; questions = refl; bits = omega arith }
