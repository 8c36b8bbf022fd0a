-- What validations that are pending ask.
use Rattle.std.proofs.Common.{◌≡◌, ◌∙◌, ℕ, [], ◌++◌, Bool, true, false, not, cond, Option, Some, None, IfSome, is_some, length, ℤ, refl, ap}
use Rattle.std.specs.Option.{option_map_or}
use Rattle.std.proofs.lemmas.Bool.{cond_both}
use Rattle.tbl_model.specs.State.{Table}
use Rattle.tbl_model.specs.Tables.{table_at}
use Rattle.tbl_model.specs.Given.{Given, verdict_at}
use Rattle.tbl_model.specs.Pending.{is_pending}
use Rattle.tbl_model.specs.Refusals.{update_refusal}
use Rattle.tbl_model.specs.Validations.{judged_image, questions}
use Rattle.tbl_model.specs.Management.{Done, then_update, then_fill, with_update, with_fill, is_requested, all_done}
use Rattle.validation.specs.Kits.{owners}
use Rattle.desk.specs.Desk.{Rest, state_at}
use Rattle.desk.specs.declared.desk.Desk.{Desk}
use Rattle.update_requests.specs.Judging.{judged_by, judged_questions}
use Rattle.update_requests.specs.Questions.{pending_asked}
use Rattle.update_requests.proofs.Managing.{when_some, both_shown, both_done, still_pending}

module _ (row : ℕ) where
  -- an update and the filling of a dump ask nothing
  update_asks : (d : Done) → (then_update row d).questions ≡ d.questions
  update_asks d = by (table_at d.state.tables row) where
    by : (o : Option Table) → (option_map_or (λ (t : Table). cond (is_some (update_refusal d.state.tables row t)) d (with_update row d t)) o d).questions ≡ d.questions
    by None = refl
    by (Some t) = cond_both (is_some (update_refusal d.state.tables row t)) d (with_update row d t) (λ (x : Done). x.questions ≡ d.questions) (λ _. refl) (λ _. refl)

  fill_asks : (d : Done) → (then_fill row d).questions ≡ d.questions
  fill_asks d = by (table_at d.state.tables row) where
    by : (o : Option Table) → (option_map_or (λ (t : Table). cond (not (is_requested t.dump)) d (with_fill row d)) o d).questions ≡ d.questions
    by None = refl
    by (Some t) = cond_both (not (is_requested t.dump)) d (with_fill row d) (λ (x : Done). x.questions ≡ d.questions) (λ _. refl) (λ _. refl)

-- the verdict at this place, if a validation is pending
abbrev verdict_if : Given → ℕ → Bool → Option ℤ
verdict_if given n pending = cond pending (Some (verdict_at n given)) None

came_if : (given : Given) (n : ℕ) (pending : Bool) → IfSome (verdict_if given n pending) (λ v. verdict_at n given ≡ v)
came_if given n true = refl
came_if given n false = tt

told_if : (given : Given) (n : ℕ) (pending : Bool) → is_some (verdict_if given n pending) ≡ pending
told_if given n true = refl
told_if given n false = refl

asked_if : (given : Given) (n : ℕ) (active : Bool) (t : Table) (pending : Bool) → judged_questions active t (verdict_if given n pending) ≡ cond pending (questions t (judged_image t active)) []
asked_if given n active t true = refl
asked_if given n active t false = refl

module _ {C : Type 0} (row : ℕ) (active : Bool) (desk : Desk C) where
  judged_so : (w : Option ℤ) → judged_by row active w desk.kit desk ≡ judged_by row active w (judged_by row active w desk.kit desk).kit desk
  judged_so None = refl
  judged_so (Some v) = refl

  kit_so : (w : Option ℤ) → (judged_by row active w desk.kit desk).kit ≡ desk.kit
  kit_so None = refl
  kit_so (Some v) = refl

pub manage_asks : {C : Type 0} (rest : Rest) (given : Given) (row : ℕ) (t : Table) (desk : Desk C) → table_at desk.tables row ≡ Some t
    → (all_done (state_at rest desk) given row).questions ≡ pending_asked desk.pending row t true ++ pending_asked desk.pending row t false
manage_asks rest given row t desk there =
    let p = is_pending row true desk.pending in
    let first = verdict_if given 0 p in
    let d1 = judged_by row true first desk.kit desk in
    let q = is_pending row false d1.pending in
    let n = length (judged_questions true t first) in
    let second = verdict_if given n q in
    let d2 = judged_by row false second d1.kit d1 in
    let same : q ≡ is_pending row false desk.pending = still_pending row desk d1 first (judged_so row true desk first) in
    let shown = both_shown row t desk d1 d2 first second there (judged_so row true desk first) (judged_so row false d1 second) (told_if given 0 p) (told_if given n q) rest given (came_if given 0 p) (came_if given n q)
    (when_some first (ap owners (kit_so row true desk first))) (when_some second (ap owners (kit_so row false d1 second))) in
    let x = both_done row t desk d1 d2 first second there (judged_so row true desk first) (judged_so row false d1 second) (told_if given 0 p) (told_if given n q) rest given in
    fill_asks row (then_update row x) ∙ update_asks row x ∙ shown.questions
    ∙ ap (λ asked. asked ++ judged_questions false t second) (asked_if given 0 true t p)
    ∙ ap (λ asked. pending_asked desk.pending row t true ++ asked) (asked_if given n false t q ∙ ap (λ b. cond b (questions t (judged_image t false)) []) same)
