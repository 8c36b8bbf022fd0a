-- The images of a table are judged, one after another.
use Rattle.std.proofs.Common.{◌≡◌, ◌+◌, ◌≤◌, ◌-◌, ◌^◌, ◌<◌, ℕ, List, [], ◌∷◌, length, Bool, true, false, Option, Some, None, ℤ, sym, arith}
use Rattle.tbl_model.specs.State.{Table}
use Rattle.tbl_model.specs.Validations.{judged_image, questions, marked, judged}
use Rattle.tbl_outside.specs.declared.validator.Validator.{Ghosts as ValidatorGhosts}
use Rattle.tbl_outside.specs.declared.validator.KitEntry.{KitEntry}
use Rattle.validation.specs.Asked.{WasAsked, asks}
use Rattle.validation.specs.Kits.{owners}
use Rattle.validation.proofs.Asking.{stands_still, few_left}
use Rattle.validation.proofs.Ready.{all_keep, judged_keeps, asked_has_functions, mark_has_functions, mark_keeps_loads}
use Rattle.desk.specs.Desk.{Rest, state_at, IsOrderly}
use Rattle.desk.specs.Limits.{AreCounted}
use Rattle.desk.specs.declared.desk.Desk.{Desk}
use Rattle.update_requests.specs.Judging.{IsReady, judged_by}

-- ---- before

pub ready : {C : Type 0} (v : ValidatorGhosts C) (times : ℕ) (desk : Desk C) → times ≤ 2 → IsOrderly v desk → IsReady v times desk
ready v times desk le orderly = record {
  counted = orderly.counted;
  functions = orderly.functions;
  few = λ number entry there. let low = orderly.few number entry there in omega (arith, le, low);
  pending = orderly.pending;
  loads = orderly.loads;
}

-- ---- the kit

few_questions : (number : Option ℕ) (image : List ℕ) → length (asks number image) ≤ 1
few_questions None image = omega arith
few_questions (Some n) image = omega arith

-- ---- after a verdict

module _ {C : Type 0} (v : ValidatorGhosts C) (row : ℕ) (active : Bool) (t : Table) (old : Desk C) (kit : List (Option (KitEntry C))) where
  counted_still : (verdict : ℤ) → AreCounted old.tables → AreCounted (marked row active verdict old.tables)
  counted_still verdict all = by active
    where
      by : (a : Bool) → AreCounted (marked row a verdict old.tables)
      by true = all
      by false = all_keep old.tables row _ (λ t. t.count < 2 ^ 32 - 1) (λ t there few. few) all

  -- what is pending can be done still
  pub ready_still : (times : ℕ) (verdict : ℤ) → WasAsked v.verdict v.asked old.kit kit (questions t (judged_image t active)) (Some verdict ∷ None ∷ [])
      → IsReady v (times + 1) old → IsReady v times (judged_by row active (Some verdict) kit old)
  ready_still times verdict was is = record {
    counted = counted_still verdict is.counted;
    functions = asked_has_functions (marked row active verdict old.tables) old.kit kit (stands_still v.verdict v.asked old.kit kit _ _ was) (mark_has_functions old.tables row active verdict old.kit is.functions);
    few = few_left v.verdict v.asked old.kit kit _ _ (times + 1) times was (let few = few_questions t.validator (judged_image t active) in omega (arith, few)) is.few;
    pending = judged_keeps old.tables row active verdict old.pending is.pending;
    loads = mark_keeps_loads old.tables row active verdict is.loads;
  }

-- the state that is left
pub judged_state : {C : Type 0} (row : ℕ) (active : Bool) (old : Desk C) (kit : List (Option (KitEntry C))) (rest : Rest) (verdict : ℤ) → owners kit ≡ owners old.kit
    → judged (state_at rest old) row active verdict ≡ state_at rest (judged_by row active (Some verdict) kit old)
judged_state row active old kit rest verdict same = λ i. record (judged (state_at rest old) row active verdict) { kit = sym same i }
