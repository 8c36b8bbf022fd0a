-- What is there if nothing refuses.
use Rattle.std.proofs.Common.{◌≡◌, ◌<◌, ◌==◌, ℕ, Bool, true, false, not, cond, Option, Some, None, IsSome, is_some, refl, arith}
use Rattle.std.proofs.lemmas.Bool.Decides.{nat_tests}
use Rattle.tbl_model.specs.State.{State, Load, Table, Tables}
use Rattle.tbl_model.specs.TableSteps.{locker}
use Rattle.tbl_model.specs.Refusals.{update_refusal, lock_refusal}
use Rattle.tbl_model.specs.Fit.{HasImage}
use Rattle.tbl_model.specs.Validations.{validate_by, validated_effect}
use Rattle.tbl_kinds.specs.declared.entry.Answer.{Answer}
use Rattle.tbl_registry.specs.Views.{has_image}
use Rattle.update_requests.specs.Validations.{missing_refusal}

-- a refusal that there isn't
passed : (b : Bool) (a : Answer) (rest : Option Answer) → cond b (Some a) rest ≡ None → (b ≡ false) × (rest ≡ None)
passed true a rest none = absurd (cc none)
passed false a rest none = (refl, none)

not_false : (b : Bool) → not b ≡ false → b ≡ true
not_false true is = refl
not_false false is = absurd (cc is)

unlocked : (lock : Option ℕ) → lock_refusal lock ≡ None → lock ≡ None
unlocked None none = refl
unlocked (Some handle) none = absurd (cc none)

-- if an update can be made, the activation was requested, and no handle is in the way
pub may_update : (tables : Tables) (row : ℕ) (t : Table) → update_refusal tables row t ≡ None → (t.activation ≡ true) × (locker tables row t ≡ None)
may_update tables row t none =
    let a = passed (not t.activation) _ _ none in
    (not_false t.activation a.0, unlocked (locker tables row t) a.1)

-- ---- images

-- an image that can be judged is there
pub is_there : (t : Table) (active : Bool) → HasImage t active → has_image t active ≡ true
is_there t true has = let some : (t.count == 0) ≡ false = grind (arith, nat_tests) in rw some refl
is_there t false has = by t.load has.0
  where
    by : (load : Option Load) → IsSome load → is_some load ≡ true
    by None none = absurd (cc none)
    by (Some load) some = refl

pub nothing_missing : (t : Table) (active : Bool) → missing_refusal t active ≡ None → HasImage t active
nothing_missing t true none = by (t.count == 0) refl none
  where
    by : (b : Bool) → (t.count == 0) ≡ b → missing_refusal t true ≡ None → 0 < t.count
    by true is none = absurd (cc (rw is at none))
    by false is none = grind (arith, nat_tests)
nothing_missing t false none = by t.load t.activation none
  where
    by : (load : Option Load) (requested : Bool) → missing_refusal (record t { load = load; activation = requested }) false ≡ None → IsSome load × (requested ≡ false)
    by None requested none = absurd (cc none)
    by (Some l) true none = absurd (cc none)
    by (Some l) false none = (cc, refl)

-- a table without a function has its image validated at once
pub passes_all : (s : State) (row : ℕ) (t : Table) (active : Bool) → missing_refusal t active ≡ None → is_some t.validator ≡ false → validate_by s row t (Some active) ≡ validated_effect s active row t
passes_all s row t true none without = by (t.count == 0) refl
  where
    by : (b : Bool) → (t.count == 0) ≡ b → validate_by s row t (Some true) ≡ validated_effect s true row t
    by true is = absurd (cc (rw is at none))
    by false is = rw (is, without) refl
passes_all s row t false none without =
    let a = passed (not (is_some t.load)) _ _ none in
    let b = passed t.activation _ _ a.1 in
    rw (a.0, b.0, without) refl
