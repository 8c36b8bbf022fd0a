-- Pending validations can be done still, after what changes tables, the kit and the list.
use Rattle.std.proofs.Common.{◌≡◌, ◌≢◌, ◌<◌, ℕ, List, [], ◌∷◌, length, Bool, true, false, slice_index_or, option_map, Option, Some, None, IsSome, is_some, refl, sym, inl, inr}
use Rattle.std.proofs.Common.{ℤ}
use Rattle.std.specs.Option.{ForSome}
use Rattle.std.proofs.lemmas.Bool.{cases_eq, cases_lt}
use Rattle.std.proofs.lemmas.List.{get_or-set_same, get_or-set_other, get_or_past}
use Rattle.std.proofs.lemmas.Option.{same_Some}
use Rattle.tbl_model.specs.State.{Load, Table, Tables}
use Rattle.tbl_model.specs.Tables.{table_at}
use Rattle.tbl_model.specs.TableSteps.{changed, changed_in, set_checked}
use Rattle.tbl_model.specs.Telemetry.{is_good}
use Rattle.tbl_model.specs.Pending.{is_pair, is_pending, without_pair}
use Rattle.tbl_model.specs.Validations.{marked}
use Rattle.tbl_outside.specs.declared.validator.KitEntry.{KitEntry}
use Rattle.validation.specs.Kits.{entry_at}
use Rattle.tbl_model.specs.Fit.{CanValidate}
use Rattle.validation.specs.Ready.{CanBeJudged, ArePending, HaveFunctions, HasItsLoad, HaveLoads, HaveSameFunctions}

-- ---- one table changes

-- there is something only within the list
within : {X : Type 0} (xs : List (Option X)) (k : ℕ) (x : X) → slice_index_or xs k None ≡ Some x → k < length xs
within xs k x there = elim (cases_lt k (length xs)) [ inl is ↦ is | inr past ↦ absurd (cc (get_or_past xs k None past)) ]

module _ (tables : Tables) (row : ℕ) (change : Table → Table) where
  pub changed_here : (t : Table) → table_at tables row ≡ Some t → table_at (changed row change tables) row ≡ Some (change t)
  changed_here t there = rw there (get_or-set_same tables.rows row (Some (change t)) None (within tables.rows row t there))

  pub nothing_here : table_at tables row ≡ None → changed row change tables ≡ tables
  nothing_here none = rw none refl

  changed_there : (r : ℕ) → r ≢ row → table_at (changed row change tables) r ≡ table_at tables r
  changed_there r other = by (table_at tables row)
    where
      by : (o : Option Table) → table_at (changed_in tables row change o) r ≡ table_at tables r
      by None = refl
      by (Some t) = get_or-set_other tables.rows row r (Some (change t)) None other

  -- a table that something holds of is there still
  pub stays_there : (P : Table → Type 0) → ((t : Table) → table_at tables row ≡ Some t → P t → P (change t)) → (r : ℕ) → IsSome (table_at tables r) × ForSome (table_at tables r) P
      → IsSome (table_at (changed row change tables) r) × ForSome (table_at (changed row change tables) r) P
  stays_there P keeps r was = elim (cases_eq r row) [
    | inl here ↦ by_table (table_at tables row) refl (rw here at was.0) (rw here at was.1) here
    | inr other ↦ rw (changed_there r other) was
  ]
    where
      by_table : (o : Option Table) → table_at tables row ≡ o → IsSome (table_at tables row) → ForSome (table_at tables row) P → r ≡ row
          → IsSome (table_at (changed row change tables) r) × ForSome (table_at (changed row change tables) r) P
      by_table None is some holds here = absurd (cc (rw is at some))
      by_table (Some t) is some holds here = rw (here, changed_here t is) (cc, λ u same. rw (sym (same_Some (change t) u same)) (keeps t is (holds t is)))

-- what every table has, every table has still
pub all_keep : (tables : Tables) (row : ℕ) (change : Table → Table) (P : Table → Type 0) → ((t : Table) → table_at tables row ≡ Some t → P t → P (change t)) → ((r : ℕ) → ForSome (table_at tables r) P) → (r : ℕ) → ForSome (table_at (changed row change tables) r) P
all_keep tables row change P keeps all r = by (table_at tables r) refl
  where
    by : (o : Option Table) → table_at tables r ≡ o → ForSome (table_at (changed row change tables) r) P
    by (Some t) is = (stays_there tables row change P keeps r (rw is cc, all r)).1
    by None is = elim (cases_eq r row) [
      | inl here ↦ rw (nothing_here tables row change (rw here at is)) (all r)
      | inr other ↦ rw (changed_there tables row change r other) (all r)
    ]

-- ---- the list of pending validations

pub pending_dropped : (row r : ℕ) (active a : Bool) (pairs : List (ℕ × Bool)) → is_pending r a (without_pair row active pairs) ≡ true → is_pending r a pairs ≡ true
pending_dropped row r active a [] is = is
pending_dropped row r active a (pair ∷ pairs) is = by (is_pair row active pair) (is_pair r a pair) refl refl (λ later. pending_dropped row r active a pairs later)
  where
    by : (dropped here : Bool) → is_pair row active pair ≡ dropped → is_pair r a pair ≡ here → (is_pending r a (without_pair row active pairs) ≡ true → is_pending r a pairs ≡ true) → is_pending r a (pair ∷ pairs) ≡ true
    by dropped true d h later = rw h refl
    by true false d h later = rw h (later (rw d at is))
    by false false d h later = rw h (later (rw (d, h) at is))

-- ---- marks

same_load : (checked : Bool) (load : Option Load) → IsSome load → IsSome (option_map (λ (l : Load). record l { checked = checked }) load)
same_load checked None is = is
same_load checked (Some l) is = cc

-- a mark leaves what can be judged
pub mark_keeps : (tables : Tables) (row : ℕ) (checked : Bool) (r : ℕ) (a : Bool) → CanBeJudged tables r a → CanBeJudged (set_checked row checked tables) r a
mark_keeps tables row checked r true = stays_there tables row _ (λ t. CanValidate t true) (λ t there can. can) r
mark_keeps tables row checked r false = stays_there tables row _ (λ t. CanValidate t false) (λ t there can. (can.0, (same_load checked t.load can.1.0, can.1.1))) r

pub judged_keeps : (tables : Tables) (row : ℕ) (active : Bool) (verdict : ℤ) (pending : List (ℕ × Bool)) → ArePending tables pending → ArePending (marked row active verdict tables) (without_pair row active pending)
judged_keeps tables row true verdict pending all = λ r a is. all r a (pending_dropped row r true a pending is)
judged_keeps tables row false verdict pending all = λ r a is. mark_keeps tables row (is_good verdict) r a (all r a (pending_dropped row r false a pending is))

-- ---- functions

pub mark_has_functions : {C : Type 0} (tables : Tables) (row : ℕ) (active : Bool) (verdict : ℤ) (kit : List (Option (KitEntry C))) → HaveFunctions tables kit → HaveFunctions (marked row active verdict tables) kit
mark_has_functions tables row true verdict kit all = all
mark_has_functions tables row false verdict kit all = all_keep tables row _ (λ t. ForSome t.validator (λ number. IsSome (entry_at kit number))) (λ t there has. has) all

-- ---- loads whose activation is requested

pub loads_keep : (tables : Tables) (row : ℕ) (change : Table → Table) → ((t : Table) → table_at tables row ≡ Some t → HasItsLoad t → HasItsLoad (change t)) → HaveLoads tables → HaveLoads (changed row change tables)
loads_keep tables row change keeps all = all_keep tables row change HasItsLoad keeps all

pub mark_keeps_loads : (tables : Tables) (row : ℕ) (active : Bool) (verdict : ℤ) → HaveLoads tables → HaveLoads (marked row active verdict tables)
mark_keeps_loads tables row true verdict all = all
mark_keeps_loads tables row false verdict all = loads_keep tables row _ (λ t there has requested. same_load (is_good verdict) t.load (has requested)) all

-- ---- functions that stay

there_by : (old new : Option Table) → option_map (λ (t : Table). t.validator) new ≡ option_map (λ (t : Table). t.validator) old → IsSome old → IsSome new
there_by None new same is = absurd (cc is)
there_by (Some t) None same is = absurd (cc same)
there_by (Some t) (Some u) same is = cc

pub there_still : (old new : Tables) → HaveSameFunctions old new → (row : ℕ) → IsSome (table_at old row) → IsSome (table_at new row)
there_still old new same row is = there_by (table_at old row) (table_at new row) (same row) is

-- ---- options

pub some_is : {X : Type 0} (place : Option X) → IsSome place → (x : X) × (place ≡ Some x)
some_is None there = absurd (cc there)
some_is (Some x) there = (x, refl)

-- the kit has the functions still, which were asked
pub asked_has_functions : {C : Type 0} (tables : Tables) (old new : List (Option (KitEntry C))) → ((number : ℕ) → IsSome (entry_at old number) → IsSome (entry_at new number)) → HaveFunctions tables old → HaveFunctions tables new
asked_has_functions tables old new still all = λ row t there number is. still number (all row t there number is)

pub not_none : {X : Type 0} (o : Option X) → IsSome o → false ≡ is_some o → ⊥
not_none None is same = absurd (cc is)
not_none (Some x) is same = absurd (cc same)
