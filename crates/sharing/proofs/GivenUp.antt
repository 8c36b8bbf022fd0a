-- Handles are given up, alone or with the table that they registered, and applications end.
use Rattle.std.proofs.Common.{◌≡◌, ◌≢◌, ◌∙◌, ℕ, suc, zero, ◌+◌, List, length, Bool, true, false, cond, Option, Some, None, IsSome, refl, sym, ap, subst, inl, inr, arith}
use Rattle.std.specs.List.{fold, range_with_len}
use Rattle.std.specs.Option.{option_map}
use Rattle.std.proofs.lemmas.Bool.{cases_eq, eq-eqb}
use Rattle.std.proofs.lemmas.List.{get_or-set_same, get_or-set_other}
use Rattle.std.proofs.Math.ListN.{get_or-map}
use Rattle.tbl_model.specs.State.{State, Handle, Tables}
use Rattle.tbl_model.specs.Tables.{table_at}
use Rattle.tbl_model.specs.TableSteps.{is_that, handle_at, drop_before, without_handle, give_back, give_back_by, orphaned, remove, registered_by}
use Rattle.tbl_model.specs.Pending.{of_other_rows}
use Rattle.tbl_model.specs.Sharing.{is_handle_of, give_up, give_up_by, give_up_if, without_handles_of}
use Rattle.tbl_laws.proofs.Rows.{within}
use Rattle.tbl_laws.proofs.Pairs.{row_gone, row_stays}
use Rattle.tbl_laws.proofs.GivingUp.{Registers, registers}
use Rattle.tbl_model.specs.Fit.{CanValidate}
use Rattle.validation.specs.Ready.{ArePending, HaveLoads}
use Rattle.validation.proofs.Ready.{stays_there, loads_keep}
use Rattle.tbl_model.specs.Effects.{left_with}
use Rattle.sharing.specs.Leaving.{GivesUp}

-- ---- a table goes with the handle that registered it

module _ (tables : Tables) (number row : ℕ) (is : registered_by tables number ≡ Some row) where
  reg : Registers tables number row
  reg = registers tables number row is

  pub there : IsSome (table_at tables row)
  there = rw (reg.there) cc

  -- the handle leads to none once its table is gone
  orphan : handle_at (remove row tables) number ≡ Some (record reg.handle { row = None; pin = None })
  orphan = get_or-map (orphaned row) tables.handles number None ∙ rw (reg.place, reg.leads, eq-eqb row row refl) refl

  pub given : IsSome (handle_at (remove row tables) number)
  given = rw orphan cc

  pub goes_alone : give_back number (remove row tables) ≡ without_handle number (remove row tables)
  goes_alone = rw orphan refl

  elsewhere : (r : ℕ) → r ≢ row → table_at (without_handle number (remove row tables)) r ≡ table_at tables r
  elsewhere r other = get_or-set_other tables.rows row r None None other

  pub removed_pends : (pending : List (ℕ × Bool)) → ArePending tables pending → ArePending (without_handle number (remove row tables)) (of_other_rows row pending)
  removed_pends pending all = λ r a pends. elim (cases_eq r row) [
    | inl here ↦ absurd (cc (rw here at pends, row_gone pending row a))
    | inr other ↦ rw (elsewhere r other) (all r a (sym (row_stays pending row r a other) ∙ pends))
  ]

  pub removed_loads : HaveLoads tables → HaveLoads (without_handle number (remove row tables))
  removed_loads all = λ r. elim (cases_eq r row) [
    | inl here ↦ rw (here, get_or-set_same tables.rows row None None (within tables.rows row reg.table reg.there)) (λ t none. absurd (cc none))
    | inr other ↦ rw (elsewhere r other) (all r)
  ]

-- ---- a handle goes alone

pub back_pends : (number : ℕ) (tables : Tables) (of : Option ℕ) (pending : List (ℕ × Bool)) → ArePending tables pending → ArePending (give_back_by number tables of) pending
back_pends number tables None pending all = all
back_pends number tables (Some row) pending all = by
  where
    by : ArePending (give_back_by number tables (Some row)) pending
    by r true pends = stays_there (without_handle number tables) row (drop_before (without_handle number tables).handles row) (λ t. CanValidate t true) (λ t there can. can) r (all r true pends)
    by r false pends = stays_there (without_handle number tables) row (drop_before (without_handle number tables).handles row) (λ t. CanValidate t false) (λ t there can. can) r (all r false pends)

pub back_loads : (number : ℕ) (tables : Tables) (of : Option ℕ) → HaveLoads tables → HaveLoads (give_back_by number tables of)
back_loads number tables None all = all
back_loads number tables (Some row) all = loads_keep (without_handle number tables) row (drop_before (without_handle number tables).handles row) (λ t there has. has) all

-- ---- who holds a handle

pub is_holder : (app : ℕ) (place : Option Handle) → is_handle_of app place ≡ is_that app (option_map (λ (h : Handle). h.app) place)
is_holder app None = refl
is_holder app (Some h) = refl

pub held : (app : ℕ) (place : Option Handle) → is_handle_of app place ≡ true → IsSome place
held app None is = absurd (cc is)
held app (Some h) is = cc

-- ---- as steps of the state

module _ (s : State) (tables : Tables) (pending : List (ℕ × Bool)) (kept : s.tables ≡ tables) (same : s.pending ≡ pending) where
  pub stays_left : s ≡ left_with s tables pending
  stays_left = λ i. left_with s (kept i) (same i)

  pub gives_up : (number : ℕ) (found : Option ℕ) → found ≡ registered_by tables number → give_up number s ≡ give_up_by number (left_with s tables pending) found
  gives_up number found is = (λ i. give_up_by number (left_with s (kept i) (same i)) (registered_by (kept i) number)) ∙ ap (give_up_by number (left_with s tables pending)) (sym is)

  pub gives_up_if : (app number : ℕ) (b : Bool) → b ≡ is_handle_of app (handle_at tables number) → give_up_if app s number ≡ cond b (give_up number s) s
  gives_up_if app number b is = ap (λ (t : Tables). cond (is_handle_of app (handle_at t number)) (give_up number s) s) kept ∙ ap (λ (b : Bool). cond b (give_up number s) s) (sym is)

-- nothing was given up
pub gives_none : (tables : Tables) (pending : List (ℕ × Bool)) (Leads : State → State → Type 0) → ((s : State) → s.tables ≡ tables → s.pending ≡ pending → Leads s s) → GivesUp tables tables pending pending Leads
gives_none tables pending Leads stays = record {
  effect = λ s kept same. subst (Leads s) (stays_left s tables pending kept same) (stays s kept same);
  pending = λ all. all;
  loads = λ all. all;
}

-- ---- all numbers in turn

-- a step for each number, and one more
fold_one_more : {X : Type 0} (f : X → ℕ → X) (x : X) (from n : ℕ) → fold f x (range_with_len from (suc n)) ≡ f (fold f x (range_with_len from n)) (from + n)
fold_one_more f x from zero = let same : from ≡ from + 0 = omega arith in ap (λ n. f x n) same
fold_one_more f x from (suc n) =
    let same : from + 1 + n ≡ from + suc n = omega arith in
    fold_one_more f (f x from) (from + 1) n ∙ ap (λ m. f (fold f (f x from) (range_with_len (from + 1) n)) m) same

pub fold_next : {X : Type 0} (f : X → ℕ → X) (x : X) (n : ℕ) → fold f x (range_with_len 0 (n + 1)) ≡ f (fold f x (range_with_len 0 n)) n
fold_next f x n =
    let one : n + 1 ≡ suc n = omega arith in
    let none : 0 + n ≡ n = omega arith in
    ap (λ m. fold f x (range_with_len 0 m)) one ∙ fold_one_more f x 0 n ∙ ap (λ m. f (fold f x (range_with_len 0 n)) m) none

pub all_in_turn : (s : State) (app n : ℕ) → n ≡ length s.tables.handles → without_handles_of app s ≡ fold (give_up_if app) s (range_with_len 0 n)
unfolding without_handles_of
all_in_turn s app n is = ap (λ m. fold (give_up_if app) s (range_with_len 0 m)) (sym is)
