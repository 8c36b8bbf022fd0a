-- Handles that come and go, and tables that go with them.
use Rattle.std.proofs.Common.{◌≡◌, ◌≢◌, ℕ, suc, zero, ◌<◌, List, [], ◌∷◌, length, map, Bool, true, false, not, eqb, Option, Some, None, refl, sym, ap, ◌∙◌, arith, inl, inr, cond, if◌then◌else◌}
use Rattle.std.specs.Prelude.{slice_index_or, slice_set, IfSome, option_and_then}
use Rattle.std.specs.List.{fold, range_with_len}
use Rattle.std.specs.Option.{option_map}
use Rattle.std.proofs.lemmas.Bool.{cases_eq, eqb-true, eq-eqb, ne_eqb}
use Rattle.std.proofs.lemmas.List.{get_or-set_same, get_or-set_other, length-set, length-map}
use Rattle.std.proofs.lemmas.List.FromFn.{get_or-range_with_len, length-range_with_len}
use Rattle.std.proofs.Math.ListN.{get_or-map}
use Rattle.std.proofs.lemmas.Option.{same_Some}
use Rattle.tbl_model.specs.State.{State, Table, Handle, Tables}
use Rattle.tbl_model.specs.Tables.{table_at}
use Rattle.tbl_model.specs.TableSteps.{is_that, handle_at, Access, access_of, drop_before, changed, without_handle, give_back_by, orphaned, remove, registered_by}
use Rattle.tbl_model.specs.Pending.{of_other_rows}
use Rattle.tbl_model.specs.Sharing.{give_up, give_up_by, is_handle_of, give_up_if, without_handles_of, unless_of, ended_app}
use Rattle.tbl_model.specs.Fit.{IsRegistered, FitAt, AreFit}
use Rattle.tbl_laws.proofs.Rows.{within}
use Rattle.tbl_laws.proofs.Pairs.{fewer, row_gone, row_stays}
use Rattle.tbl_laws.proofs.Fits.{fit_on, fit_same, handles_changed}
use Rattle.tbl_laws.proofs.Changes.{told}

-- ---- registrations that stay

-- a handle is put at a place: in the place of one of the same application and row, or in a free one
pub kept_with : (handles : List (Option Handle)) (m : ℕ) (h : Handle) (row number owner : ℕ) → ((g : Handle) → slice_index_or handles m None ≡ Some g → (h.app ≡ g.app) × (h.row ≡ g.row))
    → IsRegistered handles row number owner → IsRegistered (slice_set handles m (Some h)) row number owner
kept_with handles m h row number owner same reg = elim (cases_eq number m) [
  | inl is ↦
      let here : slice_index_or handles m None ≡ Some reg.handle = rw is at reg.place in
      let alike = same reg.handle here in record {
        handle = h;
        place = rw is (get_or-set_same handles m (Some h) None (within handles m reg.handle here));
        app = alike.0 ∙ reg.app;
        leads = alike.1 ∙ reg.leads;
      }
  | inr other ↦ record { handle = reg.handle; place = get_or-set_other handles m number (Some h) None other ∙ reg.place; app = reg.app; leads = reg.leads }
]

-- another handle is gone
kept_without : (handles : List (Option Handle)) (m row number owner : ℕ) → number ≢ m → IsRegistered handles row number owner → IsRegistered (slice_set handles m None) row number owner
kept_without handles m row number owner other reg = record { handle = reg.handle; place = get_or-set_other handles m number None None other ∙ reg.place; app = reg.app; leads = reg.leads }

-- the handles of another row lead to none any more
kept_orphaned : (handles : List (Option Handle)) (gone row number owner : ℕ) → row ≢ gone → IsRegistered handles row number owner → IsRegistered (map (orphaned gone) handles) row number owner
kept_orphaned handles gone row number owner other reg = record {
  handle = reg.handle;
  place = get_or-map (orphaned gone) handles number None ∙ rw (reg.place, reg.leads, ne_eqb row gone other) refl;
  app = reg.app;
  leads = reg.leads;
}

-- ---- a handle is given up

-- what it leads to
leads_to : (tables : Tables) (m : ℕ) (h : Handle) (row : ℕ) (t : Table) → handle_at tables m ≡ Some h → h.row ≡ Some row → table_at tables row ≡ Some t → access_of tables m ≡ Some (record { handle = h; row = row; table = t })
leads_to tables m h row t place leads there = rw (place, leads, there) refl

-- one that registered no table is no table's
not_registered : (tables : Tables) (m k : ℕ) (t : Table) → registered_by tables m ≡ None → table_at tables k ≡ Some t → IsRegistered tables.handles k t.handle t.owner → t.handle ≢ m
not_registered tables m k t none there reg same =
    let access = leads_to tables m reg.handle k t (rw same at reg.place) reg.leads there in
    let found : registered_by tables m ≡ Some k = rw (access, eq-eqb t.handle m same) refl in
    cc (none, found)

-- one that did leads to it
pub record Registers (tables : Tables) (m row : ℕ) : Type 0 where
  pub handle : Handle
  pub place : handle_at tables m ≡ Some handle
  pub leads : handle.row ≡ Some row
  pub table : Table
  pub there : table_at tables row ≡ Some table
  pub is : table.handle ≡ m

pub registers : (tables : Tables) (m row : ℕ) → registered_by tables m ≡ Some row → Registers tables m row
registers tables m row is = by_place (handle_at tables m) refl where
  by_test : (h : Handle) (k : ℕ) (t : Table) (b : Bool) → handle_at tables m ≡ Some h → h.row ≡ Some k → table_at tables k ≡ Some t → eqb t.handle m ≡ b → cond b (Some k) None ≡ Some row → Registers tables m row
  by_test h k t true place leads there same found = let one : k ≡ row = same_Some k row found in record { handle = h; place = place; leads = leads ∙ ap (λ (j : ℕ). Some j) one; table = t; there = rw (← one) there; is = eqb-true t.handle m same }
  by_test h k t false place leads there same found = absurd (cc found)

  by_table : (h : Handle) (k : ℕ) (found : Option Table) → handle_at tables m ≡ Some h → h.row ≡ Some k → table_at tables k ≡ found
      → option_and_then (λ (a : Access). if eqb a.table.handle m then Some a.row else None) (option_map (λ (t : Table). record { handle = h; row = k; table = t }) found) ≡ Some row → Registers tables m row
  by_table h k None place leads there found = absurd (cc found)
  by_table h k (Some t) place leads there found = by_test h k t (eqb t.handle m) place leads there refl found

  by_row : (h : Handle) (of : Option ℕ) → handle_at tables m ≡ Some h → h.row ≡ of
      → option_and_then (λ (a : Access). if eqb a.table.handle m then Some a.row else None) (option_and_then (λ (k : ℕ). option_map (λ (t : Table). record { handle = h; row = k; table = t }) (table_at tables k)) of) ≡ Some row → Registers tables m row
  by_row h None place leads found = absurd (cc found)
  by_row h (Some k) place leads found = by_table h k (table_at tables k) place leads refl found

  by_place : (place : Option Handle) → handle_at tables m ≡ place → Registers tables m row
  by_place None place = absurd (let found = is in cc (rw place at found))
  by_place (Some h) place = by_row h h.row place refl (rw place at is)

module _ (n m : ℕ) (s : State) (fit : AreFit n s) where
  -- the handle alone goes
  alone : registered_by s.tables m ≡ None → AreFit n (record s { tables = without_handle m s.tables })
  alone none = fit_same n n s (record s { tables = without_handle m s.tables }) (omega arith) fit refl refl refl
      (λ k t there reg. kept_without s.tables.handles m k t.handle t.owner (not_registered s.tables m k t none there reg) reg)

  -- and the image before the last of its table, once no handle pins it
  given_back : (row : Option ℕ) → registered_by s.tables m ≡ None → AreFit n (record s { tables = give_back_by m s.tables row })
  given_back None none = alone none
  given_back (Some row) none = by_row (table_at s.tables row) refl where
    by_row : (found : Option Table) → table_at s.tables row ≡ found → AreFit n (record s { tables = changed row (drop_before (without_handle m s.tables).handles row) (without_handle m s.tables) })
    by_row None there = rw there (alone none)
    by_row (Some t) there = told n (record s { tables = without_handle m s.tables }) (alone none) row t there n (drop_before (without_handle m s.tables).handles row) (omega arith) refl refl refl refl refl refl refl

  -- the table goes with it
  taken_away : (row : ℕ) → registered_by s.tables m ≡ Some row → AreFit n (record s { tables = without_handle m (remove row s.tables); pending = of_other_rows row s.pending })
  taken_away row is =
      let reg = registers s.tables m row is in
      fit_on n n s (record s { tables = without_handle m (remove row s.tables); pending = of_other_rows row s.pending }) row None (omega arith) fit (record {
        rows = record {
          here = get_or-set_same s.tables.rows row None None (within s.tables.rows row reg.table reg.there);
          others = λ k other. get_or-set_other s.tables.rows row k None None other;
        };
        pending = λ k active other. row_stays s.pending row k active other;
        handles = λ k t other there old. kept_without (map (orphaned row) s.tables.handles) m k t.handle t.owner
            (λ same. other (same_Some k row (sym old.leads ∙ ap (λ (h : Handle). h.row) (same_Some old.handle reg.handle (sym old.place ∙ ap (λ (j : ℕ). handle_at s.tables j) same ∙ reg.place)) ∙ reg.leads)))
            (kept_orphaned s.tables.handles row k t.handle t.owner other old);
        kit = refl;
        few_pending = let h = fewer (λ pair. not (eqb pair.0 row)) s.pending in let k = fit.few_pending in omega arith;
      }) (λ active. row_gone s.pending row active)

  pub given_up : AreFit n (give_up m s)
  given_up = by (registered_by s.tables m) refl where
    by : (row : Option ℕ) → registered_by s.tables m ≡ row → AreFit n (give_up_by m s row)
    by None is = given_back (option_and_then (λ (h : Handle). h.row) (handle_at s.tables m)) is
    by (Some row) is = taken_away row is

-- ---- an application ends

-- what one handle's end leaves of the others: each that is there was there, of the same application
pub record Fewer (old new : State) (m : ℕ) : Type 0 where
  pub gone : handle_at new.tables m ≡ None
  pub others : (k : ℕ) (h : Handle) → handle_at new.tables k ≡ Some h → (g : Handle) × (handle_at old.tables k ≡ Some g) × (h.app ≡ g.app)
  pub long : length new.tables.handles ≡ length old.tables.handles
  pub kit : new.kit ≡ old.kit
  pub ended : new.ended ≡ old.ended

pub set_none : (handles : List (Option Handle)) (m : ℕ) → slice_index_or (slice_set handles m None) m None ≡ None
set_none [] zero = refl
set_none [] (suc m) = refl
set_none (h ∷ hs) zero = refl
set_none (h ∷ hs) (suc m) = set_none hs m

-- none is put at a place
pub fewer_without : (handles : List (Option Handle)) (m k : ℕ) (h : Handle) → slice_index_or (slice_set handles m None) k None ≡ Some h → slice_index_or handles k None ≡ Some h
fewer_without handles m k h is = elim (cases_eq k m) [
  | inl same ↦ absurd (cc (rw same at is, set_none handles m))
  | inr other ↦ sym (get_or-set_other handles m k None None other) ∙ is
]

orphan_of : (row : ℕ) (place : Option Handle) (h : Handle) → orphaned row place ≡ Some h → (g : Handle) × (place ≡ Some g) × (h.app ≡ g.app)
orphan_of row None h is = absurd (cc is)
orphan_of row (Some g) h is = (g, refl, by (is_that row g.row) is) where
  by : (b : Bool) → Some (cond b (record g { row = None; pin = None }) g) ≡ Some h → h.app ≡ g.app
  by true same = sym (ap (λ (x : Handle). x.app) (same_Some _ h same))
  by false same = sym (ap (λ (x : Handle). x.app) (same_Some _ h same))

pub fewer_handles : (s : State) (m : ℕ) → Fewer s (give_up m s) m
fewer_handles s m = by (registered_by s.tables m) where
  back : (row : Option ℕ) → Fewer s (record s { tables = give_back_by m s.tables row }) m
  back None = record { gone = set_none s.tables.handles m; others = λ k h is. (h, fewer_without s.tables.handles m k h is, refl); long = length-set s.tables.handles m None; kit = refl; ended = refl }
  back (Some row) =
      let same : (give_back_by m s.tables (Some row)).handles ≡ slice_set s.tables.handles m None = handles_changed (without_handle m s.tables) row (drop_before (slice_set s.tables.handles m None) row) in record {
        gone = rw same (set_none s.tables.handles m);
        others = λ k h is. (h, fewer_without s.tables.handles m k h (rw same at is), refl);
        long = rw same (length-set s.tables.handles m None);
        kit = refl;
        ended = refl;
      }

  by : (row : Option ℕ) → Fewer s (give_up_by m s row) m
  by None = back (option_and_then (λ (h : Handle). h.row) (handle_at s.tables m))
  by (Some row) = record {
    gone = set_none (map (orphaned row) s.tables.handles) m;
    others = λ k h is. orphan_of row (slice_index_or s.tables.handles k None) h (sym (get_or-map (orphaned row) s.tables.handles k None) ∙ fewer_without (map (orphaned row) s.tables.handles) m k h is);
    long = length-set (map (orphaned row) s.tables.handles) m None ∙ length-map s.tables.handles (orphaned row);
    kit = refl;
    ended = refl;
  }

-- the place holds no handle of this application
abbrev pub IsGone : ℕ → State → ℕ → Type 0
IsGone app s k = is_handle_of app (handle_at s.tables k) ≡ false

module _ (app : ℕ) where
  -- which stays so while handles go
  stays_gone : (old new : State) (m k : ℕ) → Fewer old new m → IsGone app old k → IsGone app new k
  stays_gone old new m k fewer gone = by (handle_at new.tables k) refl where
    by : (place : Option Handle) → handle_at new.tables k ≡ place → is_handle_of app place ≡ false
    by None is = refl
    by (Some h) is = let g = fewer.others k h is in rw g.2 (rw g.1 at gone)

  pub record Left (s next : State) (gone : List ℕ) : Type 0 where
    pub fit : (n : ℕ) → AreFit n s → AreFit n next
    pub each : (i : ℕ) → i < length gone → IsGone app next (slice_index_or gone i 0)
    pub keeps : (k : ℕ) → IsGone app s k → IsGone app next k
    pub long : length next.tables.handles ≡ length s.tables.handles
    pub kit : next.kit ≡ s.kit
    pub ended : next.ended ≡ s.ended

  one_left : (s : State) (m : ℕ) → Left s (give_up_if app s m) (m ∷ [])
  one_left s m = by (is_handle_of app (handle_at s.tables m)) refl where
    by : (b : Bool) → is_handle_of app (handle_at s.tables m) ≡ b → Left s (cond b (give_up m s) s) (m ∷ [])
    by true is =
        let fewer = fewer_handles s m in record {
          fit = λ n fit. given_up n m s fit;
          each = λ i low. rw (first i low, fewer.gone) refl;
          keeps = λ k gone. stays_gone s (give_up m s) m k fewer gone;
          long = fewer.long;
          kit = fewer.kit;
          ended = fewer.ended;
        }
      where
        first : (i : ℕ) → i < length (m ∷ []) → slice_index_or (m ∷ []) i 0 ≡ m
        first zero low = refl
        first (suc i) low = absurd (omega (arith, low))
    by false is = record { fit = λ n fit. fit; each = λ i low. only i low; keeps = λ k gone. gone; long = refl; kit = refl; ended = refl } where
      only : (i : ℕ) → i < length (m ∷ []) → IsGone app s (slice_index_or (m ∷ []) i 0)
      only zero low = is
      only (suc i) low = absurd (omega (arith, low))

  pub all_left : (s : State) (numbers : List ℕ) → Left s (fold (give_up_if app) s numbers) numbers
  all_left s [] = record { fit = λ n fit. fit; each = λ i low. absurd (omega (arith, low)); keeps = λ k gone. gone; long = refl; kit = refl; ended = refl }
  all_left s (m ∷ numbers) =
      let first = one_left s m in
      let rest = all_left (give_up_if app s m) numbers in record {
        fit = λ n fit. rest.fit n (first.fit n fit);
        each = each_of s m numbers first rest;
        keeps = λ k gone. rest.keeps k (first.keeps k gone);
        long = rest.long ∙ first.long;
        kit = rest.kit ∙ first.kit;
        ended = rest.ended ∙ first.ended;
      }
    where
      each_of : (s : State) (m : ℕ) (numbers : List ℕ) → Left s (give_up_if app s m) (m ∷ []) → Left (give_up_if app s m) (fold (give_up_if app) (give_up_if app s m) numbers) numbers → (i : ℕ) → i < length (m ∷ numbers)
          → IsGone app (fold (give_up_if app) (give_up_if app s m) numbers) (slice_index_or (m ∷ numbers) i 0)
      each_of s m numbers first rest zero low = rest.keeps m (first.each zero (omega arith))
      each_of s m numbers first rest (suc i) low = rest.each i (omega (arith, low))

  -- the tables that are left are of other applications
  module _ (n : ℕ) (s : State) (fit : AreFit n s) where
    pub left : Left s (fold (give_up_if app) s (range_with_len 0 (length s.tables.handles))) (range_with_len 0 (length s.tables.handles))
    left = all_left s (range_with_len 0 (length s.tables.handles))

    pub no_handle : (k : ℕ) → k < length s.tables.handles → IsGone app (fold (give_up_if app) s (range_with_len 0 (length s.tables.handles))) k
    no_handle k low =
        let place : slice_index_or (range_with_len 0 (length s.tables.handles)) k 0 ≡ k = get_or-range_with_len 0 (length s.tables.handles) k 0 low ∙ omega arith in
        rw place at (left.each k (omega (arith, low, length-range_with_len 0 (length s.tables.handles))))

    pub owned_by_others : (handles : List (Option Handle)) (row number owner : ℕ) → length handles ≡ length s.tables.handles → ((k : ℕ) → k < length s.tables.handles → is_handle_of app (slice_index_or handles k None) ≡ false)
        → IsRegistered handles row number owner → owner ≢ app
    owned_by_others handles row number owner long none reg same =
        let low = within handles number reg.handle reg.place in
        let gone = none number (omega (arith, low, long)) in
        cc (rw reg.place at gone, eq-eqb reg.handle.app app (reg.app ∙ same))

    others_keep : (kit : List (Option ℕ)) (number owner : ℕ) → owner ≢ app → slice_index_or kit number None ≡ Some owner → slice_index_or (map (unless_of app) kit) number None ≡ Some owner
    others_keep kit number owner other is = get_or-map (unless_of app) kit number None ∙ rw (is, ne_eqb owner app other) refl

    -- so each function that they have stays
    ended_at : (m : ℕ) (kit : List (Option ℕ)) (pending : List (ℕ × Bool)) (handles : List (Option Handle)) (row : ℕ) (found : Option Table) → length handles ≡ length s.tables.handles
        → ((k : ℕ) → k < length s.tables.handles → is_handle_of app (slice_index_or handles k None) ≡ false) → FitAt m kit pending handles row found → FitAt m (map (unless_of app) kit) pending handles row found
    ended_at m kit pending handles row None long none at = at
    ended_at m kit pending handles row (Some t) long none at = record {
      few = at.few;
      registered = at.registered;
      function = by t.validator at.function;
      notice = at.notice;
      checked = at.checked;
      pends = at.pends;
    } where
      by : (validator : Option ℕ) → IfSome validator (λ number. slice_index_or kit number None ≡ Some t.owner) → IfSome validator (λ number. slice_index_or (map (unless_of app) kit) number None ≡ Some t.owner)
      by None is = tt
      by (Some number) is = others_keep kit number t.owner (owned_by_others handles row t.handle t.owner long none at.registered) is

    pub exited : AreFit n (ended_app app (without_handles_of app s))
    unfolding without_handles_of
    exited =
        let after = left.fit n fit in record {
          each = λ row. ended_at n _ _ _ row _ left.long no_handle (after.each row);
          few_pending = after.few_pending;
        }

    pub still_live : (ended_app app (without_handles_of app s)).ended ≡ s.ended
    unfolding without_handles_of
    still_live = left.ended
