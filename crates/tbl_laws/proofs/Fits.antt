-- What holds of the state between two requests, when little of it changes.
use Rattle.std.proofs.Common.{◌≡◌, ◌≢◌, ℕ, ◌≤◌, ◌<◌, List, length, Bool, true, false, not, Option, Some, None, IsSome, is_some, refl, sym, ◌∙◌, subst, arith, inl, inr, ℤ}
use Rattle.std.specs.Prelude.{IfSome}
use Rattle.std.specs.Option.{option_map}
use Rattle.std.proofs.lemmas.Bool.{cases_eq}
use Rattle.tbl_model.specs.State.{State, Load, Table, Handle, Tables}
use Rattle.tbl_model.specs.Tables.{table_at}
use Rattle.tbl_model.specs.TableSteps.{is_checked, set_checked, changed, changed_in, put, put_in, set_time, set_time_in}
use Rattle.tbl_model.specs.Telemetry.{is_good}
use Rattle.tbl_model.specs.Pending.{is_pair, is_pending, without_pair}
use Rattle.tbl_model.specs.Validations.{judged}
use Rattle.tbl_model.specs.Fit.{HasImage, owner_at, IsRegistered, HasCode, IsFit, FitAt, AreFit}
use Rattle.tbl_laws.proofs.Rows.{OneRow, same_rows, changed_row}
use Rattle.tbl_laws.proofs.Pairs.{both_images, pending_less_other, pending_gone, fewer}

-- ---- images that are to be judged

-- the image is there, whichever it is
pub image_there : (t : Table) (active : Bool) → (active ≡ true → 0 < t.count) → (active ≡ false → IsSome t.load × (t.activation ≡ false)) → HasImage t active
image_there t true last load = last refl
image_there t false last load = load refl

pub last_there : (t : Table) (active : Bool) → HasImage t active → active ≡ true → 0 < t.count
last_there t true has is = has
last_there t false has is = absurd (cc is)

pub load_there : (t : Table) (active : Bool) → HasImage t active → active ≡ false → IsSome t.load × (t.activation ≡ false)
load_there t true has is = absurd (cc is)
load_there t false has is = has

-- ---- states that differ little

-- what is fit stays so if more images may have been
more : (n m : ℕ) (kit : List (Option ℕ)) (pending : List (ℕ × Bool)) (handles : List (Option Handle)) (row : ℕ) (found : Option Table) → n ≤ m → FitAt n kit pending handles row found → FitAt m kit pending handles row found
more n m kit pending handles row None low fit = fit
more n m kit pending handles row (Some t) low fit = record { few = let few = fit.few in omega arith; registered = fit.registered; function = fit.function; notice = fit.notice; checked = fit.checked; pends = fit.pends }

-- and if nothing else is pending for the row
same_pending : (n : ℕ) (kit : List (Option ℕ)) (old new : List (ℕ × Bool)) (handles : List (Option Handle)) (row : ℕ) (found : Option Table) → ((active : Bool) → is_pending row active new ≡ is_pending row active old) → FitAt n kit old handles row found → FitAt n kit new handles row found
same_pending n kit old new handles row None same fit = λ active. same active ∙ fit active
same_pending n kit old new handles row (Some t) same fit = record { few = fit.few; registered = fit.registered; function = fit.function; notice = fit.notice; checked = fit.checked; pends = λ active is. fit.pends active (sym (same active) ∙ is) }

-- and if its registration's handle stays
same_handle : (n : ℕ) (kit : List (Option ℕ)) (pending : List (ℕ × Bool)) (old new : List (Option Handle)) (row : ℕ) (found : Option Table)
    → ((t : Table) → found ≡ Some t → IsRegistered old row t.handle t.owner → IsRegistered new row t.handle t.owner) → FitAt n kit pending old row found → FitAt n kit pending new row found
same_handle n kit pending old new row None stays fit = fit
same_handle n kit pending old new row (Some t) stays fit = record { few = fit.few; registered = stays t refl fit.registered; function = fit.function; notice = fit.notice; checked = fit.checked; pends = fit.pends }

-- the state differs in one row, in what is pending for it, and in handles that no other table has from its registration
pub record Differs (old new : State) (row : ℕ) (found : Option Table) : Type 0 where
  pub rows : OneRow old.tables new.tables row found
  pub pending : (k : ℕ) (active : Bool) → k ≢ row → is_pending k active new.pending ≡ is_pending k active old.pending
  pub handles : (k : ℕ) (t : Table) → k ≢ row → table_at old.tables k ≡ Some t → IsRegistered old.tables.handles k t.handle t.owner → IsRegistered new.tables.handles k t.handle t.owner
  pub kit : new.kit ≡ old.kit
  pub few_pending : length new.pending ≤ 10

pub fit_on : (n m : ℕ) (old new : State) (row : ℕ) (found : Option Table) → n ≤ m → AreFit n old → Differs old new row found → FitAt m new.kit new.pending new.tables.handles row found → AreFit m new
fit_on n m old new row found low fit differs here = record {
  each = λ k. elim (cases_eq k row) [
    | inl is ↦ rw (is, differs.rows.here) here
    | inr other ↦ rw (differs.rows.others k other, differs.kit)
        (same_handle m old.kit new.pending old.tables.handles new.tables.handles k (table_at old.tables k) (λ t there. differs.handles k t other there)
        (more n m old.kit new.pending old.tables.handles k (table_at old.tables k) low
        (same_pending n old.kit old.pending new.pending old.tables.handles k (table_at old.tables k) (λ active. differs.pending k active other) (fit.each k))))
  ];
  few_pending = differs.few_pending;
}

-- no table and nothing pending changes, and each table keeps its registration's handle
pub fit_same : (n m : ℕ) (old new : State) → n ≤ m → AreFit n old → new.tables.rows ≡ old.tables.rows → new.pending ≡ old.pending → new.kit ≡ old.kit
    → ((k : ℕ) (t : Table) → table_at old.tables k ≡ Some t → IsRegistered old.tables.handles k t.handle t.owner → IsRegistered new.tables.handles k t.handle t.owner) → AreFit m new
fit_same n m old new low fit rows pending kit handles = record {
  each = λ k. rw (rows, pending, kit) (same_handle m old.kit old.pending old.tables.handles new.tables.handles k (table_at old.tables k) (handles k)
      (more n m old.kit old.pending old.tables.handles k (table_at old.tables k) low (fit.each k)));
  few_pending = rw pending fit.few_pending;
}

-- ---- a table changes

module _ (n : ℕ) (s : State) (fit : AreFit n s) (row : ℕ) (t : Table) (there : table_at s.tables row ≡ Some t) where
  -- what held of it
  pub was : IsFit n s.kit s.pending s.tables.handles row t
  was = subst (FitAt n s.kit s.pending s.tables.handles row) there (fit.each row)

  -- it has become another, of the same registration
  pub record Becomes (tables : Tables) (u : Table) : Type 0 where
    pub changes : OneRow s.tables tables row (Some u)
    pub handles : tables.handles ≡ s.tables.handles
    pub handle : u.handle ≡ t.handle
    pub owner : u.owner ≡ t.owner
    pub validator : u.validator ≡ t.validator
    pub notice : IfSome u.notice HasCode

  -- so this still holds
  registered : (tables : Tables) (u : Table) → Becomes tables u → IsRegistered tables.handles row u.handle u.owner
  registered tables u is = rw (is.handles, is.handle, is.owner) was.registered

  function : (tables : Tables) (u : Table) → Becomes tables u → IfSome u.validator (λ number. owner_at s.kit number ≡ Some u.owner)
  function tables u is = rw (is.validator, is.owner) was.function

  differs : (tables : Tables) (u : Table) (pending : List (ℕ × Bool)) → Becomes tables u → ((k : ℕ) (active : Bool) → k ≢ row → is_pending k active pending ≡ is_pending k active s.pending) → length pending ≤ 10
      → Differs s (record s { tables = tables; pending = pending }) row (Some u)
  differs tables u pending is others few = record {
    rows = is.changes;
    pending = others;
    handles = λ k other_table other at reg. rw is.handles reg;
    kit = refl;
    few_pending = few;
  }

  -- what is pending stays, and so does what it needs of the table: an image, a function, and a load that isn't about to go active
  pub kept : (m : ℕ) (tables : Tables) (u : Table) → n ≤ m → Becomes tables u → t.count ≤ u.count → u.count ≤ m → (u.activation ≡ true → is_checked u ≡ true)
      → (is_pending row false s.pending ≡ true → is_some t.load ≡ true → t.activation ≡ false → (is_some u.load ≡ true) × (u.activation ≡ false)) → AreFit m (record s { tables = tables })
  kept m tables u low is grows few checked load = fit_on n m s (record s { tables = tables }) row (Some u) low fit (differs tables u s.pending is (λ k active other. refl) fit.few_pending) (record {
    few = few;
    registered = registered tables u is;
    function = function tables u is;
    notice = is.notice;
    checked = checked;
    pends = λ active pends.
        let can = was.pends active pends in (
          rw is.validator can.0,
          image_there u active
              (λ last. let some = last_there t active can.1 last in omega (arith, grows, some))
              (λ inactive. let its = load_there t active can.1 inactive in load (rw inactive at pends) its.0 its.1),
        );
  })

  -- its load and what is requested of it stay
  pub unseen : (m : ℕ) (tables : Tables) (u : Table) → n ≤ m → Becomes tables u → t.count ≤ u.count → u.count ≤ m → u.load ≡ t.load → u.activation ≡ t.activation → AreFit m (record s { tables = tables })
  unseen m tables u low is grows few load activation = kept m tables u low is grows few (λ requested. rw load (was.checked (rw activation at requested))) (λ pends open_load no_activation. (rw load open_load, rw activation no_activation))

  -- a validation comes to its end
  module _ (active : Bool) (tables : Tables) (u : Table) (is : Becomes tables u) (grows : t.count ≤ u.count) (few : u.count ≤ n) (checked : u.activation ≡ true → is_checked u ≡ true) (load : is_some u.load ≡ is_some t.load) (activation : u.activation ≡ t.activation) where
    pub less : AreFit n (record s { tables = tables; pending = without_pair row active s.pending })
    less = fit_on n n s (record s { tables = tables; pending = without_pair row active s.pending }) row (Some u) (omega arith) fit
        (differs tables u (without_pair row active s.pending) is (λ k a other. pending_less_other s.pending row k active a (λ same. absurd (other same)))
        (let h = fewer (λ pair. not (is_pair row active pair)) s.pending in let k = fit.few_pending in omega arith)) (record {
          few = few;
          registered = registered tables u is;
          function = function tables u is;
          notice = is.notice;
          checked = checked;
          pends = λ a pends. elim (both_images a active) [
            | inl same ↦ absurd (cc (rw same at pends, pending_gone s.pending row active))
            | inr other ↦
                let can = was.pends a (sym (pending_less_other s.pending row row active a (λ _. other)) ∙ pends) in (
                  rw is.validator can.0,
                  image_there u a
                      (λ last. let some = last_there t a can.1 last in omega (arith, grows, some))
                      (λ inactive. let its = load_there t a can.1 inactive in (rw load its.0, rw activation its.1)),
                )
          ];
        })

  -- ---- each change of the table

  same_table : (tables : Tables) → tables.rows ≡ s.tables.rows → tables.handles ≡ s.tables.handles → Becomes tables t
  same_table tables rows handles = record { changes = same_rows s.tables tables row t there rows; handles = handles; handle = refl; owner = refl; validator = refl; notice = was.notice }

  -- the mark of a load changes, or there is none
  pub mark : (active : Bool) (verdict : ℤ) → (active ≡ false → t.activation ≡ false) → AreFit n (judged s row active verdict)
  mark true verdict no_activation = less true s.tables t (same_table s.tables refl refl) (omega arith) was.few was.checked refl refl
  mark false verdict no_activation =
      let u : Table = record t { load = option_map (λ (load : Load). record load { checked = is_good verdict }) t.load } in
      less false (set_checked row (is_good verdict) s.tables) u
      (record { changes = changed_row s.tables row (λ t. record t { load = option_map (λ (load : Load). record load { checked = is_good verdict }) t.load }) t there; handles = rw there refl; handle = refl; owner = refl; validator = refl; notice = was.notice })
      (omega arith) was.few (λ requested. absurd (cc (requested, no_activation refl))) (same_some t.load) refl
    where
      same_some : (load : Option Load) → is_some (option_map (λ (load : Load). record load { checked = is_good verdict }) load) ≡ is_some load
      same_some None = refl
      same_some (Some load) = refl

-- ---- what a change leaves of the handles

pub handles_changed : (tables : Tables) (row : ℕ) (change : Table → Table) → (changed row change tables).handles ≡ tables.handles
handles_changed tables row change = here (table_at tables row) where
  here : (found : Option Table) → (changed_in tables row change found).handles ≡ tables.handles
  here None = refl
  here (Some t) = refl

pub handles_put : (tables : Tables) (row : ℕ) (image : List ℕ) → (put row image tables).handles ≡ tables.handles
handles_put tables row image = here (table_at tables row) where
  here : (found : Option Table) → (put_in tables row image found).handles ≡ tables.handles
  here None = refl
  here (Some t) = refl

pub handles_time : (tables : Tables) (row seconds sub : ℕ) → (set_time row seconds sub tables).handles ≡ tables.handles
handles_time tables row seconds sub = here (table_at tables row) where
  here : (found : Option Table) → (set_time_in tables row seconds sub found).handles ≡ tables.handles
  here None = refl
  here (Some t) = refl
