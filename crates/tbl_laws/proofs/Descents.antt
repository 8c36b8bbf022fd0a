-- What a table keeps as long as it is registered, whatever becomes of it: its name, its size and its options.
use Rattle.std.proofs.Common.{◌≡◌, ℕ, List, Bool, true, false, not, Option, Some, None, is_some, refl, sym, ap, ◌∙◌, inl, inr, length, ℤ}
use Rattle.std.specs.Prelude.{slice_index_or, slice_set, option_and_then}
use Rattle.std.specs.Option.{option_map}
use Rattle.tbl_kinds.specs.Numbers.{patched}
use Rattle.tbl_model.specs.State.{State, Load, Table, Handle, Tables}
use Rattle.tbl_model.specs.Tables.{table_at}
use Rattle.tbl_model.specs.TableSteps.{handle_at, drop_before, with_image, put_in, put, set_time_in, set_time, base, unchecked, patch, set_file, changed, changed_in, load_image, activate, filled_with, last_image, without_handle, give_back_by, registered_by}
use Rattle.tbl_model.specs.Sharing.{give_up, give_up_by}
use Rattle.tbl_model.specs.Given.{Given, verdict_at}
use Rattle.tbl_model.specs.Telemetry.{is_good}
use Rattle.tbl_model.specs.Pending.{is_pending}
use Rattle.tbl_model.specs.Refusals.{update_refusal}
use Rattle.tbl_model.specs.Validations.{marked}
use Rattle.tbl_model.specs.Management.{Done, nothing_done, with_validation, then_validate, with_update, then_update, with_fill, then_fill, all_done, is_requested}
use Rattle.tbl_laws.proofs.Pins.{at_put, at_set}
use Rattle.tbl_laws.proofs.Changes.{with_found, either}

-- ---- tables that stay registered

abbrev pub plan : Table → List ℕ × ℕ × ℕ
plan t = (t.name, t.size, t.options)

-- in this row is a table of the same name, size and options
pub record StoodBefore (rows : List (Option Table)) (row : ℕ) (u : Table) : Type 0 where
  pub table : Table
  pub there : slice_index_or rows row None ≡ Some table
  pub same : plan u ≡ plan table

-- each table was there before
pub record Descends (old new : Tables) : Type 0 where
  pub each : (row : ℕ) (u : Table) → table_at new row ≡ Some u → StoodBefore old.rows row u

-- ---- changes

pub stays_descends : (tables : Tables) → Descends tables tables
stays_descends tables = record { each = λ row u there. record { table = u; there = there; same = refl } }

-- the rows stay
pub same_descends : (old new : Tables) → new.rows ≡ old.rows → Descends old new
same_descends old new same = record { each = λ row u there. record { table = u; there = ap (λ (rows : List (Option Table)). slice_index_or rows row None) (sym same) ∙ there; same = refl } }

-- one change after another
pub then_descends : (old mid new : Tables) → Descends old mid → Descends mid new → Descends old new
then_descends old mid new first second = record {
  each = λ row u there.
      let later = second.each row u there in
      let sooner = first.each row later.table later.there in record { table = sooner.table; there = sooner.there; same = later.same ∙ sooner.same };
}

-- another table of the same name, size and options is put into a row
pub set_descends : (tables : Tables) (row : ℕ) (t u : Table) (handles : List (Option Handle)) → table_at tables row ≡ Some t → plan u ≡ plan t → Descends tables (record { rows = slice_set tables.rows row (Some u); handles = handles })
set_descends tables row t u handles stood same = record {
  each = λ k v there. elim (at_set tables.rows row k u v there) [
    | inl here ↦ record { table = t; there = rw here.0 stood; same = rw (← here.1) same }
    | inr other ↦ record { table = v; there = other.1; same = refl }
  ];
}

-- a table goes
pub gone_descends : (tables : Tables) (row : ℕ) (handles : List (Option Handle)) → Descends tables (record { rows = slice_set tables.rows row None; handles = handles })
gone_descends tables row handles = record {
  each = λ k v there. elim (at_put tables.rows row k None v there) [
    | inl here ↦ absurd (cc here.1)
    | inr other ↦ record { table = v; there = other.1; same = refl }
  ];
}

pub changed_descends : (tables : Tables) (row : ℕ) (change : Table → Table) → ((t : Table) → plan (change t) ≡ plan t) → Descends tables (changed row change tables)
changed_descends tables row change same = here (table_at tables row) refl where
  here : (found : Option Table) → table_at tables row ≡ found → Descends tables (changed_in tables row change found)
  here None at = stays_descends tables
  here (Some t) at = set_descends tables row t (change t) tables.handles at (same t)

pub put_descends : (tables : Tables) (row : ℕ) (image : List ℕ) → Descends tables (put row image tables)
put_descends tables row image = here (table_at tables row) refl where
  here : (found : Option Table) → table_at tables row ≡ found → Descends tables (put_in tables row image found)
  here None at = stays_descends tables
  here (Some t) at = set_descends tables row t (with_image tables.handles row image t) tables.handles at refl

pub time_descends : (tables : Tables) (row seconds sub : ℕ) → Descends tables (set_time row seconds sub tables)
time_descends tables row seconds sub = here (table_at tables row) refl where
  here : (found : Option Table) → table_at tables row ≡ found → Descends tables (set_time_in tables row seconds sub found)
  here None at = stays_descends tables
  here (Some t) at = set_descends tables row t (record t { seconds = seconds; sub = sub }) tables.handles at refl

-- a new image becomes the last one, at a time
pub image_descends : (tables : Tables) (row : ℕ) (image : List ℕ) (seconds sub : ℕ) → Descends tables (set_time row seconds sub (put row image tables))
image_descends tables row image seconds sub = then_descends tables (put row image tables) _ (put_descends tables row image) (time_descends (put row image tables) row seconds sub)

-- it came from a file
pub file_descends : (tables : Tables) (row : ℕ) (image : List ℕ) (seconds sub : ℕ) (file : List ℕ) → Descends tables (set_file row file (set_time row seconds sub (put row image tables)))
file_descends tables row image seconds sub file =
    let imaged : Tables = set_time row seconds sub (put row image tables) in
    then_descends tables imaged _ (image_descends tables row image seconds sub) (changed_descends imaged row (λ t. record t { file = file }) (λ t. refl))

-- the load's image does
pub update_descends : (tables : Tables) (row seconds sub : ℕ) → Descends tables (set_time row seconds sub (activate row tables))
update_descends tables row seconds sub =
    then_descends tables (activate row tables) _ (changed_descends tables row (λ t. record (with_image tables.handles row (load_image t) t) { load = None; activation = false }) (λ t. refl)) (time_descends (activate row tables) row seconds sub)

-- a load is marked as validated, or not
pub mark_descends : (tables : Tables) (row : ℕ) (active : Bool) (verdict : ℤ) → Descends tables (marked row active verdict tables)
mark_descends tables row true verdict = stays_descends tables
mark_descends tables row false verdict = changed_descends tables row (λ t. record t { load = option_map (λ (load : Load). record load { checked = is_good verdict }) t.load }) (λ t. refl)

-- bytes of a file go into the load
pub load_descends : (tables : Tables) (row offset : ℕ) (bytes file : List ℕ) → Descends tables (set_file row file (patch row offset bytes tables))
load_descends tables row offset bytes file =
    let loaded : Tables = patch row offset bytes tables in
    then_descends tables loaded _ (changed_descends tables row (λ t. record t { load = unchecked (patched (base t) offset bytes) }) (λ t. refl)) (changed_descends loaded row (λ t. record t { file = file }) (λ t. refl))

-- ---- handles that are given up

-- and the table with that of its registration
pub give_up_descends : (s : State) (m : ℕ) → Descends s.tables (give_up m s).tables
give_up_descends s m = by (registered_by s.tables m) where
  back : (row : Option ℕ) → Descends s.tables (give_back_by m s.tables row)
  back None = same_descends s.tables _ refl
  back (Some row) =
      let freed : Tables = without_handle m s.tables in
      then_descends s.tables freed _ (same_descends s.tables freed refl) (changed_descends freed row (drop_before freed.handles row) (λ t. refl))

  by : (row : Option ℕ) → Descends s.tables (give_up_by m s row).tables
  by None = back (option_and_then (λ (h : Handle). h.row) (handle_at s.tables m))
  by (Some row) = gone_descends s.tables row _

-- the blocks stay
pub give_up_store : (s : State) (m : ℕ) → (give_up m s).store ≡ s.store
give_up_store s m = by (registered_by s.tables m) where
  by : (row : Option ℕ) → (give_up_by m s row).store ≡ s.store
  by None = refl
  by (Some row) = refl

-- ---- Manage

abbrev Onward : Done → Done → Type 0
Onward d e = Descends d.state.tables e.state.tables

module _ (row : ℕ) (given : Given) where
  validate : (active : Bool) (d : Done) → Onward d (then_validate row active given d)
  validate active d = with_found 0 row given (Onward d) d _ (table_at d.state.tables row) refl (stays_descends d.state.tables) (λ t there.
      either 0 row given (Onward d) (not (is_pending row active d.state.pending)) d (with_validation row active (verdict_at (length d.questions) given) d t) (stays_descends d.state.tables) (λ _. mark_descends d.state.tables row active (verdict_at (length d.questions) given)))

  update : (d : Done) → Onward d (then_update row d)
  update d = with_found 0 row given (Onward d) d _ (table_at d.state.tables row) refl (stays_descends d.state.tables) (λ t there.
      either 0 row given (Onward d) (is_some (update_refusal d.state.tables row t)) d (with_update row d t) (stays_descends d.state.tables) (λ _. update_descends d.state.tables row d.state.seconds d.state.sub))

  fill : (d : Done) → Onward d (then_fill row d)
  fill d = with_found 0 row given (Onward d) d _ (table_at d.state.tables row) refl (stays_descends d.state.tables) (λ t there.
      either 0 row given (Onward d) (not (is_requested t.dump)) d (with_fill row d) (stays_descends d.state.tables) (λ _. changed_descends d.state.tables row (λ u. record u { dump = filled_with (last_image u) u.dump }) (λ t. refl)))

  pub managed_descends : (s : State) → Descends s.tables (all_done s given row).state.tables
  managed_descends s =
      let one = then_validate row true given (nothing_done s) in
      let two = then_validate row false given one in
      let three = then_update row two in
      then_descends _ one.state.tables _ (validate true (nothing_done s)) (then_descends _ two.state.tables _ (validate false one) (then_descends _ three.state.tables _ (update two) (fill three)))

-- the blocks stay
module _ (row : ℕ) (given : Given) where
  validate_store : (active : Bool) (d : Done) → (then_validate row active given d).state.store ≡ d.state.store
  validate_store active d = with_found 0 row given (λ e. e.state.store ≡ d.state.store) d _ (table_at d.state.tables row) refl refl (λ t there.
      either 0 row given (λ e. e.state.store ≡ d.state.store) (not (is_pending row active d.state.pending)) d (with_validation row active (verdict_at (length d.questions) given) d t) refl (λ _. refl))

  update_store : (d : Done) → (then_update row d).state.store ≡ d.state.store
  update_store d = with_found 0 row given (λ e. e.state.store ≡ d.state.store) d _ (table_at d.state.tables row) refl refl (λ t there.
      either 0 row given (λ e. e.state.store ≡ d.state.store) (is_some (update_refusal d.state.tables row t)) d (with_update row d t) refl (λ _. refl))

  fill_store : (d : Done) → (then_fill row d).state.store ≡ d.state.store
  fill_store d = with_found 0 row given (λ e. e.state.store ≡ d.state.store) d _ (table_at d.state.tables row) refl refl (λ t there.
      either 0 row given (λ e. e.state.store ≡ d.state.store) (not (is_requested t.dump)) d (with_fill row d) refl (λ _. refl))

  pub managed_store : (s : State) → (all_done s given row).state.store ≡ s.store
  managed_store s =
      let one = then_validate row true given (nothing_done s) in
      let two = then_validate row false given one in
      fill_store (then_update row two) ∙ update_store two ∙ validate_store false one ∙ validate_store true (nothing_done s)
