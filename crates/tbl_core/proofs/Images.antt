-- The bound on the images of a table, computed again.
use Rattle.std.proofs.Common.{◌≤◌, ℕ, suc, zero, List, [], ◌∷◌, Option, Some, None, arith}
use Rattle.std.specs.Prelude.{max, fold, slice_index_or}
use Rattle.std.proofs.Math.Nat.{le-max_left, le-max_right, max-le}
use Rattle.tbl_model.specs.State.{Table}
use Rattle.tbl_model.specs.Tables.{table_at}
use Rattle.tbl_model.specs.Fit.{FitAt}
use Rattle.tbl_registry.specs.Images.{images_in, most_images}
use Rattle.tbl_core.specs.Service.{EngineView, IsReady, recounted, state_of}
use Rattle.tbl_outside.specs.declared.validator.Validator.{Ghosts as ValidatorGhosts}

abbrev more : ℕ → Option Table → ℕ
more most row = max most (images_in row)

-- no row has had more than the most, nor was there more at first
at_first : (rows : List (Option Table)) (a : ℕ) → a ≤ fold more a rows
at_first [] a = omega arith
at_first (x ∷ rows) a = let here = le-max_left a (images_in x) in let rest = at_first rows (more a x) in omega (arith, here, rest)

in_row : (rows : List (Option Table)) (a row : ℕ) → images_in (slice_index_or rows row None) ≤ fold more a rows
in_row [] a row = omega arith
in_row (x ∷ rows) a zero = let here = le-max_right a (images_in x) in let rest = at_first rows (more a x) in omega (arith, here, rest)
in_row (x ∷ rows) a (suc row) = in_row rows (more a x) row

-- and the most is no more than a bound of each
within : (rows : List (Option Table)) (a m : ℕ) → a ≤ m → ((row : ℕ) → images_in (slice_index_or rows row None) ≤ m) → fold more a rows ≤ m
within [] a m first each = first
within (x ∷ rows) a m first each = within rows (more a x) m (max-le first (each 0)) (λ row. each (suc row))

module _ {B C : Type 0} (v : ValidatorGhosts C) (engine : EngineView B C) (ready : IsReady v engine) where
  abbrev most : ℕ
  most = most_images engine.state.tables

  bounded : (row : ℕ) (found : Option Table) → FitAt engine.images (state_of engine.state).kit engine.state.pending engine.state.tables.handles row found → images_in found ≤ engine.images
  bounded row None fit = omega arith
  bounded row (Some t) fit = fit.few

  few : most ≤ engine.images
  few = within engine.state.tables.rows 0 engine.images (omega arith) (λ row. bounded row (table_at engine.state.tables row) (ready.fit.each row))

  refit : (row : ℕ) (found : Option Table) → images_in found ≤ most → FitAt engine.images (state_of engine.state).kit engine.state.pending engine.state.tables.handles row found
      → FitAt most (state_of engine.state).kit engine.state.pending engine.state.tables.handles row found
  refit row None is fit = fit
  refit row (Some t) is fit = record { few = is; registered = fit.registered; function = fit.function; notice = fit.notice; checked = fit.checked; pends = fit.pends }

  pub recounted_ready : IsReady v (recounted engine)
  recounted_ready = record {
    fit = record {
      each = λ row. refit row (table_at engine.state.tables row) (in_row engine.state.tables.rows 0 row) (ready.fit.each row);
      few_pending = ready.fit.few_pending;
    };
    few = let low = few in omega (arith, low, ready.few);
    booted = ready.booted;
    kit = ready.kit;
    images = ready.images;
    numbers = ready.numbers;
    places = ready.places;
  }
