-- Changes of one row: what is in it then, and that the others stay.
use Rattle.std.proofs.Common.{◌≡◌, ◌≢◌, ℕ, ◌<◌, suc, zero, List, length, replicate, Option, Some, None, refl, ap, ◌∙◌, inl, inr}
use Rattle.std.specs.Prelude.{slice_index_or}
use Rattle.std.proofs.lemmas.Bool.{cases_lt}
use Rattle.std.proofs.lemmas.List.{get_or_past, get_or-set_same, get_or-set_other}
use Rattle.tbl_model.specs.State.{Table, Tables}
use Rattle.tbl_model.specs.Tables.{table_at}
use Rattle.tbl_model.specs.TableSteps.{with_table, with_image, changed, put, set_time}

-- there is something only within the list
pub within : {X : Type 0} (xs : List (Option X)) (k : ℕ) (x : X) → slice_index_or xs k None ≡ Some x → k < length xs
within xs k x there = elim (cases_lt k (length xs)) [ inl is ↦ is | inr past ↦ absurd (cc (get_or_past xs k None past)) ]

-- nothing is at a free place
pub nothing_at : {X : Type 0} (n k : ℕ) → slice_index_or (replicate {A = Option X} n None) k None ≡ None
nothing_at zero k = refl
nothing_at (suc n) zero = refl
nothing_at (suc n) (suc k) = nothing_at n k

-- in this row is what is found then, and the other rows are as they were
pub record OneRow (old new : Tables) (row : ℕ) (found : Option Table) : Type 0 where
  pub here : table_at new row ≡ found
  pub others : (k : ℕ) → k ≢ row → table_at new k ≡ table_at old k

-- no row changes
pub same_rows : (old new : Tables) (row : ℕ) (t : Table) → table_at old row ≡ Some t → new.rows ≡ old.rows → OneRow old new row (Some t)
same_rows old new row t there same = record { here = ap (λ (rows : List (Option Table)). slice_index_or rows row None) same ∙ there; others = λ k other. ap (λ (rows : List (Option Table)). slice_index_or rows k None) same }

pub set_row : (tables : Tables) (row : ℕ) (t u : Table) → table_at tables row ≡ Some t → OneRow tables (with_table row u tables) row (Some u)
set_row tables row t u there = record {
  here = get_or-set_same tables.rows row (Some u) None (within tables.rows row t there);
  others = λ k other. get_or-set_other tables.rows row k (Some u) None other;
}

pub changed_row : (tables : Tables) (row : ℕ) (change : Table → Table) (t : Table) → table_at tables row ≡ Some t → OneRow tables (changed row change tables) row (Some (change t))
changed_row tables row change t there = rw there (set_row tables row t (change t) there)

pub put_row : (tables : Tables) (row : ℕ) (image : List ℕ) (t : Table) → table_at tables row ≡ Some t → OneRow tables (put row image tables) row (Some (with_image tables.handles row image t))
put_row tables row image t there = rw there (set_row tables row t (with_image tables.handles row image t) there)

pub time_row : (tables : Tables) (row seconds sub : ℕ) (t : Table) → table_at tables row ≡ Some t → OneRow tables (set_time row seconds sub tables) row (Some (record t { seconds = seconds; sub = sub }))
time_row tables row seconds sub t there = rw there (set_row tables row t (record t { seconds = seconds; sub = sub }) there)

-- one change of a row after another
pub then_row : (old mid new : Tables) (row : ℕ) (found last : Option Table) → OneRow old mid row found → OneRow mid new row last → OneRow old new row last
then_row old mid new row found last first second = record { here = second.here; others = λ k other. second.others k other ∙ first.others k other }
