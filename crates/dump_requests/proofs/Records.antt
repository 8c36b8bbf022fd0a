-- The records of the rows that are left.
use Rattle.std.proofs.Common.{◌≡◌, ◌<◌, ◌+◌, ℕ, List, ◌++◌, length, drop, count_by, slice_index_or, Option, None, is_some, cond, ◌∙◌}
use Rattle.std.specs.List.{flat_map}
use Rattle.std.proofs.lemmas.List.{at_drop_more}
use Rattle.std.proofs.lemmas.List.Sums.{sum_by-drop_more}
use Rattle.std.proofs.lemmas.List.Concat.{flat_map-cons}
use Rattle.tbl_model.specs.State.{Table}
use Rattle.tbl_model.specs.Dumps.{record_of}

module _ (rows : List (Option Table)) (row : ℕ) (within : row < length rows) where
  pub records_left : flat_map record_of (drop row rows) ≡ record_of (slice_index_or rows row None) ++ flat_map record_of (drop (row + 1) rows)
  records_left = at_drop_more (flat_map record_of) rows row None within ∙ flat_map-cons record_of (slice_index_or rows row None) (drop (row + 1) rows)

  pub tables_left : count_by is_some (drop row rows) ≡ cond (is_some (slice_index_or rows row None)) 1 0 + count_by is_some (drop (row + 1) rows)
  tables_left = sum_by-drop_more (λ (t : Option Table). cond (is_some t) 1 0) rows row None within
