-- How many images the tables have had.
use Rattle.std.specs.Prelude.{ℕ, Option, None, Some, max, fold}
use Rattle.tbl_model.specs.State.{Table, Tables}

-- the table in a row, since it was registered
abbrev pub images_in : Option Table → ℕ
images_in None = 0
images_in (Some t) = t.count

-- the most that one of them has had
abbrev pub most_images : Tables → ℕ
most_images tables = fold (λ most row. max most (images_in row)) 0 tables.rows
