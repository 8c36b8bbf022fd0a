-- What is kept of the pins of each row, and when it is true of the handles.
use Rattle.std.specs.Prelude.{◌≡◌, ℕ, ◌+◌, ◌-◌, ◌<◌, ◌==◌, ◌||◌, nat_lt, List, Bool, false, if◌then◌else◌, Option, length, count_by, slice_index_or}
use Rattle.std.specs.Option.{option_map_or}
use Rattle.access_desc.specs.declared.handle_view.HandleView.{HandleView}
use Rattle.access_desc.specs.declared.row_pins.RowPins.{RowPins}
use Rattle.access_desc.specs.Steps.{at_place, has, pins}

-- it is this row
abbrev pub is_at : ℕ → Option ℕ → Bool
is_at row place = option_map_or (λ r. r == row) place false

-- ---- one row

abbrev pub no_pins : RowPins
no_pins = record { count = 0; start = 0 }

-- one handle more pins an image of the row's table
abbrev pub one_more : ℕ → RowPins → RowPins
one_more handle kept = record { count = kept.count + 1; start = if (kept.count == 0 || nat_lt handle kept.start) then handle else kept.start }

-- one handle less does
abbrev pub one_less : RowPins → RowPins
one_less kept = record { count = kept.count - 1; start = kept.start }

-- so many handles pin an image of the row's table, and none before the start
pub record ArePinsOf (row : ℕ) (places : List (Option HandleView)) (kept : RowPins) : Type 0 where
  pub counted : kept.count ≡ count_by (has (pins row)) places
  pub none_before : (n : ℕ) → n < kept.start → has (pins row) (at_place places n) ≡ false

-- ---- all rows

abbrev pub row_at : List RowPins → ℕ → RowPins
row_at rows row = slice_index_or rows row no_pins

-- 256 places, and what is kept of the pins of each row
pub record AreKept (places : List (Option HandleView)) (rows : List RowPins) : Type 0 where
  pub all_places : length places ≡ 256
  pub all_rows : length rows ≡ 256
  pub each : (row : ℕ) → row < 256 → ArePinsOf row places (row_at rows row)
