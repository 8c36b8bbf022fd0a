-- What calls show of the table in a row, if there is one.
use Rattle.std.specs.Prelude.{◌≡◌, ◌≤◌, ℕ, List, Bool, length, replicate, is_some, option_and_then, Option, Some, IfSome, IfNone}
use Rattle.std.specs.Option.{ForSome, option_map}
use Rattle.std.specs.Borrow.{Bor}
use Rattle.tbl_kinds.specs.Check.{check16}
use Rattle.tbl_kinds.specs.Limits.{table_limit}
use Rattle.tbl_model.specs.State.{Load, Table, Tables}
use Rattle.tbl_model.specs.Tables.{table_at}
use Rattle.tbl_model.specs.TableSteps.{base, find}
use Rattle.tbl_model.specs.Validations.{judged_image}
use Rattle.tbl_registry.specs.Rows.{IsTable}
use Rattle.tbl_registry.specs.Views.{row_view, has_image, filled_image}
use Rattle.tbl_registry.specs.declared.row.RowView.{RowView}

-- its last image, or that of its open load
pub record ShowsImage (shown : Option (Bor (List ℕ))) (active : Bool) (o : Option Table) : Type 0 where
  pub image : IfSome shown (λ image. ForSome o (λ t. image.now ≡ judged_image t active))
  pub there : ForSome o (λ t. is_some shown ≡ has_image t active)
  pub size : IfSome shown (λ image. ForSome o (λ t. length image.now ≡ t.size))
  pub within : IfSome shown (λ image. length image.now ≤ table_limit)

-- an image of it, by where it has that
pub record ShowsPart (shown : Option (Bor (List ℕ))) (part : Table → Option (List ℕ)) (o : Option Table) : Type 0 where
  pub image : option_map (λ (image : Bor (List ℕ)). image.now) shown ≡ option_and_then part o
  pub size : IfSome shown (λ image. ForSome o (λ t. length image.now ≡ t.size))
  pub within : IfSome shown (λ image. length image.now ≤ table_limit)

abbrev pub last_of : Table → Option (List ℕ)
last_of t = t.last

abbrev pub loaded_of : Table → Option (List ℕ)
loaded_of t = option_map (λ (load : Load). load.image) t.load

-- the image of its filled dump
pub record ShowsFilled (shown : Option (Bor (List ℕ))) (o : Option Table) : Type 0 where
  pub image : option_map (λ (image : Bor (List ℕ)). image.now) shown ≡ option_and_then (λ (t : Table). filled_image t.dump) o
  pub size : IfSome shown (λ image. ForSome o (λ t. length image.now ≤ t.size))
  pub within : IfSome shown (λ image. length image.now ≤ table_limit)

-- the image that a load of it begins with, none for zeros
pub record ShowsBase (shown : Option (Bor (List ℕ))) (o : Option Table) : Type 0 where
  pub image : IfSome shown (λ image. ForSome o (λ t. image.now ≡ base t))
  pub size : IfSome shown (λ image. ForSome o (λ t. length image.now ≡ t.size))
  pub zeros : IfNone shown (ForSome o (λ t. base t ≡ replicate t.size 0))

-- the check word of one of its images, while nothing changes
pub record KeepsWord {X : Type 0} (shown : Option ℕ) (active : Bool) (o : Option Table) (old new : X) : Type 0 where
  pub word : IfSome shown (λ word. ForSome o (λ t. word ≡ check16 (judged_image t active)))
  pub there : ForSome o (λ t. is_some shown ≡ has_image t active)
  pub same : new ≡ old

-- what can be seen of it, under its name
pub record ShowsRow (shown : Option RowView) (row : ℕ) (tables : Tables) : Type 0 where
  pub view : shown ≡ option_map row_view (table_at tables row)
  pub table : ForSome (table_at tables row) IsTable
  pub named : ForSome (table_at tables row) (λ t. find t.name tables ≡ Some row)
