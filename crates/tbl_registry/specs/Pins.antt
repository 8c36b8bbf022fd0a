-- What handles and their pins hold to.
use Rattle.std.specs.Prelude.{◌≡◌, ℕ, ◌<◌, List, Bool, true, slice_index_or, Option, None, Some, IsSome}
use Rattle.std.specs.Option.{ForSome}
use Rattle.tbl_model.specs.State.{Load, Table}
use Rattle.access_desc.specs.Steps.{at_place}
use Rattle.access_desc.specs.declared.handle_view.HandleView.{HandleView}

-- P of what is at each place
abbrev pub AtEachPlace : {X : Type 0} → (X → Type 0) → List (Option X) → Type 0
AtEachPlace P places = (n : ℕ) → ForSome (slice_index_or places n None) P

-- a table with so many images, this image before the last and this load has an image for a pin of the last one, or of the old one before
-- it. While a pin of the old one lasts no load is open. A table with a single buffer has no image before the last, so its pins are of the
-- last one
pub record IsPinned (count : ℕ) (before : Option (List ℕ)) (load : Option Load) (old : Bool) : Type 0 where
  pub loaded : 0 < count
  pub kept : old ≡ true → IsSome before
  pub closed : old ≡ true → load ≡ None

abbrev pub Pins : Table → Bool → Type 0
Pins t old = IsPinned t.count t.before t.load old

-- a handle's row has a table, which has the image that the handle pins
pub record Leads (rows : List (Option Table)) (h : HandleView) : Type 0 where
  pub table : ForSome h.row (λ row. IsSome (slice_index_or rows row None))
  pub pins : h.pinned ≡ true → ForSome h.row (λ row. ForSome (slice_index_or rows row None) (λ t. Pins t h.old))

-- a handle, its row and its table
pub record Leading (rows : List (Option Table)) (handles : List (Option HandleView)) (n : ℕ) (h : HandleView) (row : ℕ) (t : Table) : Type 0 where
  pub place : at_place handles n ≡ Some h
  pub row_is : h.row ≡ Some row
  pub table : slice_index_or rows row None ≡ Some t
