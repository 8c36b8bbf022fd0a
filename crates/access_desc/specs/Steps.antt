-- What a handle becomes, and what a list of places becomes when one handle changes.
use Rattle.std.specs.Prelude.{ℕ, List, Bool, true, false, ◌==◌, ◌&&◌, if◌then◌else◌, Option, Some, None, slice_set, slice_index_or}
use Rattle.std.specs.Option.{option_map, option_map_or}
use Rattle.access_desc.specs.declared.handle_view.HandleView.{HandleView}

-- ---- places

-- what is at a place: nothing past the end
abbrev pub at_place : {X : Type 0} → List (Option X) → ℕ → Option X
at_place places n = slice_index_or places n None

-- what is at one place is changed
abbrev pub changed_at : {X : Type 0} → (X → X) → List (Option X) → ℕ → List (Option X)
changed_at change places n = slice_set places n (option_map change (at_place places n))

-- a place is freed
abbrev pub nothing : {X : Type 0} → Option X → Option X
nothing place = None

-- something is there, and it passes
abbrev pub has : {X : Type 0} → (X → Bool) → Option X → Bool
has test place = option_map_or test place false

-- ---- a handle

-- as it is given: nothing pinned, and no image known
abbrev pub new_handle : ℕ → ℕ → HandleView
new_handle app row = record { app = app; row = Some row; pinned = false; old = false; told = 0 }

-- it is a handle of the table in this row
abbrev pub is_of : ℕ → HandleView → Bool
is_of row handle = option_map_or (λ r. r == row) handle.row false

-- it pins an image of that table
abbrev pub pins : ℕ → HandleView → Bool
pins row handle = is_of row handle && handle.pinned

-- the image that it pins isn't the last
abbrev pub pins_old : ℕ → HandleView → Bool
pins_old row handle = pins row handle && handle.old

-- from now on it pins the last image
abbrev pub with_pin : HandleView → HandleView
with_pin handle = record handle { pinned = true; old = false }

-- from now on it pins nothing
abbrev pub with_no_pin : HandleView → HandleView
with_no_pin handle = record handle { pinned = false; old = false }

-- it knows of so many images
abbrev pub with_told : ℕ → HandleView → HandleView
with_told count handle = record handle { told = count }

-- after a new image of that table, what it pins is the image before
abbrev pub after_new_image : ℕ → HandleView → HandleView
after_new_image row handle = if pins row handle then record handle { old = true } else handle

-- after the end of that table, it has no table and pins nothing
abbrev pub after_end : ℕ → HandleView → HandleView
after_end row handle = if is_of row handle then record handle { row = None; pinned = false; old = false } else handle
