-- Fields of a layout, as readers see them.
use Rattle.std.specs.Prelude.{◌≡◌, ℕ, ◌<◌, List, length, slice_index}
use Rattle.tbl_kinds.specs.Names.{name_in}

-- each is a byte
abbrev pub AreBytes : List ℕ → Type 0
AreBytes bytes = (i : ℕ) → slice_index bytes i < 256

-- a field of this width that reads as this name, whatever stands after the name's zero
pub record ReadsAs (width : ℕ) (name field : List ℕ) : Type 0 where
  pub len : length field ≡ width
  pub reads : name_in field ≡ name
