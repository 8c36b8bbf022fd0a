-- The images that a table has.
use Rattle.std.specs.Prelude.{ℕ, List, Bool, Option, Some, None, if◌then◌else◌}
use Rattle.buffer_pairs.specs.declared.buffers.Kept.{Kept}
use Rattle.buffer_pairs.specs.declared.buffers.Kept.TheVariants.{Nothing, Last, Before, Own}

-- whether it has two buffers, its last image, the one before that, and one that is kept whatever comes
pub record Images : Type 0 where
  pub double : Bool
  pub last : Option (List ℕ)
  pub before : Option (List ℕ)
  pub kept : Option (List ℕ)

-- a table with a first image, or with none
abbrev pub at_first : Option (List ℕ) → Bool → Images
at_first first double = record { double = double; last = first; before = None; kept = None }

-- an image becomes the last, and of two buffers one keeps the image that was the last
abbrev pub with_last : List ℕ → Images → Images
with_last image images = record images {
  last = Some image;
  before = if images.double then images.last else None;
}

-- the image before the last is gone
abbrev pub without_before : Images → Images
without_before images = record images { before = None }

-- the last image is kept from now on
abbrev pub keeping_last : Images → Images
keeping_last images = record images { kept = images.last }

-- none is kept any more
abbrev pub keeping_none : Images → Images
keeping_none images = record images { kept = None }

-- which image is kept, by its place
abbrev pub kept_of : Kept → Option (List ℕ) → Option (List ℕ) → Option (List ℕ)
kept_of Nothing last before = None
kept_of Last last before = last
kept_of Before last before = before
kept_of (Own image) last before = Some image
