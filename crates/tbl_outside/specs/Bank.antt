-- What the calls of a bank do to its bytes, and what a reset may leave meanwhile.
use Rattle.std.specs.Prelude.{◌≡◌, ◌⊎◌, ℕ, ◌+◌, ◌≤◌, List, length, take, drop}

-- an image that is the old bytes but for so many from a place on, which are any bytes
pub record Torn (at count : ℕ) (old image : List ℕ) : Type 0 where
  pub before : take at image ≡ take at old
  pub behind : drop (at + count) image ≡ drop (at + count) old
  pub same_length : length image ≡ length old

-- From the old moment to the new one, a reset leaves only such images.
pub record LeavesOnly {B : Type 0} (clock : B → ℕ) (left_since : B → ℕ → List ℕ → Type 0) (old new : B) (IsSuch : List ℕ → Type 0) : Type 0 where
  pub later : clock old ≤ clock new
  pub each : (image : List ℕ) → left_since new (clock old) image → IsSuch image
  -- of what began earlier, nothing else is added, and nothing is forgotten
  pub adds_only : (t : ℕ) (image : List ℕ) → t ≤ clock old → left_since new t image → left_since old t image ⊎ IsSuch image
  pub keeps : (t : ℕ) (image : List ℕ) → t ≤ clock old → left_since old t image → left_since new t image
