-- Lists that are parted at a byte.
use Rattle.std.specs.Prelude.{◌≡◌, ◌≢◌, ℕ, List, ◌∷◌, ◌++◌}
use Rattle.std.specs.List.{AllByRecursion}

abbrev pub Lacks : ℕ → List ℕ → Type 0
Lacks byte bytes = AllByRecursion (λ b. b ≢ byte) bytes

-- the bytes are parted at the first byte of this kind
pub record IsSplit (byte : ℕ) (bytes front after : List ℕ) : Type 0 where
  pub parts : bytes ≡ front ++ byte ∷ after
  pub first : Lacks byte front
