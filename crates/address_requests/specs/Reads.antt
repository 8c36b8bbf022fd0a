-- Bytes of a pinned image that were taken before they are read.
use Rattle.std.specs.Prelude.{◌≡◌, ℕ, List, Ok}
use Rattle.tbl_model.specs.State.{Tables}
use Rattle.tbl_model.specs.AddressSteps.{read}

-- a read gives these bytes
abbrev pub Reads : ℕ → ℕ → ℕ → Tables → List ℕ → Type 0
Reads handle offset len tables bytes = read handle offset len tables ≡ Ok bytes

-- they are what a read gives, if it gives any
abbrev pub AreRead : ℕ → ℕ → ℕ → Tables → List ℕ → Type 0
AreRead handle offset len tables slice = (bytes : List ℕ) → Reads handle offset len tables bytes → slice ≡ bytes
