-- What the shipped functions answer.
use Rattle.std.specs.Prelude.{ℕ, ℤ, List}
use Rattle.shipped_kit.specs.Validators.{first_byte, last_xor}
use Rattle.shipped_kit.specs.declared.functions.Shipped.{Shipped}
use Rattle.shipped_kit.specs.declared.functions.Shipped.TheVariants.{First, Last}

abbrev pub verdict_of : Shipped → List ℕ → ℤ
verdict_of (First function) image = first_byte image
verdict_of (Last function) image = last_xor image

-- how often one was asked
abbrev pub asked_of : Shipped → ℕ
asked_of (First function) = function.asked
asked_of (Last function) = function.asked
