-- The functions of the shipped program, by their numbers.
use Rattle.std.specs.Prelude.{ℕ, zero, suc, List, [], ◌∷◌, ◌++◌, ◌+◌, ◌/◌, ◌%◌, ◌==◌, if◌then◌else◌}
use Rattle.tbl_outside.specs.declared.validator.KitEntry.{KitEntry}
use Rattle.shipped_kit.specs.declared.functions.Shipped.{Shipped}
use Rattle.shipped_kit.specs.declared.functions.Shipped.TheVariants.{First, Last}

-- application a has 2a - 2 and 2a - 1. They weren't asked yet
abbrev pub shipped_at : ℕ → KitEntry Shipped
shipped_at number = record {
  app = number / 2 + 1;
  check = if number % 2 == 0 then First (record { asked = 0 }) else Last (record { asked = 0 });
}

-- those whose number is lower than this, in order
unfoldable pub shipped_below : ℕ → List (KitEntry Shipped)
shipped_below zero = []
shipped_below (suc number) = shipped_below number ++ shipped_at number ∷ []
