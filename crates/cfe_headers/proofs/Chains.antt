-- The tests of a reader, one after the other, and what is known where they all passed.
use Rattle.std.proofs.Common.{◌≡◌, Bool, true, false, not, cond, Option, Some, None, refl}

-- a test that found no flaw, and the tests after it
pub passed : {A : Type 0} (b : Bool) (flaw : A) (rest : Option A) → cond b (Some flaw) rest ≡ None → (b ≡ false) × (rest ≡ None)
passed true flaw rest e = absurd cc
passed false flaw rest e = (refl, e)

pub not_false : (b : Bool) → not b ≡ false → b ≡ true
not_false true e = refl
not_false false e = absurd cc
