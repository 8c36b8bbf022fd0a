-- A value that is there exactly where a test holds, and what follows from it.
use Rattle.std.proofs.Common.{◌≡◌, Bool, true, Option, Some, None, is_some, IfSome, sym, ap, subst}

-- where a property of the value follows from the test, what is there has it
pub if_there : {X : Type 0} (result : Option X) (test : Bool) (value : X) (P : X → Type 0) → is_some result ≡ test → IfSome result (λ x. x ≡ value) → (test ≡ true → P value) → IfSome result P
if_there None test value P is value-is holds = tt
if_there (Some x) test value P is value-is holds = subst P (sym value-is) (holds (sym is))

-- where the test holds, the value is there
pub is_there : {X : Type 0} (result : Option X) (value : X) → is_some result ≡ true → IfSome result (λ x. x ≡ value) → result ≡ Some value
is_there None value is value-is = absurd cc
is_there {X} (Some x) value is value-is = ap (λ (y : X). Some y) value-is
