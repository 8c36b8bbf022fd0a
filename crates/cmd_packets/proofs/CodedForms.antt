-- The form of a function code, as a reader knows it: the length that it wants, and what it reads.
use Rattle.std.proofs.Common.{◌≡◌, ℕ, List, length, Option, Some, None, refl, sym, eq-eqb}
use Rattle.std.specs.Option.{option_map}
use Rattle.tbl_kinds.specs.GroundCommands.{GroundCommand, Form, with_names, by_code}

some_is : {A : Type 0} (a b : A) → Some a ≡ Some b → a ≡ b
some_is a b e = cc

-- where the payload has the length that is wanted, the names of what is read are tested
pub of_length : (code : ℕ) (form : Option Form) (payload : List ℕ) (command : GroundCommand) → option_map (λ f. f.len) form ≡ Some (length payload) → option_map (λ f. f.reads payload) form ≡ Some command
    → by_code code form payload ≡ with_names command
of_length code None payload command len reads = absurd cc
of_length code (Some form) payload command len reads =
    let len-is : length payload ≡ form.len = sym (some_is form.len (length payload) len) in
    let reads-is : form.reads payload ≡ command = some_is (form.reads payload) command reads in
    rw (eq-eqb _ _ len-is, reads-is) refl
