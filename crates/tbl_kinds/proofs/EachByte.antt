-- What is true of all bytes, where each is looked at.
use Rattle.std.proofs.Common.{◌≡◌, ℕ, Bool, ◌&&◌, List, [], ◌∷◌, ◌++◌, sym, ◌∙◌}
use Rattle.std.proofs.lemmas.List.Folds.{list_all-append}
use Rattle.std.proofs.Math.Bool.{and-true}
use Rattle.std.specs.List.{list_all}

pub one_more : (passes : ℕ → Bool) (bytes : List ℕ) (byte : ℕ) (so_far result : Bool) →
    so_far ≡ list_all passes bytes → result ≡ (so_far && passes byte) → result ≡ list_all passes (bytes ++ byte ∷ [])
one_more passes bytes byte so_far result all also =
    also
    ∙ (λ i. all i && sym (and-true (passes byte)) i)
    ∙ sym (list_all-append passes bytes (byte ∷ []))
