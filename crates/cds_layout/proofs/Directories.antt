-- What directories hold, and what they depend on.
use Rattle.std.proofs.Common.{◌≡◌, ℕ, zero, suc, ◌+◌, Bool, true, false, cond, List, [], ◌∷◌, length, replicate, None, refl, sym, ap, ◌∙◌, add-one, length-append}
use Rattle.std.proofs.lemmas.List.{length-replicate}
use Rattle.cds_layout.specs.Entries.{slot_count}
use Rattle.cds_layout.specs.Directory.{is_live, stated, counted, directory_to, directory_of}

-- the directory by the number of its slots, which stays a variable: so none of the slots is computed
pub directory-is : (bytes : List ℕ) (n : ℕ) → n ≡ slot_count → directory_of bytes ≡ cond (is_live bytes) (directory_to bytes n) (replicate n None)
unfolding directory_of
directory-is bytes n e = ap (λ k. cond (is_live bytes) (directory_to bytes k) (replicate k None)) (sym e)

length-directory_to : (bytes : List ℕ) (n : ℕ) → length (directory_to bytes n) ≡ n
length-directory_to bytes zero = refl
length-directory_to bytes (suc n) =
    length-append (directory_to bytes n) (counted (directory_to bytes n) (stated bytes n) ∷ []) ∙ ap (λ (k : ℕ). k + 1) (length-directory_to bytes n) ∙ add-one n

length-by : (live : Bool) (bytes : List ℕ) (n : ℕ) → length (cond live (directory_to bytes n) (replicate n None)) ≡ n
length-by true bytes n = length-directory_to bytes n
length-by false bytes n = length-replicate n None

length-directory-at : (bytes : List ℕ) (n : ℕ) → n ≡ slot_count → length (directory_of bytes) ≡ n
length-directory-at bytes n e = ap length (directory-is bytes n e) ∙ length-by (is_live bytes) bytes n

pub length-directory_of : (bytes : List ℕ) → length (directory_of bytes) ≡ slot_count
length-directory_of bytes = length-directory-at bytes slot_count refl
