-- The least offset that passes is the first of a range that does.
use Rattle.std.proofs.Common.{◌≡◌, ℕ, zero, suc, ◌+◌, ◌-◌, ◌<◌, ◌≤◌, Bool, true, false, cond, List, [], ◌∷◌, Option, Some, None, refl, sym, ap, subst, ◌∙◌, inl, inr, arith}
use Rattle.std.specs.List.{find, range_with_len}
use Rattle.std.proofs.lemmas.Bool.{cases_lt}
use Rattle.tbl_kinds.specs.Places.{fits, place, blocks_end, blocks_begin}
use Rattle.tbl_kinds.specs.declared.block.Block.{Block}
use Rattle.cds_pool.proofs.Least.{IsLeast, fits_parts}

none_found : (test : ℕ → Bool) (xs : List ℕ) → ((at : ℕ) → test at ≡ false) → find test xs ≡ None
none_found test [] never = refl
none_found test (x ∷ xs) never = ap (λ b. cond b (Some x) (find test xs)) (never x) ∙ none_found test xs never

first_found : (test : ℕ → Bool) (count from at : ℕ) → from ≤ at → at < from + count → test at ≡ true → ((lower : ℕ) → lower < at → test lower ≡ false) → find test (range_with_len from count) ≡ Some at
first_found test zero from at le lt passes none = absurd (omega (arith, le, lt))
first_found test (suc count) from at le lt passes none =
    elim (cases_lt from at) [
      | inl below ↦ ap (λ b. cond b (Some from) (find test (range_with_len (from + 1) count))) (none from below) ∙ first_found test count (from + 1) at (omega (arith, below)) (omega (arith, lt)) passes none
      | inr ge ↦
          let same : at ≡ from = omega (arith, le, ge) in
          ap (λ b. cond b (Some from) (find test (range_with_len (from + 1) count))) (subst (λ x. test x ≡ true) same passes) ∙ ap Some (sym same)
    ]

module _ (test : ℕ → Bool) (from count : ℕ) (within : (at : ℕ) → test at ≡ true → (from ≤ at) × (at < from + count)) where
  pub least_found : (r : Option ℕ) → IsLeast test r → r ≡ find test (range_with_len from count)
  least_found None least = sym (none_found test (range_with_len from count) least.none)
  least_found (Some at) least = sym (first_found test count from at (within at least.found).0 (within at least.found).1 least.found least.least)

-- the range stays a variable: so none of its offsets is computed
place-is : (taken : List Block) (size from count : ℕ) → from ≡ blocks_begin → count ≡ blocks_end - blocks_begin → place taken size ≡ find (fits taken size) (range_with_len from count)
unfolding place
place-is taken size from count e f = λ i. find (fits taken size) (range_with_len (sym e i) (sym f i))

inside_range : (taken : List Block) (size from count at : ℕ) → from ≡ blocks_begin → count ≡ blocks_end - blocks_begin → fits taken size at ≡ true → (from ≤ at) × (at < from + count)
inside_range taken size from count at e f fit = let parts = fits_parts taken size at fit in (omega (arith, e, parts.0), omega (arith, e, f, parts.1))

least-place_at : (taken : List Block) (size from count : ℕ) → from ≡ blocks_begin → count ≡ blocks_end - blocks_begin → (r : Option ℕ) → IsLeast (fits taken size) r → r ≡ place taken size
least-place_at taken size from count e f r least =
    least_found (fits taken size) from count (λ at fit. inside_range taken size from count at e f fit) r least ∙ sym (place-is taken size from count e f)

pub least-place : (taken : List Block) (size : ℕ) (r : Option ℕ) → IsLeast (fits taken size) r → r ≡ place taken size
least-place taken size r least = least-place_at taken size blocks_begin (blocks_end - blocks_begin) refl refl r least
