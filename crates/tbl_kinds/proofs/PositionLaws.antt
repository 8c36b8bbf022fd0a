-- The first place of a list that passes a test.
use Rattle.std.proofs.Common.{◌≡◌, ℕ, ◌≤◌, List, [], ◌∷◌, length, map, position, slice_index_or, Bool, false, cond, nat_lt, Some, None, refl, inl, inr, arith}
use Rattle.std.specs.List.{position_or_len}
use Rattle.std.proofs.lemmas.Bool.{cases_lt}
use Rattle.std.proofs.lemmas.Bool.Decides.{nat_tests}
use Rattle.std.proofs.lemmas.List.{length-map, get_or_past}
use Rattle.std.proofs.lemmas.List.Sums.{fails_before_first}

position_or_len-map : {X Y : Type 0} (p : Y → Bool) (q : X → Bool) (f : X → Y) → ((x : X) → p (f x) ≡ q x) → (xs : List X) → position_or_len p (map f xs) ≡ position_or_len q xs
position_or_len-map p q f same [] = refl
position_or_len-map p q f same (x ∷ xs) = rw (same x, position_or_len-map p q f same xs) refl

-- of a list that is seen through a function
pub position-map : {X Y : Type 0} (p : Y → Bool) (q : X → Bool) (f : X → Y) → ((x : X) → p (f x) ≡ q x) → (xs : List X) → position p (map f xs) ≡ position q xs
position-map p q f same xs = rw (position_or_len-map p q f same xs, length-map xs f) refl

past_none : (n all : ℕ) → cond (nat_lt n all) (Some n) None ≡ None → all ≤ n
past_none n all none = grind (arith, nat_tests)

-- where there is no first, none passes, and none past the end
pub position-None : {X : Type 0} (p : X → Bool) (xs : List X) (k : ℕ) (d : X) → position p xs ≡ None → p d ≡ false → p (slice_index_or xs k d) ≡ false
position-None p xs k d none fails =
    let past : length xs ≤ position_or_len p xs = past_none (position_or_len p xs) (length xs) none in
    elim (cases_lt k (length xs)) [
      | inl within ↦ fails_before_first p xs k d (omega arith)
      | inr beyond ↦ rw (get_or_past xs k d beyond) fails
    ]
