-- The application's name in a full name.
use Rattle.std.proofs.Common.{◌≡◌, ℕ, ◌<◌, ◌≤◌, List, ◌++◌, length, take, drop, replicate, Bool, false, position, Some, None, ap, sym, ◌∙◌, arith}
use Rattle.std.specs.List.{position_or_len}
use Rattle.std.proofs.lemmas.List.{get_or-take, length-take, drop-replicate}
use Rattle.std.proofs.lemmas.List.Quantifiers.{position-Some}
use Rattle.std.proofs.lemmas.List.Sums.{position_or_len_is, fails_before_first}
use Rattle.std.proofs.Math.Seq.{take-length}
use Rattle.tbl_kinds.specs.Names.{is_zero, name_in, name_field, HasNoZero}
use Rattle.tbl_kinds.proofs.PositionLaws.{position-None}

pub found_first : (p : ℕ → Bool) (xs : List ℕ) (n : ℕ) → position p xs ≡ Some n → n ≡ position_or_len p xs
found_first p xs n found =
    let first = position-Some p xs n 0 found in
    sym (position_or_len_is p xs n 0 (omega (arith, first.0)) first.2 (λ _. first.1))

pub none_first : (p : ℕ → Bool) (xs : List ℕ) → p 0 ≡ false → position p xs ≡ None → length xs ≡ position_or_len p xs
none_first p xs zero none = sym (position_or_len_is p xs (length xs) 0 (omega arith) (λ k h. position-None p xs k 0 none zero) (λ h. absurd (omega (arith, h))))

-- if no byte is zero, none of the first is
pub taken_no_zero : (n : ℕ) (xs : List ℕ) → HasNoZero xs → name_in (take n xs) ≡ take n xs
taken_no_zero n xs none =
    let long : length xs ≤ position_or_len is_zero xs = omega (arith, ap length none, length-take (position_or_len is_zero xs) xs) in
    let all : position_or_len is_zero (take n xs) ≡ length (take n xs) = position_or_len_is is_zero (take n xs) (length (take n xs)) 0 (omega arith)
    (λ k h.
    let lt : k < n = omega (arith, length-take n xs, h) in
    rw (get_or-take n xs k 0 lt) (fails_before_first is_zero xs k 0 (omega (arith, long, length-take n xs, h))))
    (λ h. absurd (omega (arith, h))) in
    ap (λ (k : ℕ). take k (take n xs)) all ∙ take-length (take n xs)

-- a name in front of zeros
pub in_field : (copied name owner : List ℕ) → copied ≡ name → name ≡ owner → copied ++ drop (length name) (replicate {A = ℕ} 20 0) ≡ name_field 20 owner
in_field copied name owner same is = rw (same, is) (ap (λ (zeros : List ℕ). owner ++ zeros) (drop-replicate {X = ℕ} (length owner) 20 0))
