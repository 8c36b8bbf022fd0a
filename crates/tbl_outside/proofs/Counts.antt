-- Lemmas on counts that rise.
use Rattle.std.proofs.Common.{◌≡◌, inl, inr, ℕ, ◌-◌, ◌^◌, ◌≤◌, arith}
use Rattle.tbl_outside.specs.Counts.{Rose, risen}

-- what rose since a later moment rose since an earlier one
pub Rose-since : (a b c : ℕ) → a ≤ b → Rose b c → Rose a c
Rose-since a b c le (inl lt) = inl (omega arith)
Rose-since a b c le (inr top) = inr top

above_top : (a b c : ℕ) → a ≤ b → b ≤ c → b ≡ 2 ^ 64 - 1 → Rose a c
above_top a b c start le top = grind arith

-- what rose by an earlier moment rose by a later one
pub Rose-until : (a b c : ℕ) → a ≤ b → b ≤ c → Rose a b → Rose a c
Rose-until a b c start le (inl lt) = inl (omega arith)
Rose-until a b c start le (inr top) = above_top a b c start le top

pub Rose-risen : (n : ℕ) → Rose n (risen n)
Rose-risen n = grind arith

pub le-risen : (n : ℕ) → n ≤ 2 ^ 64 - 1 → n ≤ risen n
le-risen n bound = omega arith
