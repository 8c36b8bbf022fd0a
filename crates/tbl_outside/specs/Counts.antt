-- Counts of what went wrong outside.
use Rattle.std.specs.Prelude.{◌≡◌, ◌⊎◌, ℕ, ◌+◌, ◌-◌, ◌^◌, ◌<◌, ◌≤◌, min}
use Rattle.tbl_outside.specs.declared.bank.Written.{Written}
use Rattle.tbl_outside.specs.declared.bank.Written.TheVariants.{Done, Failed, Stopped}

-- the count rose, or stands at the top of a u64, where it can't rise
abbrev pub Rose : ℕ → ℕ → Type 0
Rose before now = before < now ⊎ now ≡ 2 ^ 64 - 1

-- a count rose by so many at least, or stands at the top of a u64, where it can't rise
abbrev pub RoseBy : ℕ → ℕ → ℕ → Type 0
RoseBy many before now = before + many ≤ now ⊎ 2 ^ 64 - 1 ≤ now

-- one more, up to the top of a u64
abbrev pub risen : ℕ → ℕ
risen count = min (count + 1) (2 ^ 64 - 1)

-- neither count moved
abbrev pub Still : {B : Type 0} → (B → ℕ) → (B → ℕ) → B → B → Type 0
Still faults stops old new = (faults new ≡ faults old) × (stops new ≡ stops old)

-- the one count rose, and the other didn't move
abbrev pub RoseAlone : {B : Type 0} → (B → ℕ) → (B → ℕ) → B → B → Type 0
RoseAlone this other old new = Rose (this old) (this new) × (other new ≡ other old)

-- what a write counts, by how it ended: nothing, a fault alone, or a stop alone
abbrev pub Counted : {B : Type 0} → (B → ℕ) → (B → ℕ) → B → B → Written → Type 0
Counted faults stops old new Done = Still faults stops old new
Counted faults stops old new Failed = RoseAlone faults stops old new
Counted faults stops old new Stopped = RoseAlone stops faults old new
