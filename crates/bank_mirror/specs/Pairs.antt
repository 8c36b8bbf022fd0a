-- The bytes of two banks as one.
use Rattle.std.specs.Prelude.{◌≡◌, ◌⊎◌, ℕ, ◌==◌, Bool, if◌then◌else◌, List, length, take}
use Rattle.tbl_kinds.specs.Numbers.{byte_at}
use Rattle.tbl_outside.specs.declared.bank.Bank.{Ghosts}
use Rattle.bank_mirror.specs.declared.in_use.Alone.{Alone}
use Rattle.bank_mirror.specs.declared.in_use.Alone.TheVariants.{First, Second}

-- the byte of the second after the size of the first is the mark, and this is what it is where the first is stale
abbrev pub stale : ℕ
stale = 0x4C

abbrev pub is_stale : ℕ → List ℕ → Bool
is_stale size second = byte_at size second == stale

-- the bytes of both as one: those of the second where the mark says that the first is stale, else those of the first
abbrev pub pair_of : List ℕ → List ℕ → List ℕ
pair_of first second = if is_stale (length first) second then take (length first) second else first

-- both banks, and what they were before each call of one of them, the oldest first
pub record Pair (A B : Type 0) : Type 0 where
  pub first : A
  pub second : B
  pub past : List (A × B)

-- what they hold together
abbrev pub bytes_of : {A B : Type 0} → Ghosts A → Ghosts B → Pair A B → List ℕ
bytes_of a b pair = pair_of (a.now pair.first) (b.now pair.second)

-- whether both tell their bytes, and whether both tell their moments
abbrev pub BothTell : {A B : Type 0} → Ghosts A → Ghosts B → Type 0
BothTell a b = a.tells × b.tells

abbrev pub BothTellMoments : {A B : Type 0} → Ghosts A → Ghosts B → Type 0
BothTellMoments a b = a.tells_moments × b.tells_moments

-- what the second holds for the first, and whether the mark says that it has to be taken from there
abbrev pub front_of : {A B : Type 0} → Ghosts A → Ghosts B → Pair A B → List ℕ
front_of a b pair = take (length (a.now pair.first)) (b.now pair.second)

abbrev pub is_marked : {A B : Type 0} → Ghosts A → Ghosts B → Pair A B → Bool
is_marked a b pair = is_stale (length (a.now pair.first)) (b.now pair.second)

-- what the good one holds for both
abbrev pub bytes_alone : Alone → List ℕ → List ℕ → List ℕ
bytes_alone First first second = first
bytes_alone Second first second = take (length first) second

abbrev pub shown_by : {A B : Type 0} → Ghosts A → Ghosts B → Alone → Pair A B → List ℕ
shown_by a b good pair = bytes_alone good (a.now pair.first) (b.now pair.second)

-- neither bank's bytes changed
abbrev pub SameBytes : {A B : Type 0} → Ghosts A → Ghosts B → Pair A B → Pair A B → Type 0
SameBytes a b old new = BothTell a b → (a.now new.first ≡ a.now old.first) × (b.now new.second ≡ b.now old.second)

-- an image of both is what they held as one, or this
abbrev pub AsWas : {A B : Type 0} → Ghosts A → Ghosts B → A → B → List ℕ → List ℕ → Type 0
AsWas a b first second bytes image = (image ≡ pair_of (a.now first) (b.now second)) ⊎ (image ≡ bytes)
