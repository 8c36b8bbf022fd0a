-- The calls that a bank got, the newest first.
use Rattle.std.specs.Prelude.{◌≡◌, ◌⊎◌, ℕ, List, [], ◌∷◌, Bool, true, false}

-- a read of so many bytes from a place on, or a write of these bytes from there on
pub data BankCall : Type 0 where
  read : ℕ → ℕ → BankCall
  write : ℕ → List ℕ → BankCall

-- all of these calls were made, in their order
abbrev pub after_calls : List BankCall → List BankCall → List BankCall
after_calls [] past = past
after_calls (call ∷ calls) past = after_calls calls (call ∷ past)

-- one of them was the last that was made
abbrev pub BrokeOff : List BankCall → List BankCall → List BankCall → Type 0
BrokeOff [] past now = ⊥
BrokeOff (call ∷ calls) past now = (now ≡ call ∷ past) ⊎ BrokeOff calls (call ∷ past) now

-- what is done made all of these calls; what broke off made the first of them, up to the one that broke off
abbrev pub Makes : Bool → List BankCall → List BankCall → List BankCall → Type 0
Makes true calls past now = now ≡ after_calls calls past
Makes false calls past now = BrokeOff calls past now

-- where the bank tells its calls at the end, it told them before, and these were made
abbrev pub Asks : {B : Type 0} → (B → Type 0) → (B → List BankCall) → B → B → Bool → List BankCall → Type 0
Asks tells_calls calls_of old new done calls = tells_calls new → tells_calls old × Makes done calls (calls_of old) (calls_of new)
