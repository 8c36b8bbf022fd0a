-- The call of two banks that was made last.
use Rattle.std.specs.Prelude.{◌≡◌, ◌⊎◌, ℕ, List, [], ◌∷◌, ◌++◌}
use Rattle.tbl_outside.specs.declared.bank.Bank.{Ghosts}
use Rattle.tbl_outside.specs.BankCalls.{read}
use Rattle.tbl_outside.specs.Counts.{Rose}
use Rattle.bank_mirror.specs.Pairs.{Pair}

-- where the bank tells its calls, it got a read since, and nothing else
abbrev pub WasRead : {A : Type 0} → Ghosts A → A → A → Type 0
WasRead a was now = a.tells_calls now → (at : ℕ) × (count : ℕ) × (a.calls now ≡ read at count ∷ a.calls was)

module _ {A B : Type 0} (a : Ghosts A) (b : Ghosts B) where
  -- since then a read of the first failed, or one of the second, and nothing else was done
  abbrev pub FirstReadFailed : A × B → Pair A B → Type 0
  FirstReadFailed was pair = Rose (a.faults was.0) (a.faults pair.first) × WasRead a was.0 pair.first × (pair.second ≡ was.1)

  abbrev pub SecondReadFailed : A × B → Pair A B → Type 0
  SecondReadFailed was pair = Rose (b.faults was.1) (b.faults pair.second) × WasRead b was.1 pair.second × (pair.first ≡ was.0)

  -- the last call of all was a read, and it failed
  pub record LastReadFailed (pair : Pair A B) : Type 0 where
    pub before : List (A × B)
    pub was : A × B
    pub last : pair.past ≡ before ++ was ∷ []
    pub failed : FirstReadFailed was pair ⊎ SecondReadFailed was pair
