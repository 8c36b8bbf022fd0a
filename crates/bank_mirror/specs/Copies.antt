-- The copy of the good one of two banks over the other, which an opening makes.
use Rattle.std.specs.Prelude.{◌≡◌, ℕ, take, Ok, OnErr, IfOk, Result}
use Rattle.tbl_outside.specs.declared.bank.Bank.{Ghosts}
use Rattle.tbl_outside.specs.declared.bank.Written.{Written}
use Rattle.tbl_outside.specs.declared.bank.Written.TheVariants.{Done}
use Rattle.bank_mirror.specs.declared.in_use.Alone.{Alone}
use Rattle.bank_mirror.specs.declared.in_use.Alone.TheVariants.{First, Second}
use Rattle.bank_mirror.specs.Pairs.{Pair, BothTell, shown_by}
use Rattle.bank_mirror.specs.Counts.{GoodFailed, CopyBroke}
use Rattle.bank_mirror.specs.LastCalls.{LastReadFailed}
use Rattle.bank_mirror.specs.BanksInUse.{IsHeld, in_use_alone}
use Rattle.bank_mirror.specs.Kept.{HoldsOnly}

module _ {A B : Type 0} (a : Ghosts A) (b : Ghosts B) where
  -- both hold the same, up to a place
  abbrev pub SameUpTo : ℕ → Pair A B → Type 0
  SameUpTo at pair = BothTell a b → take at (b.now pair.second) ≡ take at (a.now pair.first)

  -- the good one's bytes stay
  abbrev pub KeepsGood : Alone → Pair A B → Pair A B → Type 0
  KeepsGood First old new = BothTell a b → a.now new.first ≡ a.now old.first
  KeepsGood Second old new = BothTell a b → b.now new.second ≡ b.now old.second

  -- what a copy leaves, done or not: the good one, by what the mark says
  pub record Copies (good : Alone) (old new : Pair A B) : Type 0 where
    pub kept : KeepsGood good old new
    pub held : IsHeld a b (in_use_alone good) new
    pub holds : HoldsOnly a b old new (λ image. image ≡ shown_by a b good old)

  -- and how it ends: a write of the other one broke off, or a read of the good one failed
  pub record EndsCopy {E : Type 0} (good : Alone) (old new : Pair A B) (result : Result Written E) : Type 0 where
    pub broke : IfOk result (CopyBroke a b good (old.first, old.second) new)
    pub unread : OnErr result (GoodFailed a b good (old.first, old.second) new)
    pub last : OnErr result (LastReadFailed a b new)

  -- all of it, up to a place: both hold the same if it is done
  pub record CopiesTo {E : Type 0} (good : Alone) (at : ℕ) (old new : Pair A B) (result : Result Written E) : Type 0 where
    pub done : result ≡ Ok Done → SameUpTo at new
    pub copies : Copies good old new
    pub ends : EndsCopy good old new result
