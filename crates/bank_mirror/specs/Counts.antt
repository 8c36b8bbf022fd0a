-- What went wrong in two banks, in a call and since they were opened as one.
use Rattle.std.specs.Prelude.{◌≡◌, ◌⊎◌, ℕ, ◌+◌, ◌-◌, ◌^◌, ◌≤◌, Bool, true, min}
use Rattle.tbl_outside.specs.declared.bank.Bank.{Ghosts}
use Rattle.tbl_outside.specs.declared.bank.Written.{Written}
use Rattle.tbl_outside.specs.declared.bank.Written.TheVariants.{Done, Failed, Stopped}
use Rattle.tbl_outside.specs.Counts.{Rose, Still}
use Rattle.bank_mirror.specs.declared.in_use.Alone.{Alone}
use Rattle.bank_mirror.specs.declared.in_use.Alone.TheVariants.{First, Second}
use Rattle.bank_mirror.specs.Pairs.{Pair}
use Rattle.bank_mirror.specs.Moments.{first_of}

-- both banks as the opening began
abbrev pub opening_of : {A B : Type 0} → Pair A B → A × B
opening_of pair = first_of pair.past (pair.first, pair.second)

module _ {A B : Type 0} (a : Ghosts A) (b : Ghosts B) where
  -- the stops of both, up to the top of a u64
  abbrev pub stops_of : Pair A B → ℕ
  stops_of pair = min (a.stops pair.first + b.stops pair.second) (2 ^ 64 - 1)

  -- what rose from one moment to another
  abbrev pub FirstFailed : A × B → Pair A B → Type 0
  FirstFailed was pair = Rose (a.faults was.0) (a.faults pair.first)

  abbrev pub SecondFailed : A × B → Pair A B → Type 0
  SecondFailed was pair = Rose (b.faults was.1) (b.faults pair.second)

  -- both failed, and one of them did
  abbrev pub BothFailed : A × B → Pair A B → Type 0
  BothFailed was pair = FirstFailed was pair × SecondFailed was pair

  abbrev pub OneFailed : A × B → Pair A B → Type 0
  OneFailed was pair = FirstFailed was pair ⊎ SecondFailed was pair

  -- the good one failed
  abbrev pub GoodFailed : Alone → A × B → Pair A B → Type 0
  GoodFailed First was pair = FirstFailed was pair
  GoodFailed Second was pair = SecondFailed was pair

  abbrev pub OneStopped : A × B → Pair A B → Type 0
  OneStopped was pair = Rose (a.stops was.0) (a.stops pair.first) ⊎ Rose (b.stops was.1) (b.stops pair.second)

  -- neither was stopped
  abbrev pub SameStops : A × B → Pair A B → Type 0
  SameStops was pair = (a.stops pair.first ≡ a.stops was.0) × (b.stops pair.second ≡ b.stops was.1)

  -- neither failed nor was stopped
  abbrev pub BothStill : A × B → Pair A B → Type 0
  BothStill was pair = Still a.faults a.stops was.0 pair.first × Still b.faults b.stops was.1 pair.second

  -- no count fell
  pub record IsSince (was : A × B) (pair : Pair A B) : Type 0 where
    pub first_faults : a.faults was.0 ≤ a.faults pair.first
    pub first_stops : a.stops was.0 ≤ a.stops pair.first
    pub second_faults : b.faults was.1 ≤ b.faults pair.second
    pub second_stops : b.stops was.1 ≤ b.stops pair.second

  -- from one moment to a later one: the sizes stay, no count falls, and it is the same opening
  pub record GoesOn (old new : Pair A B) : Type 0 where
    pub first_size : a.size new.first ≡ a.size old.first
    pub second_size : b.size new.second ≡ b.size old.second
    pub counts : IsSince (old.first, old.second) new
    pub same_opening : opening_of new ≡ opening_of old

  -- why a call of the pair may fail: both failed since the opening, or one failed and one was stopped, or the opening's
  -- write of the mark failed
  abbrev pub MayFail : Bool → A × B → Pair A B → Type 0
  MayFail mark_failed opening pair =
      BothFailed opening pair
      ⊎ (OneFailed opening pair × OneStopped opening pair)
      ⊎ (mark_failed ≡ true)

  -- what rose in a call that answers so
  abbrev pub WriteCounted : A × B → Pair A B → Written → Type 0
  WriteCounted was pair Done = SameStops was pair
  WriteCounted was pair Failed = OneFailed was pair × SameStops was pair
  WriteCounted was pair Stopped = OneStopped was pair

  -- what rose by a write of the other one, over which the good one is copied
  abbrev pub CopyBroke : Alone → A × B → Pair A B → Written → Type 0
  CopyBroke good was pair Done = Unit {0}
  CopyBroke First was pair Failed = SecondFailed was pair
  CopyBroke Second was pair Failed = FirstFailed was pair
  CopyBroke good was pair Stopped = OneStopped was pair
