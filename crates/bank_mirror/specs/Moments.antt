-- What a reset may leave of two banks: at each moment at most one is being written, and the other is as it stands.
use Rattle.std.specs.Prelude.{◌≡◌, ◌⊎◌, ℕ, List, ◌∷◌, [], length, drop}
use Rattle.tbl_outside.specs.declared.bank.Bank.{Ghosts}
use Rattle.tbl_outside.specs.Bank.{LeavesOnly}
use Rattle.bank_mirror.specs.Pairs.{Pair, pair_of}

-- one of these images of the first, beside the second; and one of the second, beside the first
abbrev pub OfFirst : (List ℕ → Type 0) → List ℕ → List ℕ → Type 0
OfFirst IsFirst second image = (x : List ℕ) × IsFirst x × (image ≡ pair_of x second)

abbrev pub OfSecond : List ℕ → (List ℕ → Type 0) → List ℕ → Type 0
OfSecond first IsSecond image = (y : List ℕ) × IsSecond y × (image ≡ pair_of first y)

-- the head of a list, or what stands after its end
abbrev pub first_of : {X : Type 0} → List X → X → X
first_of [] last = last
first_of (x ∷ rest) last = x

-- how many calls were made
abbrev pub moment : {A B : Type 0} → Pair A B → ℕ
moment pair = length pair.past

module _ {A B : Type 0} (a : Ghosts A) (b : Ghosts B) where
  -- one of them was called, and a reset meanwhile left this: an image of that one, beside the other as it stood
  abbrev pub InStep : A × B → A × B → List ℕ → Type 0
  InStep was is image = OfFirst (a.left_since is.0 (a.clock was.0)) (b.now was.1) image ⊎ OfSecond (a.now was.0) (b.left_since is.1 (b.clock was.1)) image

  -- so did one in some of these calls, the last of which led to what they are
  abbrev pub From : List (A × B) → A × B → List ℕ → Type 0
  From [] last image = ⊥
  From (was ∷ rest) last image = InStep was (first_of rest last) image ⊎ From rest last image

  -- between two calls: an image of each
  abbrev pub MayLeave : Pair A B → List ℕ → Type 0
  MayLeave pair image = (x : List ℕ) × (y : List ℕ) × a.may_leave pair.first x × b.may_leave pair.second y × (image ≡ pair_of x y)

  -- since a moment: between two calls now, or in a call since
  abbrev pub LeftSince : Pair A B → ℕ → List ℕ → Type 0
  LeftSince pair t image = MayLeave pair image ⊎ From (drop t pair.past) (pair.first, pair.second) image

  -- from one moment to another, only such images are left
  abbrev pub Leaves : Pair A B → Pair A B → (List ℕ → Type 0) → Type 0
  Leaves old new IsSuch = LeavesOnly moment LeftSince old new IsSuch
