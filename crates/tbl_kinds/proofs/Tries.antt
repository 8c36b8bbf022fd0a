-- What is known of a block once a copy into it broke off, and what a restore of it may give then.
use Rattle.std.proofs.Common.{◌≡◌, inl, inr, ℕ, List, [], ◌∷◌, ◌++◌, Bool, true, false, Option, Some, refl}
use Rattle.tbl_kinds.specs.Blocks.{Stored}
use Rattle.tbl_kinds.specs.StoreSteps.{IsHeldOrTried, MayGive, tried, with_try}

pub tried_block : (gate : Bool) (image : List ℕ) (b : Stored) → (tried gate image b).block ≡ b.block
tried_block true image b = refl
tried_block false image b = refl

pub tried_doubtful : (gate : Bool) (image : List ℕ) (b : Stored) → (tried gate image b).doubtful ≡ b.doubtful
tried_doubtful true image b = refl
tried_doubtful false image b = refl

-- what it could give before, it can give still
more_give : (images : List (List ℕ)) (image : List ℕ) (held given : Option (List ℕ)) → IsHeldOrTried images held given → IsHeldOrTried (images ++ image ∷ []) held given
more_give [] image held given gives = inr gives
more_give (first ∷ images) image held given (inl is) = inl is
more_give (first ∷ images) image held given (inr gives) = inr (more_give images image held given gives)

pub still_gives : (b : Stored) (image : List ℕ) (given : Option (List ℕ)) → MayGive b given → MayGive (with_try image b) given
still_gives b image given gives = more_give b.trying image b.held given gives

-- and the image whose copy broke off
last_gives : (images : List (List ℕ)) (image : List ℕ) (held given : Option (List ℕ)) → given ≡ Some image → IsHeldOrTried (images ++ image ∷ []) held given
last_gives [] image held given is = inl is
last_gives (first ∷ images) image held given is = inr (last_gives images image held given is)

pub try_gives : (b : Stored) (image : List ℕ) (given : Option (List ℕ)) → given ≡ Some image → MayGive (with_try image b) given
try_gives b image given is = last_gives b.trying image b.held given is

-- where no copy broke off since, what it holds
pub sure_gives : (b : Stored) (given : Option (List ℕ)) → b.trying ≡ [] → MayGive b given → given ≡ b.held
sure_gives b given none gives = by b.trying none gives where
  by : (images : List (List ℕ)) → images ≡ [] → IsHeldOrTried images b.held given → given ≡ b.held
  by [] none gives = gives
  by (image ∷ images) none gives = absurd (cc none)
