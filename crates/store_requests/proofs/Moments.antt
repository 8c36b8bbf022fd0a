-- What a reset inside the calls of a request leaves of the blocks: what one call may leave, two of them, or none.
use Rattle.std.proofs.Common.{◌≡◌, ℕ, List, [], ◌∷◌, sym, subst}
use Rattle.tbl_kinds.specs.Blocks.{Store as Blocks}
use Rattle.tbl_kinds.specs.StoreCalls.{StoreCall, after}
use Rattle.tbl_kinds.specs.StoreSteps.{Shows}
use Rattle.tbl_session.specs.Crashes.{DuringCalls}
use Rattle.tbl_outside.specs.Bank.{LeavesOnly}
use Rattle.tbl_outside.proofs.Moments.{started, goes_on, leaves_among}
use Rattle.cds_layout.specs.Images.{store_of}
use Rattle.cds_store.specs.Moments.{LeavesIn}
use Rattle.cds_store.specs.StoreBlocks.{StoreParts}
use Rattle.tbl_laws.proofs.Crashes.{before_calls, in_first_call, in_later_calls}
use Rattle.store_requests.specs.Called.{Leaving}
use Rattle.tbl_outside.specs.declared.bank.Bank.{Ghosts}

module _ {B : Type 0} (g : Ghosts B) where
  abbrev Only : StoreParts B → StoreParts B → (List ℕ → Type 0) → Type 0
  Only old new IsLeft = g.tells_moments → LeavesOnly g.clock g.left_since old.bank new.bank IsLeft

  pub one_leaves : (old new : StoreParts B) (call : StoreCall) (calls : List StoreCall) (blocks : Blocks) → Only old new (LeavesIn call blocks) → Leaving g old new (DuringCalls (call ∷ calls) blocks)
  one_leaves old new call calls blocks moments told = leaves_among (moments told) (λ image left. in_first_call call calls blocks (store_of image) left)

  pub two_leave : (old mid new : StoreParts B) (call next : StoreCall) (blocks : Blocks) → Only old mid (LeavesIn call blocks) → Only mid new (LeavesIn next (after call blocks))
      → Leaving g old new (DuringCalls (call ∷ next ∷ []) blocks)
  two_leave old mid new call next blocks first second told =
      goes_on (leaves_among (first told) (λ image left. in_first_call call (next ∷ []) blocks (store_of image) left)) (second told) (λ image left. in_later_calls call (next ∷ []) blocks (store_of image) (in_first_call next [] (after call blocks) (store_of image) left))

  -- a call that reads
  pub read_leaves : (old new : StoreParts B) (calls : List StoreCall) (blocks : Blocks) → Only old new (λ image. image ≡ g.now old.bank) → Shows blocks (store_of (g.now old.bank)) → Leaving g old new (DuringCalls calls blocks)
  read_leaves old new calls blocks moments shows told =
      leaves_among (moments told) (λ image same. before_calls calls blocks (store_of image) (subst (λ (bytes : List ℕ). Shows blocks (store_of bytes)) (sym same) shows))

  -- the bank's laws say that a reset leaves what it holds
  module _ (holds : (bank : B) (image : List ℕ) → g.tells_moments → g.may_leave bank image → image ≡ g.now bank) (only : (bank : B) (image : List ℕ) → g.tells_moments → g.left_since bank (g.clock bank) image → g.may_leave bank image) where
    pub unmoved : (old new : StoreParts B) (IsLeft : Blocks → Type 0) → new ≡ old → IsLeft (store_of (g.now old.bank)) → Leaving g old new IsLeft
    unmoved old new IsLeft same is told =
        subst (λ (kept : StoreParts B). LeavesOnly g.clock g.left_since old.bank kept.bank (λ image. IsLeft (store_of image))) (sym same)
        (started g.clock g.left_since old.bank (λ image. IsLeft (store_of image)) (λ image left. subst (λ (bytes : List ℕ). IsLeft (store_of bytes)) (sym (holds old.bank image told (only old.bank image told left))) is))

    -- so it does if no call was made
    pub uncalled_leaves : (old new : StoreParts B) (blocks : Blocks) → new ≡ old → Shows blocks (store_of (g.now old.bank)) → Leaving g old new (DuringCalls [] blocks)
    uncalled_leaves old new blocks same shows = unmoved old new (DuringCalls [] blocks) same (before_calls [] blocks (store_of (g.now old.bank)) shows)
