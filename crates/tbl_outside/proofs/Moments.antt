-- How what a reset may leave goes on over several calls.
use Rattle.std.proofs.Common.{inl, inr, ⊎_elim, ℕ, List, arith}
use Rattle.tbl_outside.specs.Bank.{LeavesOnly}

-- before the first call
pub started : {B : Type 0} (clock : B → ℕ) (left_since : B → ℕ → List ℕ → Type 0) (bank : B) (IsSuch : List ℕ → Type 0)
    → ((image : List ℕ) → left_since bank (clock bank) image → IsSuch image)
    → LeavesOnly clock left_since bank bank IsSuch
started clock left_since bank IsSuch here = record {
  later = omega arith;
  each = here;
  adds_only = λ t image le left. inl left;
  keeps = λ t image le left. left;
}

-- one call more, which leaves only images that are among these
pub goes_on : {B : Type 0} {clock : B → ℕ} {left_since : B → ℕ → List ℕ → Type 0} {old mid new : B} {IsSuch IsNext : List ℕ → Type 0}
    → LeavesOnly clock left_since old mid IsSuch → LeavesOnly clock left_since mid new IsNext
    → ((image : List ℕ) → IsNext image → IsSuch image)
    → LeavesOnly clock left_since old new IsSuch
goes_on {clock = clock} {old = old} so_far call among = record {
  later = omega (arith, so_far.later, call.later);
  each = λ image left. ⊎_elim (so_far.each image) (among image) (call.adds_only (clock old) image so_far.later left);
  adds_only = λ t image le left. ⊎_elim (so_far.adds_only t image le) (λ next. inr (among image next)) (call.adds_only t image (omega (arith, le, so_far.later)) left);
  keeps = λ t image le left. call.keeps t image (omega (arith, le, so_far.later)) (so_far.keeps t image le left);
}

-- the same calls, of whose images less is said
pub leaves_among : {B : Type 0} {clock : B → ℕ} {left_since : B → ℕ → List ℕ → Type 0} {old new : B} {IsSuch IsAmong : List ℕ → Type 0}
    → LeavesOnly clock left_since old new IsSuch → ((image : List ℕ) → IsSuch image → IsAmong image)
    → LeavesOnly clock left_since old new IsAmong
leaves_among calls among = record {
  later = calls.later;
  each = λ image left. among image (calls.each image left);
  adds_only = λ t image le left. ⊎_elim (λ was. inl was) (λ is. inr (among image is)) (calls.adds_only t image le left);
  keeps = calls.keeps;
}
