-- How what a reset leaves of two banks goes on over a call of one of them.
use Rattle.std.proofs.Common.{◌≡◌, ◌⊎◌, inl, inr, ⊎_elim, ℕ, zero, suc, ◌≤◌, List, [], ◌∷◌, ◌++◌, length, drop, refl, sym, ◌∙◌, ap, subst, arith, length-append}
use Rattle.tbl_outside.specs.declared.bank.Bank.{Ghosts}
use Rattle.tbl_outside.specs.Bank.{LeavesOnly}
use Rattle.tbl_outside.proofs.Moments.{started}
use Rattle.bank_mirror.specs.Pairs.{Pair, pair_of}
use Rattle.bank_mirror.specs.Moments.{OfFirst, OfSecond, first_of, moment, InStep, From, MayLeave, LeftSince, Leaves}
use Rattle.bank_mirror.specs.Counts.{IsSince, GoesOn}
use Rattle.bank_mirror.specs.Laws.{none_since}

drop_snoc : {X : Type 0} (t : ℕ) (xs : List X) (x : X) → t ≤ length xs → drop t (xs ++ x ∷ []) ≡ drop t xs ++ x ∷ []
drop_snoc zero xs x le = refl
drop_snoc (suc t) [] x le = absurd (omega (arith, le))
drop_snoc (suc t) (y ∷ xs) x le = drop_snoc t xs x (omega (arith, le))

pub first_of-snoc : {X : Type 0} (xs : List X) (x last : X) → first_of (xs ++ x ∷ []) last ≡ first_of xs x
first_of-snoc [] x last = refl
first_of-snoc (y ∷ xs) x last = refl

-- what the laws of a bank say of its moments, where it tells them
pub record TellsMoments {A : Type 0} (a : Ghosts A) : Type 0 where
  pub counts_now : (bank : A) (t : ℕ) (image : List ℕ) → t ≤ a.clock bank → a.may_leave bank image → a.left_since bank t image
  pub leaves_now : (bank : A) → a.may_leave bank (a.now bank)
  pub leaves_only_now : (bank : A) (image : List ℕ) → a.may_leave bank image → image ≡ a.now bank
  pub only_now : (bank : A) (image : List ℕ) → a.left_since bank (a.clock bank) image → a.may_leave bank image

pub told_moments : {A : Type 0} (a : Ghosts A) → a.tells_moments
    → ((bank : A) (t : ℕ) (image : List ℕ) → a.tells_moments → t ≤ a.clock bank → a.may_leave bank image → a.left_since bank t image)
    → ((bank : A) → a.tells_moments → a.may_leave bank (a.now bank))
    → ((bank : A) (image : List ℕ) → a.tells_moments → a.may_leave bank image → image ≡ a.now bank)
    → ((bank : A) (image : List ℕ) → a.tells_moments → a.left_since bank (a.clock bank) image → a.may_leave bank image)
    → TellsMoments a
told_moments a told counts leaves leaves_only only = record {
  counts_now = λ bank t image. counts bank t image told;
  leaves_now = λ bank. leaves bank told;
  leaves_only_now = λ bank image. leaves_only bank image told;
  only_now = λ bank image. only bank image told;
}

module _ {A B : Type 0} (a : Ghosts A) (b : Ghosts B) where
  -- one call more
  snoc_came : (past : List (A × B)) (p last : A × B) (image : List ℕ) → From a b (past ++ p ∷ []) last image → From a b past p image ⊎ InStep a b p last image
  snoc_came [] p last image (inl step) = inr step
  snoc_came [] p last image (inr none) = absurd none
  snoc_came (q ∷ past) p last image (inl step) = inl (inl (subst (λ next. InStep a b q next image) (first_of-snoc past p last) step))
  snoc_came (q ∷ past) p last image (inr came) = ⊎_elim (λ was. inl (inr was)) (λ step. inr step) (snoc_came past p last image came)

  came_snoc : (past : List (A × B)) (p last : A × B) (image : List ℕ) → From a b past p image → From a b (past ++ p ∷ []) last image
  came_snoc [] p last image none = absurd none
  came_snoc (q ∷ past) p last image (inl step) = inl (subst (λ next. InStep a b q next image) (sym (first_of-snoc past p last)) step)
  came_snoc (q ∷ past) p last image (inr came) = inr (came_snoc past p last image came)

  came_last : (past : List (A × B)) (p last : A × B) (image : List ℕ) → InStep a b p last image → From a b (past ++ p ∷ []) last image
  came_last [] p last image step = inl step
  came_last (q ∷ past) p last image step = inr (came_last past p last image step)

  -- one call of one of both: the same opening
  pub called_goes : (old new : Pair A B) → new.past ≡ old.past ++ (old.first, old.second) ∷ [] → a.size new.first ≡ a.size old.first → b.size new.second ≡ b.size old.second
      → IsSince a b (old.first, old.second) new → GoesOn a b old new
  called_goes old new noted first_size second_size counts = record {
    first_size = first_size;
    second_size = second_size;
    counts = counts;
    same_opening = ap (λ past. first_of past (new.first, new.second)) noted ∙ first_of-snoc old.past (old.first, old.second) (new.first, new.second);
  }

  leaves_on : (old new : Pair A B) (IsSuch : List ℕ → Type 0) → new.past ≡ old.past ++ (old.first, old.second) ∷ []
      → ((image : List ℕ) → InStep a b (old.first, old.second) (new.first, new.second) image → IsSuch image)
      → ((image : List ℕ) → MayLeave a b new image → IsSuch image)
      → ((image : List ℕ) → MayLeave a b old image → InStep a b (old.first, old.second) (new.first, new.second) image)
      → Leaves a b old new IsSuch
  leaves_on old new IsSuch noted in_step after before = record {
    later = omega (arith, ap length noted, length-append old.past ((old.first, old.second) ∷ []));
    each = λ image left. elim (adds (moment old) image (omega arith) left) [
      | inl was ↦ in_step image (before image (none_since a b old image was))
      | inr such ↦ such
    ];
    adds_only = adds;
    keeps = keeps;
  } where
    came_is : (t : ℕ) → t ≤ moment old → drop t new.past ≡ drop t old.past ++ (old.first, old.second) ∷ []
    came_is t le = ap (drop t) noted ∙ drop_snoc t old.past (old.first, old.second) le

    adds : (t : ℕ) (image : List ℕ) → t ≤ moment old → LeftSince a b new t image → LeftSince a b old t image ⊎ IsSuch image
    adds t image le (inl now) = inr (after image now)
    adds t image le (inr came) = ⊎_elim (λ was. inl (inr was)) (λ step. inr (in_step image step))
        (snoc_came (drop t old.past) (old.first, old.second) (new.first, new.second) image (subst (λ past. From a b past (new.first, new.second) image) (came_is t le) came))

    keeps : (t : ℕ) (image : List ℕ) → t ≤ moment old → LeftSince a b old t image → LeftSince a b new t image
    keeps t image le (inl now) = inr (subst (λ past. From a b past (new.first, new.second) image) (sym (came_is t le)) (came_last (drop t old.past) (old.first, old.second) (new.first, new.second) image (before image now)))
    keeps t image le (inr came) = inr (subst (λ past. From a b past (new.first, new.second) image) (sym (came_is t le)) (came_snoc (drop t old.past) (old.first, old.second) (new.first, new.second) image came))

  module _ (one : TellsMoments a) (two : TellsMoments b) where
    -- between two calls both are as they stand
    may_is : (pair : Pair A B) (image : List ℕ) → MayLeave a b pair image → image ≡ pair_of (a.now pair.first) (b.now pair.second)
    may_is pair image may = may.4 ∙ (λ i. pair_of (one.leaves_only_now pair.first may.0 may.2 i) (two.leaves_only_now pair.second may.1 may.3 i))

    -- no call was made
    pub none_called : (pair : Pair A B) → Leaves a b pair pair (λ image. image ≡ pair_of (a.now pair.first) (b.now pair.second))
    none_called pair = started moment (LeftSince a b) pair (λ image. image ≡ pair_of (a.now pair.first) (b.now pair.second)) (λ image left. may_is pair image (none_since a b pair image left))

    -- the first was called, and the second is as it was
    pub first_called : (old new : Pair A B) (IsFirst : List ℕ → Type 0) → new.past ≡ old.past ++ (old.first, old.second) ∷ [] → new.second ≡ old.second
        → LeavesOnly a.clock a.left_since old.first new.first IsFirst → Leaves a b old new (OfFirst IsFirst (b.now old.second))
    first_called old new IsFirst noted other call =
        leaves_on old new (OfFirst IsFirst (b.now old.second)) noted
        (λ image step. elim step [
          | inl in_first ↦ (in_first.0, call.each in_first.0 in_first.1, in_first.2)
          | inr in_second ↦ (
            a.now old.first,
            call.each (a.now old.first) was,
            in_second.2 ∙ ap (pair_of (a.now old.first)) (second_is in_second.0 in_second.1),
          )
        ])
        (λ image may. (a.now new.first, call.each (a.now new.first) (one.counts_now new.first (a.clock old.first) (a.now new.first) call.later (one.leaves_now new.first)), may_is new image may ∙ ap (λ (bank : B). pair_of (a.now new.first) (b.now bank)) other))
        (λ image may. inl (a.now old.first, was, may_is old image may))
      where
        was : a.left_since new.first (a.clock old.first) (a.now old.first)
        was = call.keeps (a.clock old.first) (a.now old.first) (omega arith) (one.counts_now old.first (a.clock old.first) (a.now old.first) (omega arith) (one.leaves_now old.first))

        second_is : (y : List ℕ) → b.left_since new.second (b.clock old.second) y → y ≡ b.now old.second
        second_is y left = two.leaves_only_now old.second y (two.only_now old.second y (subst (λ (bank : B). b.left_since bank (b.clock old.second) y) other left))

    -- and the other way round
    pub second_called : (old new : Pair A B) (IsSecond : List ℕ → Type 0) → new.past ≡ old.past ++ (old.first, old.second) ∷ [] → new.first ≡ old.first
        → LeavesOnly b.clock b.left_since old.second new.second IsSecond → Leaves a b old new (OfSecond (a.now old.first) IsSecond)
    second_called old new IsSecond noted other call =
        leaves_on old new (OfSecond (a.now old.first) IsSecond) noted
        (λ image step. elim step [
          | inl in_first ↦ (
            b.now old.second,
            call.each (b.now old.second) was,
            in_first.2 ∙ ap (λ (x : List ℕ). pair_of x (b.now old.second)) (first_is in_first.0 in_first.1),
          )
          | inr in_second ↦ (in_second.0, call.each in_second.0 in_second.1, in_second.2)
        ])
        (λ image may. (b.now new.second, call.each (b.now new.second) (two.counts_now new.second (b.clock old.second) (b.now new.second) call.later (two.leaves_now new.second)), may_is new image may ∙ ap (λ (bank : A). pair_of (a.now bank) (b.now new.second)) other))
        (λ image may. inr (b.now old.second, was, may_is old image may))
      where
        was : b.left_since new.second (b.clock old.second) (b.now old.second)
        was = call.keeps (b.clock old.second) (b.now old.second) (omega arith) (two.counts_now old.second (b.clock old.second) (b.now old.second) (omega arith) (two.leaves_now old.second))

        first_is : (x : List ℕ) → a.left_since new.first (a.clock old.first) x → x ≡ a.now old.first
        first_is x left = one.leaves_only_now old.first x (one.only_now old.first x (subst (λ (bank : A). a.left_since bank (a.clock old.first) x) other left))
