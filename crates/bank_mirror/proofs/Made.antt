-- What an opening of two banks did, said of the mirror, or of both banks that are handed back.
use Rattle.std.proofs.Common.{◌≡◌, List, [], ℕ, refl, sym, ◌∙◌, ap, subst}
use Rattle.std.specs.Prelude.{Result, Ok, Err, IfOk, IfErr}
use Rattle.tbl_outside.specs.declared.bank.Bank.{Ghosts}
use Rattle.bank_mirror.specs.declared.mirror.OpenBack.{OpenBack}
use Rattle.bank_mirror.specs.declared.opening.OpenFault.{OpenFault}
use Rattle.bank_mirror.specs.declared.opening.Opened.{Opened}
use Rattle.bank_mirror.specs.declared.in_use.Alone.{Alone}
use Rattle.bank_mirror.specs.Pairs.{Pair, BothTell, AsWas, bytes_of, bytes_alone, pair_of}
use Rattle.bank_mirror.specs.Moments.{LeftSince, moment}
use Rattle.bank_mirror.specs.Counts.{GoesOn, IsSince, opening_of}
use Rattle.bank_mirror.specs.BanksInUse.{IsHeld, IsExcused}
use Rattle.bank_mirror.specs.Kept.{HoldsOnly}
use Rattle.bank_mirror.specs.Openings.{TakesOne}
use Rattle.bank_mirror.specs.Mirrors.{Mirrored, IsMirror}
use Rattle.bank_mirror.specs.Begun.{LeavesSince, Begins, HandsBack, Ends, EndsAsOne, EndsAsOf, IsMade, unused, returned}

all_ok : {T E P : Type 0} (r : Result T E) → P → IfOk r (λ _. P)
all_ok (Ok x) fact = fact
all_ok (Err e) fact = tt

all_err : {T E P : Type 0} (r : Result T E) → P → IfErr r (λ _. P)
all_err (Ok x) fact = tt
all_err (Err e) fact = fact

module _ {A B : Type 0} (a : Ghosts A) (b : Ghosts B) where
  module _ (was new : Pair A B) (first : A) (second : B) (is : was ≡ record { first = first; second = second; past = [] }) where
    opening_is : GoesOn a b was new → opening_of new ≡ (first, second)
    opening_is goes = goes.same_opening ∙ ap opening_of is

    counts_since : GoesOn a b was new → IsSince a b (first, second) new
    counts_since goes = subst (λ (pair : Pair A B). IsSince a b (pair.first, pair.second) new) is goes.counts

    sizes : GoesOn a b was new → a.size new.first ≡ a.size first
    sizes goes = goes.first_size ∙ ap (λ (pair : Pair A B). a.size pair.first) is

    leaves_since : (IsSuch : List ℕ → Type 0) → HoldsOnly a b was new IsSuch → LeavesSince a b new IsSuch
    leaves_since IsSuch holds told image left = (holds.moments told).each image (subst (λ (pair : Pair A B). LeftSince a b new (moment pair) image) (sym is) left)

    -- what holds between two calls of the mirror
    pub is_mirror : (o : Opened) → GoesOn a b was new → IsHeld a b o.in_use new → IsExcused a b o.mark_failed (was.first, was.second) new o.in_use → IsMirror a b (unused new o)
    is_mirror o goes held excused = record {
      held = held;
      since = subst (λ (opening : A × B). IsSince a b opening new) (sym (opening_is goes)) (counts_since goes);
      excused = subst (λ (opening : A × B). IsExcused a b o.mark_failed opening new o.in_use) (ap (λ (pair : Pair A B). (pair.first, pair.second)) is ∙ sym (opening_is goes)) excused;
    }

    module _ (opened : Result Opened OpenFault) (result : Result (Mirrored A B) (OpenBack A B)) (made : IsMade new opened result) where
      -- what is known of the mirror as it was opened, and of both as they are handed back
      as_mirror : (P : Mirrored A B → Type 0) → IfOk opened (λ o. P (unused new o)) → IfOk result P
      as_mirror P = by opened result made where
        by : (o : Result Opened OpenFault) (r : Result (Mirrored A B) (OpenBack A B)) → IsMade new o r → IfOk o (λ o. P (unused new o)) → IfOk r P
        by (Ok o) (Ok m) made fact = subst P (sym made) fact
        by (Ok o) (Err back) made fact = tt
        by (Err cause) (Ok m) made fact = absurd made
        by (Err cause) (Err back) made fact = tt

      as_back : (P : Pair A B → OpenFault → Type 0) → IfErr opened (P new) → IfErr result (λ back. P (returned back) back.cause)
      as_back P = by opened result made where
        by : (o : Result Opened OpenFault) (r : Result (Mirrored A B) (OpenBack A B)) → IsMade new o r → IfErr o (P new) → IfErr r (λ back. P (returned back) back.cause)
        by (Ok o) (Ok m) made fact = tt
        by (Ok o) (Err back) made fact = absurd made
        by (Err cause) (Ok m) made fact = tt
        by (Err cause) (Err back) made fact = subst (λ (pair : Pair A B). P pair back.cause) (sym made.1) (subst (P new) (sym made.0) fact)

      -- the same, said of the two banks that were handed in
      pub made_ok : (P : A × B → Mirrored A B → Type 0) → IfOk opened (λ o. P (was.first, was.second) (unused new o)) → IfOk result (P (first, second))
      made_ok P fact = as_mirror (P (first, second)) (subst (λ (pair : Pair A B). IfOk opened (λ o. P (pair.first, pair.second) (unused new o))) is fact)

      pub made_err : (P : A × B → Pair A B → OpenFault → Type 0) → IfErr opened (P (was.first, was.second) new) → IfErr result (λ back. P (first, second) (returned back) back.cause)
      made_err P fact = as_back (P (first, second)) (subst (λ (pair : Pair A B). IfErr opened (P (pair.first, pair.second) new)) is fact)

      made_ends : (these : A × B → List ℕ) (IsSuch : A × B → List ℕ → Type 0) → HoldsOnly a b was new (IsSuch (was.first, was.second)) → IfOk opened (λ o. BothTell a b → bytes_of a b new ≡ these (was.first, was.second))
          → Ends a b (first, second) (these (first, second)) (IsSuch (first, second)) result
      made_ends these IsSuch holds bytes = record {
        begins = made_ok (λ opening. Begins a b (first, second) (these opening)) (begins opened bytes);
        moments = made_ok (λ opening m. LeavesSince a b m.pair (IsSuch opening)) (all_ok opened (leaves_since (IsSuch (was.first, was.second)) holds));
        back = made_err (λ opening pair cause. HandsBack a b (first, second) (IsSuch opening) pair) (all_err opened back);
        back_moments = made_err (λ opening pair cause. LeavesSince a b pair (IsSuch opening)) (all_err opened (leaves_since (IsSuch (was.first, was.second)) holds));
      } where
        begins : (r : Result Opened OpenFault) → IfOk r (λ o. BothTell a b → bytes_of a b new ≡ these (was.first, was.second)) → IfOk r (λ o. Begins a b (first, second) (these (was.first, was.second)) (unused new o))
        begins (Ok o) bytes = record { bytes = bytes; opening = opening_is holds.goes_on; faults = refl; size = sizes holds.goes_on; counts = counts_since holds.goes_on }
        begins (Err cause) bytes = tt

        back : HandsBack a b (first, second) (IsSuch (was.first, was.second)) new
        back = record { back_bytes = holds.bytes; back_sizes = (sizes holds.goes_on, holds.goes_on.second_size ∙ ap (λ (pair : Pair A B). b.size pair.second) is) }

      -- where both read as they did
      pub made_as_one : HoldsOnly a b was new (λ image. image ≡ bytes_of a b was) → EndsAsOne a b first second result
      made_as_one holds = made_ends (λ opening. pair_of (a.now opening.0) (b.now opening.1)) (λ opening image. image ≡ pair_of (a.now opening.0) (b.now opening.1)) holds (all_ok opened holds.bytes)

      -- or as the good one of them did
      pub made_as_of : (good : Alone) → TakesOne a b good was new opened → EndsAsOf a b good first second result
      made_as_of good takes = made_ends (λ opening. bytes_alone good (a.now opening.0) (b.now opening.1)) (λ opening. AsWas a b opening.0 opening.1 (bytes_alone good (a.now opening.0) (b.now opening.1))) takes.holds takes.bytes
