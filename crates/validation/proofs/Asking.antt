-- Kits that are asked one question after another.
use Rattle.std.proofs.Common.{◌≡◌, ◌∙◌, subst, refl, ℕ, ◌+◌, ◌≤◌, ◌^◌, List, [], ◌∷◌, Bool, Option, Some, None, IsSome, arith}
use Rattle.std.proofs.Common.{ℤ}
use Rattle.std.specs.Prelude.{count_by, length}
use Rattle.std.proofs.lemmas.List.Sums.{count_by-le-length}
use Rattle.std.specs.Option.{ForSome}
use Rattle.tbl_model.specs.Telemetry.{Question}
use Rattle.tbl_outside.specs.declared.validator.KitEntry.{KitEntry}
use Rattle.validation.specs.Kits.{entry_at, MayAskEach}
use Rattle.validation.specs.Asked.{is_for, Stays, WasAsked}

module _ {C : Type 0} (verdict : C → List ℕ → ℤ) (asked : C → ℕ) where
  still : (entry : Option (KitEntry C)) → Stays verdict asked 0 entry entry
  still None = refl
  still (Some entry) = (cc, λ same is. let e : same ≡ entry = cc is in rw e (record { owner = refl; steady = λ image. refl; counted = omega arith }))

  -- nobody was asked
  pub asked_nothing : (kit : List (Option (KitEntry C))) → WasAsked verdict asked kit kit [] (None ∷ None ∷ [])
  asked_nothing kit = record { gives = tt; each = λ number. still (entry_at kit number); numbers = refl }

  stays_again : (times more : ℕ) (old mid new : Option (KitEntry C)) → Stays verdict asked times old mid → Stays verdict asked more mid new → Stays verdict asked (times + more) old new
  stays_again times more None None new first second = second
  stays_again times more None (Some mid) new first second = absurd (cc first)
  stays_again times more (Some old) None new first second = absurd (cc first.0)
  stays_again times more (Some old) (Some mid) None first second = absurd (cc second.0)
  stays_again times more (Some old) (Some mid) (Some new) first second =
      let one = first.1 mid refl in
      let two = second.1 new refl in (
        cc,
        λ same is. let e : same ≡ new = cc is in rw e (record {
          owner = two.owner ∙ one.owner;
          steady = λ image. two.steady image ∙ one.steady image;
          counted = omega (arith, one.counted, two.counted);
        }),
      )

  -- the function that is there later gives what it gave
  gave : (old mid : Option (KitEntry C)) (times : ℕ) (image : List ℕ) (w : ℤ) → Stays verdict asked times old mid
      → IsSome mid × ForSome mid (λ entry. w ≡ verdict entry.check image) → IsSome old × ForSome old (λ entry. w ≡ verdict entry.check image)
  gave None None times image w stays given = absurd (cc given.0)
  gave None (Some mid) times image w stays given = absurd (cc stays)
  gave (Some old) None times image w stays given = absurd (cc given.0)
  gave (Some old) (Some mid) times image w stays given = (cc, λ same is. let e : same ≡ old = cc is in rw e (given.1 mid refl ∙ (stays.1 mid refl).steady image))

  both_count : (p : Question → Bool) (q r : Question) → count_by p (q ∷ []) + count_by p (r ∷ []) ≡ count_by p (q ∷ r ∷ [])
  both_count p q r = omega arith

  -- two questions, one after another
  pub asked_both : (old mid new : List (Option (KitEntry C))) (q r : Question) (v w : ℤ)
      → WasAsked verdict asked old mid (q ∷ []) (Some v ∷ None ∷ []) → WasAsked verdict asked mid new (r ∷ []) (Some w ∷ None ∷ [])
      → WasAsked verdict asked old new (q ∷ r ∷ []) (Some v ∷ Some w ∷ [])
  asked_both old mid new q r v w first second = record {
    gives = (first.gives.0, (gave (entry_at old r.number) (entry_at mid r.number) _ r.image w (first.each r.number) second.gives.0, tt));
    each = λ number. subst (λ times. Stays verdict asked times (entry_at old number) (entry_at new number)) (both_count (is_for number) q r) (stays_again _ _ (entry_at old number) (entry_at mid number) (entry_at new number) (first.each number) (second.each number));
    numbers = second.numbers ∙ first.numbers;
  }

  there_still : (times : ℕ) (old new : Option (KitEntry C)) → Stays verdict asked times old new → IsSome old → IsSome new
  there_still times None new stays is = absurd (cc is)
  there_still times (Some old) new stays is = stays.0

  -- those whose functions were in the kit have them still
  pub stands_still : (old new : List (Option (KitEntry C))) (questions : List Question) (verdicts : List (Option ℤ)) → WasAsked verdict asked old new questions verdicts
      → (number : ℕ) → IsSome (entry_at old number) → IsSome (entry_at new number)
  stands_still old new questions verdicts was number is = there_still _ (entry_at old number) (entry_at new number) (was.each number) is

  left_of : (times most more : ℕ) (old new : Option (KitEntry C)) → times + more ≤ most → Stays verdict asked times old new
      → ForSome old (λ entry. asked entry.check + most ≤ 2 ^ 63) → ForSome new (λ entry. asked entry.check + more ≤ 2 ^ 63)
  left_of times most more None new le stays few = λ entry is. absurd (cc (rw stays at is))
  left_of times most more (Some old) new le stays few = λ entry is. let so = (stays.1 entry is).counted in let before = few old refl in omega (arith, so, before, le)

  -- how often the functions can be asked still
  pub few_left : (old new : List (Option (KitEntry C))) (questions : List Question) (verdicts : List (Option ℤ)) (most more : ℕ) → WasAsked verdict asked old new questions verdicts → length questions + more ≤ most
      → MayAskEach asked most old → MayAskEach asked more new
  few_left old new questions verdicts most more was le few = λ number.
      left_of (count_by (is_for number) questions) most more (entry_at old number) (entry_at new number)
      (let within = count_by-le-length (is_for number) questions in omega (arith, within, le)) (was.each number) (few number)
