-- Which place shows once the turn byte of the hidden one has changed.
use Rattle.std.proofs.Common.{◌≡◌, ◌⊎◌, inl, inr, Bool, true, false, ◌&&◌, ◌||◌, Option, Some, None, refl}
use Rattle.std.proofs.lemmas.Bool.{and_parts, or_cases}
use Rattle.cds_layout.specs.Turns.{shown_by, other, opened_by, byte_of, turn_of}
use Rattle.cds_layout.specs.declared.turns.Turn.{Turn}
use Rattle.cds_layout.specs.declared.turns.Turn.TheVariants.{Zero, One, Two}
use Rattle.cds_layout.specs.declared.turns.Place.{Place}
use Rattle.cds_layout.specs.declared.turns.Place.TheVariants.{First, Second}

-- what shows if the turn of this place is another
abbrev pub with_turn : Place → Option Turn → Option Turn → Option Turn → Option Place
with_turn First turn first second = shown_by turn second
with_turn Second turn first second = shown_by first turn

-- ---- by computation, over all turns

abbrev same : Option Place → Option Place → Bool
same None None = true
same (Some First) (Some First) = true
same (Some Second) (Some Second) = true
same _ _ = false

same_is : (a b : Option Place) → same a b ≡ true → a ≡ b
same_is None None is = refl
same_is None (Some b) is = absurd (cc is)
same_is (Some First) None is = absurd (cc is)
same_is (Some First) (Some First) is = refl
same_is (Some First) (Some Second) is = absurd (cc is)
same_is (Some Second) None is = absurd (cc is)
same_is (Some Second) (Some First) is = absurd (cc is)
same_is (Some Second) (Some Second) is = refl

abbrev most : (Option Turn → Bool) → Bool
most test = test (Some One) && test (Some Two)

abbrev more : (Option Turn → Bool) → Bool
more test = test (Some Zero) && most test

abbrev all : (Option Turn → Bool) → Bool
all test = test None && more test

all_of : (test : Option Turn → Bool) → all test ≡ true → (turn : Option Turn) → test turn ≡ true
all_of test is turn =
    let first = and_parts (test None) (more test) is in
    let second = and_parts (test (Some Zero)) (most test) first.1 in
    let third = and_parts (test (Some One)) (test (Some Two)) second.1 in
    by first.0 second.0 third.0 third.1 turn
  where
    by : test None ≡ true → test (Some Zero) ≡ true → test (Some One) ≡ true → test (Some Two) ≡ true → (turn : Option Turn) → test turn ≡ true
    by none zero_ one two None = none
    by none zero_ one two (Some Zero) = zero_
    by none zero_ one two (Some One) = one
    by none zero_ one two (Some Two) = two

all_three : (test : Option Turn → Option Turn → Option Turn → Bool) → all (λ a. all (λ b. all (λ t. test a b t))) ≡ true → (a b t : Option Turn) → test a b t ≡ true
all_three test is a b t = all_of (λ t. test a b t) (all_of (λ b. all (λ t. test a b t)) (all_of (λ a. all (λ b. all (λ t. test a b t))) is a) b) t

abbrev is_kept_or_turned : Option Turn → Option Turn → Option Turn → Bool
is_kept_or_turned a b t =
    same (with_turn (other (shown_by a b)) t a b) (shown_by a b) || same (with_turn (other (shown_by a b)) t a b) (Some (other (shown_by a b)))

abbrev is_opened : Option Turn → Option Turn → Option Turn → Bool
is_opened a b t = same (with_turn (other (shown_by a b)) (Some (opened_by a b)) a b) (Some (other (shown_by a b)))

-- whatever the turn of the hidden place becomes, what showed shows, or the hidden place does
pub kept_or_turned : (a b t : Option Turn) → (with_turn (other (shown_by a b)) t a b ≡ shown_by a b) ⊎ (with_turn (other (shown_by a b)) t a b ≡ Some (other (shown_by a b)))
kept_or_turned a b t = elim (or_cases (same (with_turn (other (shown_by a b)) t a b) (shown_by a b)) _ (all_three is_kept_or_turned refl a b t)) [
  | inl kept ↦ inl (same_is (with_turn (other (shown_by a b)) t a b) (shown_by a b) kept)
  | inr turned ↦ inr (same_is (with_turn (other (shown_by a b)) t a b) (Some (other (shown_by a b))) turned)
]

-- and with the turn after that of the place which showed, the hidden one shows
pub opened_shows : (a b : Option Turn) → with_turn (other (shown_by a b)) (Some (opened_by a b)) a b ≡ Some (other (shown_by a b))
opened_shows a b = same_is _ _ (all_three is_opened refl a b None)

-- a turn that is written is read again
pub turn_of-byte_of : (turn : Turn) → turn_of (byte_of turn) ≡ Some turn
turn_of-byte_of Zero = refl
turn_of-byte_of One = refl
turn_of-byte_of Two = refl
