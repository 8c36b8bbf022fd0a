-- If the input is a session's records and nothing else, and nothing failed, all of it is played.
use Rattle.std.proofs.Common.{◌≡◌, ℕ, ℤ, ◌<◌, List, [], ◌++◌, length, Option, Some, None, refl, sym, ap, subst, ◌∙◌, append_assoc, arith, inl, inr}
use Rattle.std.specs.Prelude.{IfSome}
use Rattle.std.specs.Io.KnownBytes.{prepend_known, IsAtEnd}
use Rattle.std.proofs.lemmas.List.{append-nil, length-append}
use Rattle.tbl_kinds.specs.Records.{Pair, joined, record_limit}
use Rattle.tbl_kinds.specs.Heads.{IsShort, IsBad, is_short, is_bad, EndsBefore}
use Rattle.tbl_kinds.proofs.InputLaws.{bad-append, no_rest}
use Rattle.tbl_outside.specs.Counts.{Rose}
use Rattle.tbl_outside.specs.declared.bank.Bank.{Ghosts}
use Rattle.tbl_session.specs.Inputs.{IsWellFormed}
use Rattle.tbl_session.specs.Openings.{Opening}
use Rattle.tbl_session.specs.Session.{Ran, Session, IsStatus, PlaysThrough, IsComplete}
use Rattle.tbl_kinds.specs.declared.entry.Entry.{Entry}

short_is_some : (rest : List ℕ) → IsShort rest → rest ≡ [] → ⊥
unfolding is_short
short_is_some rest short none = let h : IsShort [] = subst IsShort none short in cc

pub bad_is_some : (rest : List ℕ) → IsBad rest → rest ≡ [] → ⊥
unfolding is_bad
bad_is_some rest bad none = let h : IsBad [] = subst IsBad none bad in cc

module _ {B C : Type 0} (plays : ℕ → List Pair → List Entry → Type 0) (g : Ghosts B) (verdict : C → List ℕ → ℤ) (o : Opening B C) (r : Ran B) (s : Session plays g verdict o r) (input left : List ℕ) (parts : input ≡ s.read ++ left) (whole : IsWellFormed input) where
  -- if no record can follow, nothing is left at all
  nothing_left : EndsBefore s.pairs (s.rest ++ left) → s.rest ++ left ≡ []
  nothing_left ends = no_rest s.pairs whole.pairs (s.rest ++ left) s.each whole.each whole.few ends
      (sym (append_assoc (joined s.pairs) s.rest left) ∙ ap (λ (xs : List ℕ). xs ++ left) (sym s.parts) ∙ sym parts ∙ whole.parts)

  not_bad : IsBad s.rest → ⊥
  not_bad bad = bad_is_some (s.rest ++ left) (bad-append s.rest left bad) (nothing_left (inr (inr (inl (bad-append s.rest left bad)))))

  not_short : left ≡ [] → IsShort s.rest → ⊥
  not_short none short =
      let all : IsShort (s.rest ++ left) = subst IsShort (sym (ap (λ (xs : List ℕ). s.rest ++ xs) none ∙ append-nil s.rest)) short in
      short_is_some (s.rest ++ left) all (nothing_left (inr (inl all)))

  not_full : length s.pairs ≡ record_limit → 0 < length s.rest → ⊥
  not_full full some =
      omega (arith, some, length-append s.rest left, ap (λ (xs : List ℕ). length xs) (nothing_left (inr (inr (inr (full))))))

-- ---- all of it is played

at_end_is : (left_new : Option (List ℕ)) (left : List ℕ) → left_new ≡ Some left → IsAtEnd left_new → left ≡ []
at_end_is None left e end = absurd cc
at_end_is (Some xs) left e end = let same : xs ≡ left = cc in sym same ∙ end

-- what the source has left is the input after what was read
rest_of_input : (left_new : Option (List ℕ)) (read input : List ℕ) → Some input ≡ prepend_known read left_new → (left : List ℕ) × (left_new ≡ Some left) × (input ≡ read ++ left)
rest_of_input None read input e = absurd cc
rest_of_input (Some xs) read input e = (xs, refl, cc)

module _ {B C : Type 0} (plays : ℕ → List Pair → List Entry → Type 0) (g : Ghosts B) (verdict : C → List ℕ → ℤ) (o : Opening B C) (r : Ran B) (s : Session plays g verdict o r) where
  by_status : (input left : List ℕ) → r.left_then ≡ Some left → input ≡ s.read ++ left → IsWellFormed input → ¬ Rose r.unread r.unread_then → ¬ Rose r.unwritten r.unwritten_then → IsStatus r.status → PlaysThrough g o.bank r
  by_status input left is parts whole calm_source calm_sink (inl (inl zero)) = inl (zero, is ∙ ap Some (at_end_is r.left_then left is (s.ends.done zero).1))
  by_status input left is parts whole calm_source calm_sink (inl (inr (inl three))) = absurd (calm_source (s.ends.cut three).1)
  by_status input left is parts whole calm_source calm_sink (inl (inr (inr (inl five)))) =
      absurd (elim (s.ends.bad five).1 [
        | inl bad ↦ not_bad plays g verdict o r s input left parts whole bad
        | inr short ↦ not_short plays g verdict o r s input left parts whole (at_end_is r.left_then left is short.1) short.0
      ])
  by_status input left is parts whole calm_source calm_sink (inl (inr (inr (inr six)))) = absurd (not_full plays g verdict o r s input left parts whole (s.ends.full six).0 (s.ends.full six).1)
  by_status input left is parts whole calm_source calm_sink (inr (inl (inl seven))) = inr (inr (inl (seven, s.causes.fault seven)))
  by_status input left is parts whole calm_source calm_sink (inr (inl (inr eight))) = inr (inr (inr (eight, s.causes.stop eight)))
  by_status input left is parts whole calm_source calm_sink (inr (inr (inl one))) = inr (inl one)
  by_status input left is parts whole calm_source calm_sink (inr (inr (inr four))) = absurd (calm_sink (s.causes.sink four))

  by_left : (before : Option (List ℕ)) → before ≡ prepend_known s.read r.left_then → IfSome before (λ input. IsWellFormed input → ¬ Rose r.unread r.unread_then → ¬ Rose r.unwritten r.unwritten_then → PlaysThrough g o.bank r)
  by_left None e = tt
  by_left (Some input) e = λ whole calm_source calm_sink.
      let rest = rest_of_input r.left_then s.read input e in
      by_status input rest.0 rest.1 rest.2 whole calm_source calm_sink s.known

  pub complete : IsComplete g o.bank r
  complete = by_left r.left s.came
