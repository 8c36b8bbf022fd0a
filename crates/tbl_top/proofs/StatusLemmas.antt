-- What the status of a session says the other way round.
use Rattle.std.proofs.Common.{◌≡◌, ◌≢◌, ℕ, List, length, ap, arith, inl, inr}
use Rattle.std.proofs.lemmas.Bool.Decides.{nat_tests}
use Rattle.tbl_kinds.specs.Heads.{IsShort, IsBad, is_short, is_bad, EndsBefore}
use Rattle.tbl_kinds.specs.Records.{Pair}
use Rattle.tbl_session.specs.Session.{IsStatus, IsEnded, EndsAs, IsExact}
use Rattle.tbl_top.proofs.CompletenessLemmas.{bad_is_some}

short_not_bad : (rest : List ℕ) → IsShort rest → IsBad rest → ⊥
unfolding is_short is_bad
short_not_bad rest short bad = grind (arith, nat_tests)

pub exact_of : (status played : ℕ) (rest : List ℕ) (at_end read_failed : Type 0) → IsStatus status → EndsAs status played rest at_end read_failed → IsExact status played rest
exact_of status played rest at_end read_failed (inl (inl zero)) ends = record {
  bad = λ lt bad. absurd (bad_is_some rest bad (ends.done zero).0);
  full = λ all some. absurd (omega (arith, some, ap (λ (xs : List ℕ). length xs) (ends.done zero).0));
}
exact_of status played rest at_end read_failed (inl (inr (inl three))) ends = record {
  bad = λ lt bad. absurd (elim (ends.cut three).0 [ inl none ↦ bad_is_some rest bad none | inr short ↦ short_not_bad rest short.0 bad ]);
  full = λ all some. absurd (elim (ends.cut three).0 [ inl none ↦ omega (arith, some, ap (λ (xs : List ℕ). length xs) none) | inr short ↦ omega (arith, all, short.1) ]);
}
exact_of status played rest at_end read_failed (inl (inr (inr (inl five)))) ends = record { bad = λ lt bad. inl five; full = λ all some. absurd (omega (arith, all, (ends.bad five).0)) }
exact_of status played rest at_end read_failed (inl (inr (inr (inr six)))) ends = record { bad = λ lt bad. absurd (omega (arith, lt, (ends.full six).0)); full = λ all some. inl six }
exact_of status played rest at_end read_failed (inr ended) ends = record { bad = λ lt bad. inr ended; full = λ all some. inr ended }

-- no further record follows
pub ends_before : (status : ℕ) (pairs : List Pair) (rest : List ℕ) (at_end read_failed : Type 0) → IsEnded status → EndsAs status (length pairs) rest at_end read_failed → EndsBefore pairs rest
ends_before status pairs rest at_end read_failed (inl zero) ends = inl (ends.done zero).0
ends_before status pairs rest at_end read_failed (inr (inl three)) ends = elim (ends.cut three).0 [ inl none ↦ inl none | inr short ↦ inr (inl short.0) ]
ends_before status pairs rest at_end read_failed (inr (inr (inl five))) ends = elim (ends.bad five).1 [ inl bad ↦ inr (inr (inl bad)) | inr short ↦ inr (inl short.0) ]
ends_before status pairs rest at_end read_failed (inr (inr (inr six))) ends = inr (inr (inr (ends.full six).0))

pub known_not_usage : (status : ℕ) → IsStatus status → status ≢ 2
known_not_usage status known = λ two. grind arith
