-- The records of an input: short and bad bytes, and the longest list of records at its front.
use Rattle.std.proofs.Common.{◌≡◌, ℕ, ◌+◌, ◌<◌, ◌≤◌, Bool, true, false, not, ◌&&◌, ◌||◌, List, [], ◌∷◌, ◌++◌, length, map, refl, sym, ap, ◌∙◌, append_assoc, arith, ◌⊎◌, inl, inr, rules}
use Rattle.std.specs.Prelude.{◌==◌, nat_lt, nat_le}
use Rattle.std.specs.List.{AllByRecursion, list_any}
use Rattle.std.proofs.lemmas.List.{append-nil, length-append, take-append-le}
use Rattle.std.proofs.lemmas.Bool.{le-leb, leb-true, ltb-true, leb-false}
use Rattle.std.proofs.lemmas.Bool.Decides.{nat_tests}
use Rattle.tbl_kinds.specs.Numbers.{byte_at, piece}
use Rattle.tbl_kinds.specs.Records.{Pair, IsRecord, body_limit, spelling, joined, record_limit, AreRecords}
use Rattle.tbl_kinds.specs.Heads.{Kind, kinds, allows, is_sender, head_len, is_good_head, has_good_head, has_right_body, is_whole, stated_len, is_short, is_bad, IsShort, IsBad, BeginsNone, EndsBefore}
use Rattle.tbl_kinds.proofs.RecordLaws.{apart, bad_begins_none, nil_begins_none, short_begins_none}

pub or_true : (a b : Bool) → (a || b) ≡ true → (a ≡ true) ⊎ (b ≡ true)
or_true true b e = inl refl
or_true false b e = inr e

and_true : (a b : Bool) → (a && b) ≡ true → (a ≡ true) × (b ≡ true)
and_true true b e = (refl, e)
and_true false b e = absurd cc

not_true : (a : Bool) → not a ≡ true → a ≡ false
not_true true e = absurd cc
not_true false e = refl

-- no kind allows more than the limit
each_within : AllByRecursion (λ kind. kind.most ≤ body_limit) kinds
each_within = search rules

some_within : (number actor len : ℕ) (list : List Kind) → AllByRecursion (λ kind. kind.most ≤ body_limit) list → list_any (allows number actor len) list ≡ true → len ≤ body_limit
some_within number actor len [] each e = absurd cc
some_within number actor len (kind ∷ list) each e =
    elim (or_true (allows number actor len kind) (list_any (allows number actor len) list) e) [
      | inl here ↦ let le = leb-true len kind.most (and_true (number == kind.number && is_sender kind.from_ground actor && nat_le kind.least len) (nat_le len kind.most) here).1 in omega (arith, le, each.0)
      | inr there ↦ some_within number actor len list each.1 there
    ]

pub good_within : (number actor len : ℕ) → is_good_head number actor len ≡ true → len ≤ body_limit
unfolding is_good_head
good_within number actor len good = some_within number actor len kinds each_within good

-- a short front is shorter than the longest record
pub short-length : (bytes : List ℕ) → IsShort bytes → length bytes < 32836
unfolding is_short
short-length bytes short =
    let b = (and_true (nat_lt 0 (length bytes)) (nat_lt (length bytes) head_len || (has_good_head bytes && not (is_whole bytes))) short).1 in
    elim (or_true (nat_lt (length bytes) head_len) (has_good_head bytes && not (is_whole bytes)) b) [
      | inl few ↦ let lt = ltb-true (length bytes) 4 few in omega arith
      | inr part ↦
          let parts = and_true (has_good_head bytes) (not (is_whole bytes)) part in
          let le = good_within (byte_at 0 bytes) (byte_at 1 bytes) (stated_len bytes) parts.0 in
          let lt = leb-false (4 + stated_len bytes) (length bytes) (not_true (is_whole bytes) parts.1) in
          omega (arith, le, lt)
    ]

-- the head of at least four bytes stays, whatever follows them
record SameHead (bytes more : List ℕ) : Type 0 where
  good : has_good_head (bytes ++ more) ≡ has_good_head bytes
  kind : byte_at 0 (bytes ++ more) ≡ byte_at 0 bytes
  stated : stated_len (bytes ++ more) ≡ stated_len bytes
  body : head_len + stated_len bytes ≤ length bytes → piece head_len (stated_len bytes) (bytes ++ more) ≡ piece head_len (stated_len bytes) bytes

same_head : (bytes more : List ℕ) → 4 ≤ length bytes → SameHead bytes more
same_head (a ∷ b ∷ c ∷ d ∷ rest) more le = record {
  good = refl;
  kind = refl;
  stated = refl;
  body = λ long. take-append-le (stated_len (a ∷ b ∷ c ∷ d ∷ rest)) rest more (omega (arith, long));
}
same_head bytes more le = absurd (omega arith)

-- a bad front stays bad, whatever follows
pub bad-append : (bytes more : List ℕ) → IsBad bytes → IsBad (bytes ++ more)
unfolding is_bad
bad-append bytes more bad =
    let b = and_true (nat_le head_len (length bytes)) (not (has_good_head bytes) || (is_whole bytes && not (has_right_body bytes))) bad in
    let long = leb-true 4 (length bytes) b.0 in
    let h = same_head bytes more long in
    let longer : nat_le 4 (length (bytes ++ more)) ≡ true = le-leb _ _ (omega (arith, length-append bytes more)) in
    elim (or_true (not (has_good_head bytes)) (is_whole bytes && not (has_right_body bytes)) b.1) [
      | inl wrong ↦ rw (longer, h.good, wrong) refl
      | inr body ↦
          let parts = and_true (is_whole bytes) (not (has_right_body bytes)) body in
          let len = leb-true (4 + stated_len bytes) (length bytes) parts.0 in
          let still : is_whole (bytes ++ more) ≡ true = rw h.stated (le-leb _ _ (omega (arith, length-append bytes more, len))) in
          let wrong : not (has_right_body (bytes ++ more)) ≡ true = rw (h.kind, h.stated, h.body len) parts.1 in
          rw (longer, still, wrong) (grind (arith, nat_tests))
    ]

-- ---- the records of an input

pub joined-snoc : (pairs : List Pair) (p : Pair) → joined (pairs ++ p ∷ []) ≡ joined pairs ++ spelling p
joined-snoc [] p = append-nil (spelling p)
joined-snoc (q ∷ pairs) p = ap (λ (s : List ℕ). spelling q ++ s) (joined-snoc pairs p) ∙ sym (append_assoc (spelling q) (joined pairs) (spelling p))

pub each-snoc : (pairs : List Pair) (p : Pair) → AllByRecursion IsRecord pairs → IsRecord p → AllByRecursion IsRecord (pairs ++ p ∷ [])
each-snoc [] p each is = (is, tt)
each-snoc (q ∷ pairs) p each is = (each.0, each-snoc pairs p each.1 is)

-- what begins with no record ends the list of an input's records
pub no_more : (pairs others : List Pair) (rest more : List ℕ) → AllByRecursion IsRecord pairs → AllByRecursion IsRecord others → BeginsNone rest
    → joined pairs ++ rest ≡ joined others ++ more → length others ≤ length pairs
no_more pairs [] rest more each others-each none e = omega arith
no_more [] (q ∷ others) rest more each others-each none e = absurd (none q (joined others ++ more) others-each.0 (e ∙ append_assoc (spelling q) (joined others) more))
no_more (p ∷ pairs) (q ∷ others) rest more each others-each none e =
    let a = apart p q (joined pairs ++ rest) (joined others ++ more) each.0 others-each.0 (sym (append_assoc (spelling p) (joined pairs) rest) ∙ e ∙ append_assoc (spelling q) (joined others) more) in
    let le = no_more pairs others rest more each.1 others-each.1 none a.1 in
    omega (arith, le)

-- as many records at the front of one input have the same spellings, and the same bytes follow them
pub same_spellings : (pairs others : List Pair) (rest more : List ℕ) → AllByRecursion IsRecord pairs → AllByRecursion IsRecord others → length pairs ≡ length others
    → joined pairs ++ rest ≡ joined others ++ more → (map spelling pairs ≡ map spelling others) × (rest ≡ more)
same_spellings [] [] rest more each others-each len e = (refl, e)
same_spellings [] (q ∷ others) rest more each others-each len e = absurd (omega arith)
same_spellings (p ∷ pairs) [] rest more each others-each len e = absurd (omega arith)
same_spellings (p ∷ pairs) (q ∷ others) rest more each others-each len e =
    let a = apart p q (joined pairs ++ rest) (joined others ++ more) each.0 others-each.0 (sym (append_assoc (spelling p) (joined pairs) rest) ∙ e ∙ append_assoc (spelling q) (joined others) more) in
    let b = same_spellings pairs others rest more each.1 others-each.1 (omega arith) a.1 in
    (ap (λ (s : List ℕ). s ∷ map spelling pairs) a.0 ∙ ap (λ (s : List (List ℕ)). spelling q ∷ s) b.0, b.1)

ends_or_none : (pairs : List Pair) (rest : List ℕ) → EndsBefore pairs rest → BeginsNone rest ⊎ (length pairs ≡ record_limit)
ends_or_none pairs rest ends =
    elim ends [
      | inl nothing ↦ inl (λ p more is e. nil_begins_none p more is (sym nothing ∙ e))
      | inr more ↦ elim more [
        | inl short ↦ inl (short_begins_none rest short)
        | inr others ↦ elim others [
          | inl bad ↦ inl (bad_begins_none rest bad)
          | inr full ↦ inr full
        ]
      ]
    ]

no_more_than : (pairs others : List Pair) (rest more : List ℕ) → AllByRecursion IsRecord pairs → AllByRecursion IsRecord others → length others ≤ record_limit → EndsBefore pairs rest
    → joined pairs ++ rest ≡ joined others ++ more → length others ≤ length pairs
no_more_than pairs others rest more each others-each few ends e =
    elim (ends_or_none pairs rest ends) [
      | inl none ↦ no_more pairs others rest more each others-each none e
      | inr full ↦ omega (arith, full)
    ]

-- records after which no further record comes are the longest list
pub are_records : (input : List ℕ) (pairs : List Pair) (rest : List ℕ) → AllByRecursion IsRecord pairs → length pairs ≤ record_limit → input ≡ joined pairs ++ rest → EndsBefore pairs rest → AreRecords input pairs
are_records input pairs rest each few parts ends = record {
  begins = record { few = few; each = each; rest = rest; parts = parts };
  longest = λ others b. no_more_than pairs others rest b.rest each b.each b.few ends (sym parts ∙ b.parts);
}

-- an input has one list of records, as far as their spellings go
pub one_reading : (input : List ℕ) (pairs others : List Pair) → AreRecords input pairs → AreRecords input others → map spelling pairs ≡ map spelling others
one_reading input pairs others a b =
    let len : length pairs ≡ length others = omega (arith, a.longest others b.begins, b.longest pairs a.begins) in
    (same_spellings pairs others a.begins.rest b.begins.rest a.begins.each b.begins.each len (sym a.begins.parts ∙ b.begins.parts)).0

-- where an input is a session's spellings and nothing else, nothing stands after its records
pub no_rest : (pairs others : List Pair) (rest : List ℕ) → AllByRecursion IsRecord pairs → AllByRecursion IsRecord others → length others ≤ record_limit → EndsBefore pairs rest
    → joined pairs ++ rest ≡ joined others → rest ≡ []
no_rest pairs others rest each others-each few ends e =
    let e' : joined pairs ++ rest ≡ joined others ++ [] = e ∙ sym (append-nil (joined others)) in
    let le = no_more_than pairs others rest [] each others-each few ends e' in
    let ge = no_more others pairs [] rest others-each each nil_begins_none (sym e') in
    (same_spellings pairs others rest [] each others-each (omega (arith, le, ge)) e').1
