-- Numbers that go round, and the entries of a transcript whose places do.
use Rattle.std.proofs.Common.{◌≡◌, ℕ, ◌+◌, List, [], ◌∷◌, ◌++◌, length, refl, sym, ap, subst, ◌∙◌, append_assoc, arith}
use Rattle.std.specs.Prelude.{◌%◌}
use Rattle.std.proofs.Math.Nat.{mod-add-mod}
use Rattle.std.proofs.lemmas.List.{append-nil, map-append}
use Rattle.std.specs.List.{AllByRecursion}
use Rattle.tbl_kinds.specs.Records.{Pair, IsRecord, spelling, joined}
use Rattle.tbl_kinds.specs.Transcript.{pair_of, pairs_of, entry_bytes}
use Rattle.tbl_kinds.specs.declared.entry.Entry.{Entry}
use Rattle.tbl_stream.specs.Places.{place_of, place_count, told_from}

-- what goes round the same goes on the same
pub same_on : (m a b n : ℕ) → a % m ≡ b % m → (a + n) % m ≡ (b + n) % m
same_on m a b n same = sym (mod-add-mod a m n) ∙ ap (λ k. (k + n) % m) same ∙ mod-add-mod b m n

pub place_on : (a b n : ℕ) → place_of a ≡ place_of b → place_of (a + n) ≡ place_of (b + n)
place_on a b n same = same_on place_count a b n same

pub told_same : (a b : ℕ) (es : List Entry) → place_of a ≡ place_of b → told_from a es ≡ told_from b es
told_same a b [] same = refl
told_same a b (e ∷ es) same =
    ap (λ n. entry_bytes n e ++ told_from (a + 1) es) same ∙ ap (λ (s : List ℕ). entry_bytes (place_of b) e ++ s) (told_same (a + 1) (b + 1) es (place_on a b 1 same))

pub told_append : (place : ℕ) (xs ys : List Entry) → told_from place (xs ++ ys) ≡ told_from place xs ++ told_from (place + length xs) ys
told_append place [] ys = ap (λ n. told_from n ys) (omega arith)
told_append place (x ∷ xs) ys =
    ap (λ (s : List ℕ). entry_bytes (place_of place) x ++ s) (told_append (place + 1) xs ys)
    ∙ sym (append_assoc (entry_bytes (place_of place) x) (told_from (place + 1) xs) (told_from (place + 1 + length xs) ys))
    ∙ ap (λ n. (entry_bytes (place_of place) x ++ told_from (place + 1) xs) ++ told_from n ys) (omega arith)

-- ---- the records of entries

pub each_joined : (xs ys : List Pair) → AllByRecursion IsRecord xs → AllByRecursion IsRecord ys → AllByRecursion IsRecord (xs ++ ys)
each_joined [] ys p q = q
each_joined (x ∷ xs) ys p q = (p.0, each_joined xs ys p.1 q)

pub joined_pairs : (xs ys : List Pair) → joined (xs ++ ys) ≡ joined xs ++ joined ys
joined_pairs [] ys = refl
joined_pairs (x ∷ xs) ys = ap (λ (s : List ℕ). spelling x ++ s) (joined_pairs xs ys) ∙ sym (append_assoc (spelling x) (joined xs) (joined ys))

pub each_append : (xs ys : List Entry) → AllByRecursion IsRecord (pairs_of xs) → AllByRecursion IsRecord (pairs_of ys) → AllByRecursion IsRecord (pairs_of (xs ++ ys))
each_append xs ys p q = subst (AllByRecursion IsRecord) (sym (map-append pair_of xs ys)) (each_joined (pairs_of xs) (pairs_of ys) p q)

pub joined_append : (xs ys : List Entry) → joined (pairs_of (xs ++ ys)) ≡ joined (pairs_of xs) ++ joined (pairs_of ys)
joined_append xs ys = ap joined (map-append pair_of xs ys) ∙ joined_pairs (pairs_of xs) (pairs_of ys)

pub joined_one : (e : Entry) (p : Pair) → pair_of e ≡ p → joined (pairs_of (e ∷ [])) ≡ spelling p
joined_one e p is = append-nil (spelling (pair_of e)) ∙ ap spelling is

-- some records and then others before what is left
pub stream_on : (bytes mid left : List ℕ) (xs ys : List Entry) → bytes ≡ joined (pairs_of xs) ++ mid → mid ≡ joined (pairs_of ys) ++ left → bytes ≡ joined (pairs_of (xs ++ ys)) ++ left
stream_on bytes mid left xs ys p q =
    p ∙ ap (λ (s : List ℕ). joined (pairs_of xs) ++ s) q ∙ sym (append_assoc (joined (pairs_of xs)) (joined (pairs_of ys)) left)
    ∙ ap (λ (s : List ℕ). s ++ left) (sym (joined_append xs ys))
