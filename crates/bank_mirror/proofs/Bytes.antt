-- What a write to one of two banks leaves of the pair.
use Rattle.std.proofs.Common.{◌≡◌, ◌⊎◌, inl, inr, ℕ, ◌+◌, ◌-◌, ◌<◌, ◌≤◌, ◌==◌, List, [], ◌∷◌, ◌++◌, get_or, length, take, drop, Bool, true, false, refl, sym, ◌∙◌, ap, subst, arith, length-append}
use Rattle.std.proofs.Math.Seq.{take-append-add, take-add, get_or-append_seam}
use Rattle.std.proofs.lemmas.List.{length-take, take-take, take_at, drop-take, get_or_append_left}
use Rattle.tbl_kinds.specs.Numbers.{byte_at, piece, patched}
use Rattle.tbl_outside.specs.Bank.{Torn}
use Rattle.tbl_outside.proofs.Pieces.{length-piece, torn_same, byte_behind}
use Rattle.bank_mirror.specs.Pairs.{stale, is_stale, pair_of}
use Rattle.bank_mirror.specs.Moments.{OfFirst, OfSecond}

pub pair-fresh : (first second : List ℕ) → is_stale (length first) second ≡ false → pair_of first second ≡ first
pair-fresh first second fresh = rw fresh refl

pub pair-stale : (first second : List ℕ) → is_stale (length first) second ≡ true → pair_of first second ≡ take (length first) second
pair-stale first second is = rw is refl

-- ---- the front of the second, and the mark after it

-- a write within the front leaves the mark
pub mark_kept : (at count size : ℕ) (old image : List ℕ) → Torn at count old image → at + count ≤ size → is_stale size image ≡ is_stale size old
mark_kept at count size old image torn fits = ap (λ n. n == stale) (byte_behind at count old image size torn fits)

pub front_torn : (at count size : ℕ) (old image : List ℕ) → Torn at count old image → at + count ≤ size → Torn at count (take size old) (take size image)
front_torn at count size old image torn fits = record {
  before = let within : at ≤ size = omega arith in take-take at size image within ∙ torn.before ∙ sym (take-take at size old within);
  behind =
      let there : (at + count) + (size - (at + count)) ≡ size = omega arith in
      ap (λ n. drop (at + count) (take n image)) (sym there)
      ∙ drop-take (at + count) (size - (at + count)) image
      ∙ ap (take (size - (at + count))) torn.behind
      ∙ sym (drop-take (at + count) (size - (at + count)) old)
      ∙ ap (λ n. drop (at + count) (take n old)) there;
  same_length = simp length-take (let same = torn.same_length in omega (arith, same));
}

pub front-patched : (size at : ℕ) (bytes others : List ℕ) → at + length others ≤ size → size ≤ length bytes → take size (patched bytes at others) ≡ patched (take size bytes) at others
front-patched size at bytes others fits within =
    let stop = at + length others in
    let there : stop + (size - stop) ≡ size = omega arith in
    let both : length (take at bytes ++ others) ≡ stop = simp (length-append, length-take) (omega arith) in
    ap (λ n. take n (patched bytes at others)) (sym there ∙ ap (λ n. n + (size - stop)) (sym both))
    ∙ take-append-add (take at bytes ++ others) (drop stop bytes) (size - stop)
    ∙ ap (λ (l : List ℕ). (take at bytes ++ others) ++ l) (sym (drop-take stop (size - stop) bytes) ∙ ap (λ n. drop stop (take n bytes)) there)
    ∙ ap (λ (l : List ℕ). (l ++ others) ++ drop stop (take size bytes)) (sym (take-take at size bytes (omega arith)))

-- a byte that was written is read
pub byte_written : (bytes : List ℕ) (at x : ℕ) → at < length bytes → byte_at at (patched bytes at (x ∷ [])) ≡ x
byte_written bytes at x within =
    let size : length (take at bytes) ≡ at = simp length-take (omega (arith, within)) in
    get_or_append_left (take at bytes ++ x ∷ []) (drop (at + 1) bytes) 0 at (omega (arith, length-append (take at bytes) (x ∷ []), size))
    ∙ ap (λ n. get_or (take at bytes ++ x ∷ []) n 0) (sym size)
    ∙ get_or-append_seam (take at bytes) x [] 0

-- ---- what an image of one bank beside the other is together

-- a read of either
pub of_first-same : (first second image : List ℕ) → OfFirst (λ x. x ≡ first) second image → image ≡ pair_of first second
of_first-same first second image of = of.2 ∙ ap (λ (x : List ℕ). pair_of x second) of.1

pub of_second-same : (first second image : List ℕ) → OfSecond first (λ y. y ≡ second) image → image ≡ pair_of first second
of_second-same first second image of = of.2 ∙ ap (pair_of first) of.1

-- the first is written where the mark doesn't say that it is stale
pub of_first-fresh : (at count : ℕ) (first second image : List ℕ) → is_stale (length first) second ≡ false → OfFirst (Torn at count first) second image → Torn at count first image
of_first-fresh at count first second image fresh of =
    subst (Torn at count first) (sym (of.2 ∙ pair-fresh of.0 second (ap (λ n. is_stale n second) of.1.same_length ∙ fresh))) of.1

-- and where it does
pub of_first-stale : (at count : ℕ) (first second image : List ℕ) → is_stale (length first) second ≡ true → OfFirst (Torn at count first) second image → image ≡ take (length first) second
of_first-stale at count first second image is of =
    of.2 ∙ pair-stale of.0 second (ap (λ n. is_stale n second) of.1.same_length ∙ is) ∙ ap (λ n. take n second) of.1.same_length

-- the front of the second is written where the mark doesn't say that the first is stale
pub of_second-fresh : (at count : ℕ) (first second image : List ℕ) → at + count ≤ length first → is_stale (length first) second ≡ false → OfSecond first (Torn at count second) image → image ≡ first
of_second-fresh at count first second image fits fresh of =
    of.2 ∙ pair-fresh first of.0 (mark_kept at count (length first) second of.0 of.1 fits ∙ fresh)

-- and where it does
pub of_second-stale : (at count : ℕ) (first second image : List ℕ) → at + count ≤ length first → is_stale (length first) second ≡ true → OfSecond first (Torn at count second) image → Torn at count (take (length first) second) image
of_second-stale at count first second image fits is of =
    subst (Torn at count (take (length first) second)) (sym (of.2 ∙ pair-stale first of.0 (mark_kept at count (length first) second of.0 of.1 fits ∙ is)))
    (front_torn at count (length first) second of.0 of.1 fits)

-- the mark is written: the pair is the first's bytes, or the front of the second's
pub of_second-mark : (first second image : List ℕ) → OfSecond first (Torn (length first) 1 second) image → (image ≡ first) ⊎ (image ≡ take (length first) second)
of_second-mark first second image of = by (is_stale (length first) of.0) refl where
  by : (s : Bool) → is_stale (length first) of.0 ≡ s → (image ≡ first) ⊎ (image ≡ take (length first) second)
  by false is = inl (of.2 ∙ pair-fresh first of.0 is)
  by true is = inr (of.2 ∙ pair-stale first of.0 is ∙ of.1.before)

pub pair-either : (first second : List ℕ) → (pair_of first second ≡ first) ⊎ (pair_of first second ≡ take (length first) second)
pair-either first second = by (is_stale (length first) second) refl where
  by : (s : Bool) → is_stale (length first) second ≡ s → (pair_of first second ≡ first) ⊎ (pair_of first second ≡ take (length first) second)
  by false is = inl (pair-fresh first second is)
  by true is = inr (pair-stale first second is)

-- the first broke off, and the mark may be set or not: the front of the second is torn in that range, or is as it was
pub torn_either : (at count : ℕ) (front first image : List ℕ) → Torn at count front first → (image ≡ first) ⊎ (image ≡ front) → Torn at count front image
torn_either at count front first image torn (inl is) = subst (Torn at count front) (sym is) torn
torn_either at count front first image torn (inr is) = subst (Torn at count front) (sym is) (torn_same at count front)

-- ---- copies

-- a piece more is copied
pub copied_more : (at count : ℕ) (from to : List ℕ) → at + count ≤ length from → at ≤ length to → take at to ≡ take at from
    → take (at + count) (patched to at (piece at count from)) ≡ take (at + count) from
copied_more at count from to fits within so_far =
    let size : length (piece at count from) ≡ count = length-piece from at count fits in
    let front : length (take at to) ≡ at = simp length-take (omega arith) in
    let both : length (take at to ++ piece at count from) ≡ at + count = omega (arith, front, size, length-append (take at to) (piece at count from)) in
    take_at (take at to ++ piece at count from) (drop (at + length (piece at count from)) to) (at + count) both
    ∙ ap (λ (l : List ℕ). l ++ piece at count from) so_far
    ∙ sym (take-add at count from)

-- ---- reads

piece-front : (at count size : ℕ) (bytes : List ℕ) → at + count ≤ size → piece at count (take size bytes) ≡ piece at count bytes
piece-front at count size bytes fits =
    let there : at + (size - at) ≡ size = omega arith in
    ap (λ n. take count (drop at (take n bytes))) (sym there)
    ∙ ap (take count) (drop-take at (size - at) bytes)
    ∙ take-take count (size - at) (drop at bytes) (omega arith)

pub piece-agreed : (at count : ℕ) (first second : List ℕ) → at + count ≤ length first → take (length first) second ≡ first → piece at count second ≡ piece at count first
piece-agreed at count first second fits same = sym (piece-front at count (length first) second fits) ∙ ap (piece at count) same

pub piece-stale : (at count : ℕ) (first second : List ℕ) → at + count ≤ length first → is_stale (length first) second ≡ true → piece at count second ≡ piece at count (pair_of first second)
piece-stale at count first second fits is = sym (piece-front at count (length first) second fits) ∙ ap (piece at count) (sym (pair-stale first second is))
