-- Lemmas on what several reads and writes in a row do to known bytes.
use Rattle.std.proofs.Common.{◌≡◌, ℕ, Option, None, Some, List, [], ◌++◌, take, refl, sym, ap, subst, ◌∙◌, append_assoc, append-nil, IfSome, ◌+◌, length, min, ◌≤◌, ◌<◌, ◌≢◌, Bool, true, false, arith}
use Rattle.std.specs.Prelude.{◌==◌, if◌then◌else◌}
use Rattle.std.proofs.lemmas.List.{take-append-le, take_min}
use Rattle.std.proofs.Math.Seq.{take-append-add, take-length}
use Rattle.std.specs.Io.KnownBytes.{prepend_known, append_known, IsAtEnd}
use Rattle.tbl_outside.specs.Streams.{TakesFront, after_read, ReadsOn, ReadsToEnd}
use Rattle.tbl_outside.specs.declared.stream.HowFar.{HowFar}
use Rattle.tbl_outside.specs.declared.stream.HowFar.TheVariants.{Going, Ended, Overrun}

-- two reads in a row
pub prepend_known-twice : (a : Option (List ℕ)) (bs cs : List ℕ) → prepend_known bs (prepend_known cs a) ≡ prepend_known (bs ++ cs) a
prepend_known-twice None bs cs = refl
prepend_known-twice (Some x) bs cs = ap Some (sym (append_assoc bs cs x))

-- two writes in a row
pub append_known-twice : (a : Option (List ℕ)) (bs cs : List ℕ) → append_known (append_known a bs) cs ≡ append_known a (bs ++ cs)
append_known-twice None bs cs = refl
append_known-twice (Some x) bs cs = ap Some (append_assoc x bs cs)

pub append_known-nil : (a : Option (List ℕ)) → append_known a [] ≡ a
append_known-nil None = refl
append_known-nil (Some x) = ap Some (append-nil x)

-- one read more
pub read_more : (a b c : Option (List ℕ)) (bs cs : List ℕ) → a ≡ prepend_known bs b → b ≡ prepend_known cs c → a ≡ prepend_known (bs ++ cs) c
read_more a b c bs cs p q = p ∙ ap (prepend_known bs) q ∙ prepend_known-twice c bs cs

-- one write more
pub written_more : (a b c : Option (List ℕ)) (bs cs : List ℕ) → b ≡ append_known a bs → c ≡ append_known b cs → c ≡ append_known a (bs ++ cs)
written_more a b c bs cs p q = q ∙ ap (λ x. append_known x cs) p ∙ append_known-twice a bs cs

-- what was read is the front of what a source had, where it tells
pub read_front : (a b : Option (List ℕ)) (bs : List ℕ) → a ≡ prepend_known bs b → IfSome a (λ xs. (rest : List ℕ) × (b ≡ Some rest) × (xs ≡ bs ++ rest))
read_front a None bs e = subst (λ o. IfSome o (λ xs. (rest : List ℕ) × (None ≡ Some rest) × (xs ≡ bs ++ rest))) (sym e) tt
read_front a (Some x) bs e = subst (λ o. IfSome o (λ xs. (rest : List ℕ) × (Some x ≡ Some rest) × (xs ≡ bs ++ rest))) (sym e) (x, refl, refl)

-- at the end of the input, what was read is all that a source had
pub read_all : (a b : Option (List ℕ)) (bs : List ℕ) → a ≡ prepend_known bs b → IsAtEnd b → IfSome a (λ xs. xs ≡ bs)
read_all a None bs e end = subst (λ o. IfSome o (λ xs. xs ≡ bs)) (sym e) tt
read_all a (Some x) bs e end = subst (λ o. IfSome o (λ xs. xs ≡ bs)) (sym e) (ap (λ l. bs ++ l) end ∙ append-nil bs)

-- a front of the first of two pieces is a front of both together
front_within : (n : ℕ) (bs cs : List ℕ) → take n bs ≡ take (min n (length bs)) (bs ++ cs)
front_within n bs cs =
    let le : min n (length bs) ≤ length bs = omega arith in
    sym (take-append-le (min n (length bs)) bs cs le ∙ take_min n bs)

-- a front of the first piece is a front of both together
pub front_of_first : (a b : Option (List ℕ)) (bs cs : List ℕ) → TakesFront a b bs → TakesFront a b (bs ++ cs)
front_of_first a b bs cs p = record {
  count = min p.count (length bs);
  grown = p.grown ∙ ap (append_known a) (front_within p.count bs cs);
}

-- after the first piece was taken whole, a front of the second is a front of both together
pub front_of_second : (a b c : Option (List ℕ)) (bs cs : List ℕ) → b ≡ append_known a bs → TakesFront b c cs → TakesFront a c (bs ++ cs)
front_of_second a b c bs cs p q = record {
  count = length bs + q.count;
  grown = written_more a b c bs (take q.count cs) p q.grown ∙ ap (append_known a) (sym (take-append-add bs cs q.count));
}

-- what was taken whole was taken up to a front
pub front_of_whole : (a b : Option (List ℕ)) (bs : List ℕ) → b ≡ append_known a bs → TakesFront a b bs
front_of_whole a b bs p = record { count = length bs; grown = p ∙ ap (append_known a) (sym (take-length bs)) }

-- ---- how far a source was read

gave : (none : Bool) → none ≡ false → (if none then Ended else Going) ≡ Going
gave true is = absurd cc
gave false is = refl

-- one read more, which gave a byte
pub reads_on : (count : ℕ) (before after : HowFar) → after ≡ after_read count before → 0 < count → ReadsOn before after
reads_on count before after e some going =
    let none : (count == 0) ≡ false = grind arith in
    let one : after ≡ after_read count Going = subst (λ (at : HowFar). after ≡ after_read count at) going e in
    one ∙ gave (count == 0) none

not_overrun : (none : Bool) → (if none then Ended else Going) ≢ Overrun
not_overrun true is = absurd cc
not_overrun false is = absurd cc

-- one read more, whatever it gave
pub reads_once : (count : ℕ) (before after : HowFar) → after ≡ after_read count before → ReadsToEnd before after
reads_once count before after e going over =
    let one : after ≡ after_read count Going = subst (λ (at : HowFar). after ≡ after_read count at) going e in
    not_overrun (count == 0) (sym one ∙ over)

-- none
pub unread : (at : HowFar) → ReadsToEnd at at
unread at going over = absurd cc
