-- How bytes that are padded with zeros are read and written.
use Rattle.std.proofs.Common.{◌≡◌, ℕ, zero, suc, ◌+◌, ◌-◌, ◌≤◌, List, [], ◌∷◌, ◌++◌, length, take, drop, refl, sym, ◌∙◌, ap, subst, arith, length-append}
use Rattle.std.proofs.lemmas.List.{append-nil, append_assoc, length-take, take_all, take-append-le, take-append-drop, drop_all, drop_at, drop-drop}
use Rattle.tbl_kinds.specs.Numbers.{piece, patched}
use Rattle.tbl_outside.specs.Bank.{Torn}
use Rattle.tbl_outside.proofs.Pieces.{torn_done}
use Rattle.tbl_adapters.specs.Files.{padded, written, Spoiled, length-padded}

-- what stands in front stays
padded-append : (us vs : List ℕ) (size more : ℕ) → size ≡ length us + more → padded size (us ++ vs) ≡ us ++ padded more vs
padded-append [] vs size more e = let same : size ≡ more = omega (arith, e) in ap (λ (n : ℕ). padded n vs) same
padded-append (u ∷ us) vs zero more e = absurd (omega (arith, e))
padded-append (u ∷ us) vs (suc size) more e = ap (λ (l : List ℕ). u ∷ l) (padded-append us vs size more (omega (arith, e)))

pub take-padded : (count size : ℕ) (bytes : List ℕ) → count ≤ size → take count (padded size bytes) ≡ padded count bytes
take-padded zero size bytes le = refl
take-padded (suc count) zero bytes le = absurd (omega (arith, le))
take-padded (suc count) (suc size) [] le = ap (λ (l : List ℕ). 0 ∷ l) (take-padded count size [] (omega (arith, le)))
take-padded (suc count) (suc size) (b ∷ bytes) le = ap (λ (l : List ℕ). b ∷ l) (take-padded count size bytes (omega (arith, le)))

drop-padded : (count size more : ℕ) (bytes : List ℕ) → size ≡ count + more → drop count (padded size bytes) ≡ padded more (drop count bytes)
drop-padded zero size more bytes e = let same : size ≡ more = omega (arith, e) in ap (λ (n : ℕ). padded n bytes) same
drop-padded (suc count) zero more bytes e = absurd (omega (arith, e))
drop-padded (suc count) (suc size) more [] e = drop-padded count size more [] (omega (arith, e)) ∙ ap (padded more) (drop_all count [] (omega arith))
drop-padded (suc count) (suc size) more (b ∷ bytes) e = drop-padded count size more bytes (omega (arith, e))

pub padded-whole : (bytes : List ℕ) (size : ℕ) → size ≤ length bytes → padded size bytes ≡ take size bytes
padded-whole bytes zero le = refl
padded-whole [] (suc size) le = absurd (omega (arith, le))
padded-whole (b ∷ bytes) (suc size) le = ap (λ (l : List ℕ). b ∷ l) (padded-whole bytes size (omega (arith, le)))

-- a whole piece that the file has is one of the bank
piece-padded : (bytes : List ℕ) (at count size : ℕ) → at + count ≤ size → length (piece at count bytes) ≡ count → piece at count (padded size bytes) ≡ piece at count bytes
piece-padded bytes at count size fits whole =
    ap (take count) (drop-padded at size (size - at) bytes (omega (arith, fits)))
    ∙ take-padded count (size - at) (drop at bytes) (omega (arith, fits))
    ∙ padded-whole (drop at bytes) count (omega (arith, whole, length-take count (drop at bytes)))

-- a first piece, and one after it
take-more : (m n k : ℕ) (xs : List ℕ) → k ≡ m + n → take k xs ≡ take m xs ++ take n (drop m xs)
take-more zero n k xs e = let same : k ≡ n = omega (arith, e) in ap (λ (i : ℕ). take i xs) same
take-more (suc m) n zero xs e = absurd (omega (arith, e))
take-more (suc m) n (suc k) [] e = sym (take_all n [] (omega arith))
take-more (suc m) n (suc k) (x ∷ xs) e = ap (λ (l : List ℕ). x ∷ l) (take-more m n k xs (omega (arith, e)))

take-behind : (front rest : List ℕ) (n k : ℕ) → k ≡ length front + n → take k (front ++ rest) ≡ front ++ take n rest
take-behind [] rest n k e = let same : k ≡ n = omega (arith, e) in ap (λ (i : ℕ). take i rest) same
take-behind (x ∷ front) rest n zero e = absurd (omega (arith, e))
take-behind (x ∷ front) rest n (suc k) e = ap (λ (l : List ℕ). x ∷ l) (take-behind front rest n k (omega (arith, e)))

-- one read more
read_more : (bytes : List ℕ) (at done n : ℕ) (front rest : List ℕ) → length front ≡ done → front ≡ piece at done bytes → take n rest ≡ piece (at + done) n bytes
    → take (done + n) (front ++ rest) ≡ piece at (done + n) bytes
read_more bytes at done n front rest long so_far next =
    take-behind front rest n (done + n) (omega (arith, long))
    ∙ ap (λ (l : List ℕ). l ++ take n rest) so_far
    ∙ ap (λ (l : List ℕ). piece at done bytes ++ l) (next ∙ ap (take n) (sym (drop-drop done at bytes)))
    ∙ sym (take-more done n (done + n) (drop at bytes) refl)

-- the same in a piece whose front is there, and into which more was read
pub read_step : (bytes into new post : List ℕ) (at done n : ℕ) → done ≤ length into → take done into ≡ piece at done bytes → n ≤ length new → take n new ≡ piece (at + done) n bytes
    → take (done + n) (take done into ++ (new ++ post)) ≡ piece at (done + n) bytes
read_step bytes into new post at done n within so_far fits next =
    read_more bytes at done n (take done into) (new ++ post) (omega (arith, within, length-take done into)) so_far (take-append-le n new post fits ∙ next)

pub read_within : (into new post : List ℕ) (done n : ℕ) → done ≤ length into → n ≤ length new → done + n ≤ length (take done into ++ (new ++ post))
read_within into new post done n within fits = omega (arith, within, fits, length-append (take done into) (new ++ post), length-append new post, length-take done into)

-- a whole piece that was read is one of the bank
pub bank_read : (at from count size : ℕ) (bytes into : List ℕ) → from ≡ at → at + count ≤ size → length into ≡ count → into ≡ piece from count bytes → into ≡ piece at count (padded size bytes)
bank_read at from count size bytes into same fits long is =
    let here : into ≡ piece at count bytes = is ∙ ap (λ (n : ℕ). piece n count bytes) same in
    here ∙ sym (piece-padded bytes at count size fits (sym (ap length here) ∙ long))

-- others written over the bytes, though there be none
abbrev over : List ℕ → ℕ → List ℕ → List ℕ
over bytes at others = padded at bytes ++ others ++ drop (at + length others) bytes

front-over : (bytes others : List ℕ) (at : ℕ) → length (padded at bytes ++ others) ≡ at + length others
front-over bytes others at = length-append (padded at bytes) others ∙ ap (λ (n : ℕ). n + length others) (length-padded at bytes)

padded-over : (bytes others : List ℕ) (at size more : ℕ) → size ≡ at + length others + more → padded size (over bytes at others) ≡ patched (padded size bytes) at others
padded-over bytes others at size more e =
    padded-append (padded at bytes ++ others) (drop (at + length others) bytes) size more (omega (arith, e, front-over bytes others at))
    ∙ ap (λ (l : List ℕ). l ++ others ++ padded more (drop (at + length others) bytes)) (sym (take-padded at size bytes (omega (arith, e))))
    ∙ ap (λ (l : List ℕ). take at (padded size bytes) ++ others ++ l) (sym (drop-padded (at + length others) size more bytes e))

patched-none : (bytes : List ℕ) (at : ℕ) → patched bytes at [] ≡ bytes
patched-none bytes at =
    let same : at + 0 ≡ at = omega arith in
    ap (λ (l : List ℕ). l ++ drop (at + 0) bytes) (append-nil (take at bytes))
    ∙ ap (λ (n : ℕ). take at bytes ++ drop n bytes) same
    ∙ take-append-drop at bytes

-- what is written into the file is written into the bank
written-padded : (bytes : List ℕ) (at : ℕ) (others : List ℕ) (size : ℕ) → at + length others ≤ size → padded size (written bytes at others) ≡ patched (padded size bytes) at others
written-padded bytes at [] size fits = sym (patched-none (padded size bytes) at)
written-padded bytes at (o ∷ others) size fits = padded-over bytes (o ∷ others) at size (size - (at + length (o ∷ others))) (omega (arith, fits))

over-more : (bytes first second : List ℕ) (at : ℕ) → over (over bytes at first) (at + length first) second ≡ over bytes at (first ++ second)
over-more bytes first second at =
    let front : length (padded at bytes ++ first) ≡ at + length first = front-over bytes first at in
    let start : padded (at + length first) (over bytes at first) ≡ padded at bytes ++ first =
    padded-append (padded at bytes ++ first) (drop (at + length first) bytes) (at + length first) 0 (omega (arith, front)) ∙ append-nil (padded at bytes ++ first) in
    let sum : at + length first + length second ≡ at + length (first ++ second) = omega (arith, length-append first second) in
    let end : drop (at + length first + length second) (over bytes at first) ≡ drop (at + length (first ++ second)) bytes =
    sym (drop-drop (length second) (at + length first) (over bytes at first))
    ∙ ap (drop (length second)) (drop_at (padded at bytes ++ first) (drop (at + length first) bytes) (at + length first) front)
    ∙ drop-drop (length second) (at + length first) bytes
    ∙ ap (λ (n : ℕ). drop n bytes) sum in
    ap (λ (l : List ℕ). l ++ second ++ drop (at + length first + length second) (over bytes at first)) start
    ∙ ap (λ (l : List ℕ). padded at bytes ++ first ++ second ++ l) end
    ∙ ap (λ (l : List ℕ). l ++ drop (at + length (first ++ second)) bytes) (append_assoc (padded at bytes) first second)

-- one write more
written-then : (bytes : List ℕ) (at : ℕ) (first second : List ℕ) → written (written bytes at first) (at + length first) second ≡ written bytes at (first ++ second)
written-then bytes at [] second = let same : at + 0 ≡ at = omega arith in ap (λ (n : ℕ). written bytes n second) same
written-then bytes at (f ∷ first) [] = ap (written bytes at) (sym (append-nil (f ∷ first)))
written-then bytes at (f ∷ first) (s ∷ second) = over-more bytes (f ∷ first) (s ∷ second) at

pub written_more : (bytes mid now others rest : List ℕ) (at done n : ℕ) → done ≤ length others → mid ≡ written bytes at (take done others) → now ≡ written mid (at + done) (take n rest) → rest ≡ drop done others
    → now ≡ written bytes at (take (done + n) others)
written_more bytes mid now others rest at done n le so_far next is =
    let long : length (take done others) ≡ done = omega (arith, le, length-take done others) in
    next
    ∙ ap (λ (l : List ℕ). written mid (at + done) (take n l)) is
    ∙ ap (λ (l : List ℕ). written l (at + done) (take n (drop done others))) so_far
    ∙ ap (λ (k : ℕ). written (written bytes at (take done others)) (at + k) (take n (drop done others))) (sym long)
    ∙ written-then bytes at (take done others) (take n (drop done others))
    ∙ ap (written bytes at) (sym (take-more done n (done + n) others refl))

-- a write that wrote nothing
pub written_nothing : (bytes mid now others rest : List ℕ) (at place n : ℕ) → mid ≡ written bytes at others → now ≡ written mid place (take n rest) → n ≡ 0 → now ≡ written bytes at others
written_nothing bytes mid now others rest at place n so_far next none = next ∙ ap (λ (k : ℕ). written mid place (take k rest)) none ∙ so_far

-- outside the range of a write all is as it was
before-written : (bytes : List ℕ) (at : ℕ) (others : List ℕ) → padded at (written bytes at others) ≡ padded at bytes
before-written bytes at [] = refl
before-written bytes at (o ∷ others) =
    ap (padded at) (append_assoc (padded at bytes) (o ∷ others) (drop (at + length (o ∷ others)) bytes))
    ∙ padded-append (padded at bytes) ((o ∷ others) ++ drop (at + length (o ∷ others)) bytes) at 0 (omega (arith, length-padded at bytes))
    ∙ append-nil (padded at bytes)

behind-over : (bytes others : List ℕ) (at more : ℕ) → drop (at + length others + more) (over bytes at others) ≡ drop (at + length others + more) bytes
behind-over bytes others at more =
    sym (drop-drop more (at + length others) (over bytes at others))
    ∙ ap (drop more) (drop_at (padded at bytes ++ others) (drop (at + length others) bytes) (at + length others) (front-over bytes others at))
    ∙ drop-drop more (at + length others) bytes

behind-by : (bytes : List ℕ) (at : ℕ) (others : List ℕ) (more : ℕ) → drop (at + length others + more) (written bytes at others) ≡ drop (at + length others + more) bytes
behind-by bytes at [] more = refl
behind-by bytes at (o ∷ others) more = behind-over bytes (o ∷ others) at more

behind-written : (bytes : List ℕ) (at : ℕ) (others : List ℕ) (count : ℕ) → length others ≤ count → drop (at + count) (written bytes at others) ≡ drop (at + count) bytes
behind-written bytes at others count le =
    let sum : at + length others + (count - length others) ≡ at + count = omega (arith, le) in
    subst (λ (n : ℕ). drop n (written bytes at others) ≡ drop n bytes) sum (behind-by bytes at others (count - length others))

-- some bytes were written, and then no more
pub spoiled_front : (at count : ℕ) (old new others : List ℕ) → new ≡ written old at others → length others ≤ count → Spoiled at count old new
spoiled_front at count old new others is le = record {
  before = ap (padded at) is ∙ before-written old at others;
  behind = ap (drop (at + count)) is ∙ behind-written old at others count le;
}

-- some bytes were written, and then the write of those after them failed
pub spoiled_more : (at done rest count : ℕ) (old mid new others : List ℕ) → mid ≡ written old at others → Spoiled (at + done) rest mid new → length others ≡ done → count ≡ done + rest → Spoiled at count old new
spoiled_more at done rest count old mid new others is failed long sum =
    let so_far : Spoiled at count old mid = spoiled_front at count old mid others is (omega (arith, long, sum)) in
    let place : at + done + rest ≡ at + count = omega (arith, sum) in
    record {
      before = sym (take-padded at (at + done) new (omega arith)) ∙ ap (take at) failed.before ∙ take-padded at (at + done) mid (omega arith) ∙ so_far.before;
      behind = subst (λ (n : ℕ). drop n new ≡ drop n mid) place failed.behind ∙ so_far.behind;
    }

-- in the bank, too
torn_spoiled : (at count size : ℕ) (old new : List ℕ) → at + count ≤ size → Spoiled at count old new → Torn at count (padded size old) (padded size new)
torn_spoiled at count size old new fits spoiled =
    let whole : size ≡ at + count + (size - (at + count)) = omega (arith, fits) in
    record {
      before = take-padded at size new (omega (arith, fits)) ∙ spoiled.before ∙ sym (take-padded at size old (omega (arith, fits)));
      behind = drop-padded (at + count) size (size - (at + count)) new whole ∙ ap (padded (size - (at + count))) spoiled.behind ∙ sym (drop-padded (at + count) size (size - (at + count)) old whole);
      same_length = length-padded size new ∙ sym (length-padded size old);
    }

pub bank_spoiled : (at from count size : ℕ) (old new : List ℕ) → from ≡ at → at + count ≤ size → Spoiled from count old new → Torn at count (padded size old) (padded size new)
bank_spoiled at from count size old new same fits spoiled = torn_spoiled at count size old new fits (subst (λ (n : ℕ). Spoiled n count old new) same spoiled)

pub bank_written : (at from size : ℕ) (old new others : List ℕ) → from ≡ at → at + length others ≤ size → new ≡ written old from others → padded size new ≡ patched (padded size old) at others
bank_written at from size old new others same fits is =
    ap (padded size) (is ∙ ap (λ (n : ℕ). written old n others) same) ∙ written-padded old at others size fits

pub bank_torn : (at from size : ℕ) (old new others : List ℕ) → from ≡ at → at + length others ≤ size → new ≡ written old from others → Torn at (length others) (padded size old) (padded size new)
bank_torn at from size old new others same fits is =
    subst (Torn at (length others) (padded size old)) (sym (bank_written at from size old new others same fits is))
    (torn_done (padded size old) at others (omega (arith, fits, length-padded size old)))
