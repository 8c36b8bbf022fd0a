-- Bytes as the pieces that they are read in.
use Rattle.std.proofs.Common.{◌≡◌, ℕ, ◌+◌, ◌-◌, ◌^◌, ◌<◌, ◌≤◌, List, ◌∷◌, ◌++◌, length, take, drop, refl, sym, ap, ◌∙◌, append_assoc, add-one, arith, inl, inr, lit≤}
use Rattle.std.proofs.lemmas.Bool.{cases_lt}
use Rattle.std.proofs.lemmas.List.{get_or-take, get_or-drop, get_or_past, length-take, length-drop, take-append-drop, drop-drop, take_at, drop_at}
use Rattle.std.proofs.lemmas.Nat.{be_bytes_2, be_bytes_4}
use Rattle.std.proofs.Math.Seq.{drop-cons}
use Rattle.byteorder.specs.Endian.{big_number}
use Rattle.tbl_kinds.specs.Fields.{AreBytes}
use Rattle.tbl_kinds.specs.Numbers.{two, four, piece, byte_at, two_at, four_at}

pub piece_fits : (place len : ℕ) (bytes : List ℕ) → AreBytes bytes → AreBytes (piece place len bytes)
piece_fits place len bytes fits i =
    elim (cases_lt i len) [
      | inl lt ↦ rw (get_or-take len (drop place bytes) i 0 lt, get_or-drop place bytes i 0) (fits (place + i))
      | inr le ↦ rw (get_or_past (piece place len bytes) i 0 (omega (arith, length-take len (drop place bytes)))) (omega arith)
    ]

-- numbers at a place fit their width
pub two_below : (place : ℕ) (bytes : List ℕ) → AreBytes bytes → two_at place bytes < 2 ^ 16
two_below place bytes fits = let p = piece_fits place 2 bytes fits in omega (arith, p 0, p 1)

pub four_below : (place : ℕ) (bytes : List ℕ) → AreBytes bytes → four_at place bytes < 2 ^ 32
four_below place bytes fits = let p = piece_fits place 4 bytes fits in omega (arith, p 0, p 1, p 2, p 3)

-- a number that is read of the bytes from a place on is the one at the place
pub number_at : (place : ℕ) (bytes : List ℕ) → place + 4 ≤ length bytes → big_number 4 (take (length bytes - place) (drop place bytes)) ≡ four_at place bytes
number_at place bytes le =
    let same : (i : ℕ) → i < 4 → byte_at i (piece place 4 bytes) ≡ byte_at i (take (length bytes - place) (drop place bytes)) =
    λ i lt. get_or-take 4 (drop place bytes) i 0 lt ∙ sym (get_or-take (length bytes - place) (drop place bytes) i 0 (omega (arith, lt, le))) in
    omega (arith, same 0 (lit≤ tt), same 1 (lit≤ tt), same 2 (lit≤ tt), same 3 (lit≤ tt))

-- ---- the bytes from a place on, as a piece and the rest

pub split_piece : (place len : ℕ) (bytes : List ℕ) → drop place bytes ≡ piece place len bytes ++ drop (place + len) bytes
split_piece place len bytes = sym (take-append-drop len (drop place bytes)) ∙ ap (λ (s : List ℕ). piece place len bytes ++ s) (drop-drop len place bytes)

pub length-piece : (place len : ℕ) (bytes : List ℕ) → place + len ≤ length bytes → length (piece place len bytes) ≡ len
length-piece place len bytes le = omega (arith, length-take len (drop place bytes), length-drop place bytes)

pub split_two : (place : ℕ) (bytes : List ℕ) → AreBytes bytes → place + 2 ≤ length bytes → drop place bytes ≡ two (two_at place bytes) ++ drop (place + 2) bytes
split_two place bytes fits le =
    let e : two (two_at place bytes) ≡ piece place 2 bytes = be_bytes_2 (piece place 2 bytes) (two_at place bytes) (length-piece place 2 bytes le) (piece_fits place 2 bytes fits) refl in
    split_piece place 2 bytes ∙ ap (λ (s : List ℕ). s ++ drop (place + 2) bytes) (sym e)

pub split_four : (place : ℕ) (bytes : List ℕ) → AreBytes bytes → place + 4 ≤ length bytes → drop place bytes ≡ four (four_at place bytes) ++ drop (place + 4) bytes
split_four place bytes fits le =
    let e : four (four_at place bytes) ≡ piece place 4 bytes = be_bytes_4 (piece place 4 bytes) (four_at place bytes) (length-piece place 4 bytes le) (piece_fits place 4 bytes fits) refl in
    split_piece place 4 bytes ∙ ap (λ (s : List ℕ). s ++ drop (place + 4) bytes) (sym e)

pub split_byte : (place : ℕ) (bytes : List ℕ) → place + 1 ≤ length bytes → drop place bytes ≡ byte_at place bytes ∷ drop (place + 1) bytes
split_byte place bytes le = rw add-one (drop-cons bytes place 0 (omega arith))

-- one piece after another
pub and_then : (a x b y c : List ℕ) → a ≡ x ++ b → b ≡ y ++ c → a ≡ (x ++ y) ++ c
and_then a x b y c p q = p ∙ ap (λ (s : List ℕ). x ++ s) q ∙ sym (append_assoc x y c)

-- ---- a piece after a front of known length

pub piece_behind : (front text rest : List ℕ) (place len : ℕ) → length front ≡ place → length text ≡ len → piece place len (front ++ (text ++ rest)) ≡ text
piece_behind front text rest place len front-len text-len =
    ap (λ (s : List ℕ). take len s) (drop_at front (text ++ rest) place front-len) ∙ take_at text rest len text-len
