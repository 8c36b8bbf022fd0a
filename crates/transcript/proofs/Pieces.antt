-- Bytes as the pieces that they are read in.
use Rattle.std.proofs.Common.{◌^◌, ◌≡◌, ℕ, ◌+◌, ◌<◌, ◌≤◌, List, [], ◌∷◌, ◌++◌, length, get_or, drop, refl, sym, ap, ◌∙◌, append_assoc, add-one, arith, inl, inr}
use Rattle.std.proofs.lemmas.Bool.{cases_lt}
use Rattle.std.proofs.lemmas.List.{get_or-take, get_or-drop, get_or_past, length-take, length-drop, take-append-drop, drop-drop}
use Rattle.std.proofs.lemmas.Nat.{be_bytes_4}
use Rattle.std.proofs.Math.Seq.{drop-cons}
use Rattle.tbl_kinds.specs.Numbers.{four, piece, byte_at, four_at}

abbrev pub AreBytes : List ℕ → Type 0
AreBytes bytes = (i : ℕ) → get_or bytes i 0 < 256

piece_fits : (place len : ℕ) (bytes : List ℕ) → AreBytes bytes → AreBytes (piece place len bytes)
piece_fits place len bytes fits i =
    elim (cases_lt i len) [
      | inl lt ↦ rw (get_or-take len (drop place bytes) i 0 lt, get_or-drop place bytes i 0) (fits (place + i))
      | inr le ↦ rw (get_or_past (piece place len bytes) i 0 (omega (arith, length-take len (drop place bytes)))) (omega arith)
    ]

pub four_below : (place : ℕ) (bytes : List ℕ) → AreBytes bytes → four_at place bytes < 2 ^ 32
four_below place bytes fits =
    let p = piece_fits place 4 bytes fits in
    omega (arith, p 0, p 1, p 2, p 3)

-- the bytes from a place on begin with the piece there
pub split_piece : (place len : ℕ) (bytes : List ℕ) → drop place bytes ≡ piece place len bytes ++ drop (place + len) bytes
split_piece place len bytes = sym (take-append-drop len (drop place bytes)) ∙ ap (λ (s : List ℕ). piece place len bytes ++ s) (drop-drop len place bytes)

pub split_number : (place : ℕ) (bytes : List ℕ) → AreBytes bytes → place + 4 ≤ length bytes → drop place bytes ≡ four (four_at place bytes) ++ drop (place + 4) bytes
split_number place bytes fits le =
    let len : length (piece place 4 bytes) ≡ 4 = omega (arith, length-take 4 (drop place bytes), length-drop place bytes) in
    let e : four (four_at place bytes) ≡ piece place 4 bytes = be_bytes_4 (piece place 4 bytes) (four_at place bytes) len (piece_fits place 4 bytes fits) refl in
    split_piece place 4 bytes ∙ ap (λ (s : List ℕ). s ++ drop (place + 4) bytes) (sym e)

pub split_byte : (place : ℕ) (bytes : List ℕ) → place + 1 ≤ length bytes → drop place bytes ≡ byte_at place bytes ∷ [] ++ drop (place + 1) bytes
split_byte place bytes le = rw add-one (drop-cons bytes place 0 (omega arith))

-- one piece after another
pub and_then : (a x b y c : List ℕ) → a ≡ x ++ b → b ≡ y ++ c → a ≡ (x ++ y) ++ c
and_then a x b y c p q = p ∙ ap (λ (s : List ℕ). x ++ s) q ∙ sym (append_assoc x y c)
