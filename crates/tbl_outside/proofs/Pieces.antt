-- What a write leaves of the bytes, whole or broken off.
use Rattle.std.proofs.Common.{◌≡◌, ℕ, ◌+◌, ◌-◌, ◌<◌, ◌≤◌, List, ◌++◌, length, take, drop, get_or, refl, sym, ◌∙◌, ap, arith, length-append}
use Rattle.std.proofs.lemmas.List.{length-take, length-drop, take-take, drop-drop, drop-take, take_at, drop_at, take-append-drop, get_or-take, get_or-drop, append_assoc}
use Rattle.tbl_kinds.specs.Numbers.{piece, patched}
use Rattle.tbl_outside.specs.Bank.{Torn}

pub length-piece : (bytes : List ℕ) (at count : ℕ) → at + count ≤ length bytes → length (piece at count bytes) ≡ count
length-piece bytes at count fits = simp (length-take, length-drop) (omega arith)

pub length-patched : (bytes : List ℕ) (at : ℕ) (others : List ℕ) → at + length others ≤ length bytes → length (patched bytes at others) ≡ length bytes
length-patched bytes at others fits = simp (length-append, length-take, length-drop) (omega arith)

-- what was written is read again
pub piece-patched : (bytes : List ℕ) (at : ℕ) (others : List ℕ) → at + length others ≤ length bytes → piece at (length others) (patched bytes at others) ≡ others
piece-patched bytes at others fits =
    let front : length (take at bytes) ≡ at = simp length-take (omega arith) in
    ap (take (length others)) (ap (drop at) (append_assoc (take at bytes) others (drop (at + length others) bytes)) ∙ drop_at (take at bytes) (others ++ drop (at + length others) bytes) at front)
    ∙ take_at others (drop (at + length others) bytes) (length others) refl

-- a write that broke off may have left the old bytes
pub torn_same : (at count : ℕ) (bytes : List ℕ) → Torn at count bytes bytes
torn_same at count bytes = record { before = refl; behind = refl; same_length = refl }

-- a write that was done leaves one of the images of one that broke off
pub torn_done : (bytes : List ℕ) (at : ℕ) (others : List ℕ) → at + length others ≤ length bytes → Torn at (length others) bytes (patched bytes at others)
torn_done bytes at others fits =
    let front : length (take at bytes) ≡ at = simp length-take (omega arith) in
    let both : length (take at bytes ++ others) ≡ at + length others = omega (arith, front, length-append (take at bytes) others) in
    record {
      before = ap (take at) (append_assoc (take at bytes) others (drop (at + length others) bytes)) ∙ take_at (take at bytes) (others ++ drop (at + length others) bytes) at front;
      behind = drop_at (take at bytes ++ others) (drop (at + length others) bytes) (at + length others) both;
      same_length = length-patched bytes at others fits;
    }

-- a range within a larger one
pub torn_within : (low at count size : ℕ) (old image : List ℕ) → Torn at count old image → low ≤ at → at + count ≤ low + size → Torn low size old image
torn_within low at count size old image torn le fits = record {
  before = sym (take-take low at image le) ∙ ap (take low) torn.before ∙ take-take low at old le;
  behind =
      let there : (at + count) + (low + size - (at + count)) ≡ low + size = omega arith in
      ap (λ n. drop n image) (sym there)
      ∙ sym (drop-drop (low + size - (at + count)) (at + count) image)
      ∙ ap (drop (low + size - (at + count))) torn.behind
      ∙ drop-drop (low + size - (at + count)) (at + count) old
      ∙ ap (λ n. drop n old) there;
  same_length = torn.same_length;
}

-- the old bytes are an image of the new ones
pub torn_back : (at count : ℕ) (old image : List ℕ) → Torn at count old image → Torn at count image old
torn_back at count old image torn = record {
  before = sym torn.before;
  behind = sym torn.behind;
  same_length = sym torn.same_length;
}

-- pieces outside the range stay
pub piece_before : (at count : ℕ) (old image : List ℕ) (from size : ℕ) → Torn at count old image → from + size ≤ at → piece from size image ≡ piece from size old
piece_before at count old image from size torn le =
    sym (drop-take from size image)
    ∙ ap (drop from) (sym (take-take (from + size) at image le) ∙ ap (take (from + size)) torn.before ∙ take-take (from + size) at old le)
    ∙ drop-take from size old

pub piece_behind : (at count : ℕ) (old image : List ℕ) (from size : ℕ) → Torn at count old image → at + count ≤ from → piece from size image ≡ piece from size old
piece_behind at count old image from size torn le =
    let there : (at + count) + (from - (at + count)) ≡ from = omega arith in
    ap (take size) (
    ap (λ n. drop n image) (sym there)
    ∙ sym (drop-drop (from - (at + count)) (at + count) image)
    ∙ ap (drop (from - (at + count))) torn.behind
    ∙ drop-drop (from - (at + count)) (at + count) old
    ∙ ap (λ n. drop n old) there
    )

-- and so do single bytes
pub byte_before : (at count : ℕ) (old image : List ℕ) (i : ℕ) → Torn at count old image → i < at → get_or image i 0 ≡ get_or old i 0
byte_before at count old image i torn lt =
    sym (get_or-take at image i 0 lt) ∙ ap (λ (l : List ℕ). get_or l i 0) torn.before ∙ get_or-take at old i 0 lt

pub byte_behind : (at count : ℕ) (old image : List ℕ) (i : ℕ) → Torn at count old image → at + count ≤ i → get_or image i 0 ≡ get_or old i 0
byte_behind at count old image i torn le =
    let there : (at + count) + (i - (at + count)) ≡ i = omega arith in
    ap (λ n. get_or image n 0) (sym there)
    ∙ sym (get_or-drop (at + count) image (i - (at + count)) 0)
    ∙ ap (λ (l : List ℕ). get_or l (i - (at + count)) 0) torn.behind
    ∙ get_or-drop (at + count) old (i - (at + count)) 0
    ∙ ap (λ n. get_or old n 0) there

-- an image of a write that broke off is the old bytes with some written over them
pub torn_is : (at count : ℕ) (old image : List ℕ) → Torn at count old image → at + count ≤ length old → image ≡ patched old at (piece at count image)
torn_is at count old image torn fits =
    let size : length (piece at count image) ≡ count = length-piece image at count (omega (arith, torn.same_length)) in
    sym (take-append-drop at image)
    ∙ ap (λ (l : List ℕ). take at image ++ l) (sym (take-append-drop count (drop at image)))
    ∙ sym (append_assoc (take at image) (piece at count image) (drop count (drop at image)))
    ∙ ap (λ (l : List ℕ). l ++ piece at count image ++ drop count (drop at image)) torn.before
    ∙ ap (λ (l : List ℕ). take at old ++ piece at count image ++ l) (drop-drop count at image ∙ torn.behind ∙ ap (λ n. drop (at + n) old) (sym size))

-- a write that broke off is undone by writing what was there
pub undone : (at count : ℕ) (old image : List ℕ) → Torn at count old image → at + count ≤ length old → patched image at (piece at count old) ≡ old
undone at count old image torn fits =
    sym (torn_is at count image old (torn_back at count old image torn) (omega (arith, torn.same_length)))

-- of a piece, a front was written
pub torn_front : (bytes : List ℕ) (at reach : ℕ) (others : List ℕ) → at + length others ≤ length bytes → Torn at (length others) bytes (patched bytes at (take reach others))
torn_front bytes at reach others fits =
    let no_longer : length (take reach others) ≤ length others = simp length-take (omega arith) in
    torn_within at at (length (take reach others)) (length others) bytes (patched bytes at (take reach others))
    (torn_done bytes at (take reach others) (omega (arith, no_longer)))
    (omega arith)
    (omega (arith, no_longer))
