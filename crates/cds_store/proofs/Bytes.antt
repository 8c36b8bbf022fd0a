-- What is read of bytes that were written over.
use Rattle.std.proofs.Common.{◌≡◌, ℕ, ◌+◌, ◌^◌, ◌<◌, ◌≤◌, List, [], ◌∷◌, length, take, drop, slice_index_or, Some, refl, sym, ◌∙◌, ap, arith, length-append}
use Rattle.std.specs.Int.{w16, w32, from_be_bytes}
use Rattle.std.proofs.lemmas.Bool.{eq-eqb}
use Rattle.std.proofs.lemmas.List.{take-take, drop-take, drop-drop, get_or-drop}
use Rattle.std.proofs.Math.Seq.{take-length}
use Rattle.std.proofs.lemmas.Nat.{from_be_bytes-to_be_bytes_2, from_be_bytes-to_be_bytes_4}
use Rattle.tbl_kinds.specs.Check.{check16}
use Rattle.tbl_kinds.specs.declared.block.Block.{Block}
use Rattle.tbl_kinds.specs.Numbers.{piece, patched, byte_at}
use Rattle.tbl_outside.proofs.Pieces.{piece-patched}
use Rattle.cds_layout.specs.Images.{place_at, block_head, head_len, spelled, held_by}
use Rattle.cds_layout.specs.declared.turns.Place.{Place}

-- a piece of a piece
pub inner : (bytes inside : List ℕ) (at count from size : ℕ) → piece at count bytes ≡ inside → from + size ≤ count → piece (at + from) size bytes ≡ piece from size inside
inner bytes inside at count from size is fits =
    sym (ap (take size) (drop-drop from at bytes))
    ∙ sym (drop-take from size (drop at bytes))
    ∙ ap (drop from) (sym (take-take (from + size) count (drop at bytes) fits))
    ∙ drop-take from size (take count (drop at bytes))
    ∙ ap (λ (l : List ℕ). take size (drop from l)) is

pub front : (bytes inside : List ℕ) (at count size : ℕ) → piece at count bytes ≡ inside → size ≤ count → piece at size bytes ≡ take size inside
front bytes inside at count size is fits = sym (take-take size count (drop at bytes) fits) ∙ ap (take size) is

-- what was written is read again
pub read_again : (old new : List ℕ) (at count : ℕ) (others : List ℕ) → length others ≡ count → at + count ≤ length old → new ≡ patched old at others → piece at count new ≡ others
read_again old new at count others size fits is = rw (is, ← size) (piece-patched old at others (rw size fits))

-- a single byte that was written
pub byte_written : (old new : List ℕ) (at x : ℕ) → at + 1 ≤ length old → new ≡ patched old at (x ∷ []) → byte_at at new ≡ x
byte_written old new at x fits is = by (drop at new) refl (read_again old new at 1 (x ∷ []) refl fits is)
  where
    by : (rest : List ℕ) → drop at new ≡ rest → take 1 rest ≡ x ∷ [] → byte_at at new ≡ x
    by rest there one =
        let same : at ≡ at + 0 = omega arith in
        ap (λ n. slice_index_or new n 0) same ∙ sym (get_or-drop at new 0 0) ∙ ap (λ (l : List ℕ). slice_index_or l 0 0) there ∙ first rest one
      where
        first : (l : List ℕ) → take 1 l ≡ x ∷ [] → slice_index_or l 0 0 ≡ x
        first [] is = absurd (cc is)
        first (y ∷ ys) is = cc is

-- ---- an image that is written into a place is read again

pub length-spelled : (copy : List ℕ) (size : ℕ) → length copy ≡ size → length (spelled size copy) ≡ head_len + size
unfolding spelled block_head
length-spelled copy size is = omega (arith, length-append (block_head size (check16 copy)) copy, is, let eight : length (block_head size (check16 copy)) ≡ 8 = refl in eight)

pub spelled_is_whole : (bytes copy : List ℕ) (b : Block) (place : Place) → length copy ≡ b.size → b.size < 2 ^ 32 → check16 copy < 2 ^ 16 → piece (place_at b place) (head_len + b.size) bytes ≡ spelled b.size copy → held_by bytes b (Some place) ≡ Some copy
unfolding spelled block_head
spelled_is_whole bytes copy b place is small check there =
    let at = place_at b place in
    let length_is = ap (from_be_bytes w32) (front bytes (spelled b.size copy) at (head_len + b.size) 4 there (omega arith)) ∙ from_be_bytes-to_be_bytes_4 b.size small in
    let word_is = ap (from_be_bytes w16) (inner bytes (spelled b.size copy) at (head_len + b.size) 4 2 there (omega arith)) ∙ from_be_bytes-to_be_bytes_2 (check16 copy) check in
    let data_is = inner bytes (spelled b.size copy) at (head_len + b.size) 8 b.size there (omega arith) ∙ ap (λ n. take n copy) (sym is) ∙ take-length copy in
    rw (length_is, word_is, data_is, eq-eqb b.size b.size refl, eq-eqb (check16 copy) (check16 copy) refl) refl
