-- The last 16 blocks of 16 bytes, which are left of an image when those before are added to those after them.
use Rattle.std.specs.Prelude.{ℕ, ◌+◌, List, [], ◌∷◌, ◌++◌, map, slice_index_or, bit_xor}
use Rattle.std.specs.List.{fold, range_with_len}
use Rattle.std.specs.Simd.{first_chunks}
use Rattle.std.specs.Simd.Lanes.{zip2}
use Rattle.tbl_kinds.specs.Check.{after_byte}

abbrev pub added : List ℕ → List ℕ → List ℕ
added = zip2 bit_xor

-- to one more block those 1, 14 and 16 places before it are added
unfoldable pub after_block : List (List ℕ) → List ℕ → List (List ℕ)
after_block left block =
    let at = λ (place : ℕ). slice_index_or left place [] in
    map at (range_with_len 1 15) ++ added (added (added block (at 15)) (at 2)) (at 0) ∷ []

-- the same of 16 more blocks
abbrev pub after_blocks : List (List ℕ) → List ℕ → List (List ℕ)
after_blocks left bytes = fold after_block left (first_chunks 16 16 bytes)

-- the word of all blocks, by those that are left: to each are added those 1 and 14 places before it, among these
unfoldable pub word_of : List (List ℕ) → ℕ
word_of left =
    let at = λ (place : ℕ). slice_index_or left place [] in
    let ended = at 0 ∷ map (λ place. added (at (place + 1)) (at place)) (range_with_len 0 13) ++ added (added (at 14) (at 13)) (at 0) ∷ added (added (at 15) (at 14)) (at 1) ∷ [] in
    fold (fold after_byte) 0 ended
