-- A block is added to those 1, 14 and 16 places after it, and the word of all blocks stays the same.
use Rattle.std.proofs.Common.{◌≡◌, ℕ, zero, suc, ◌+◌, ◌*◌, ◌-◌, ◌^◌, ◌<◌, ◌≤◌, List, [], ◌∷◌, ◌++◌, map, get_or, take, drop, length, replicate, bit_xor, ap, subst, sym, ◌∙◌, arith, refl, Fits, w8}
use Rattle.std.specs.List.{range_with_len, fold, flat_map}
use Rattle.std.specs.Simd.{first_chunks}
use Rattle.std.specs.Simd.Lanes.{zip2, Each1}
use Rattle.std.proofs.lemmas.List.{length-append, length-take-le, length-drop, length-replicate, take-append-drop, take_all}
use Rattle.std.proofs.Math.Nat.{suc-mul}
use Rattle.std.proofs.lemmas.List.Sums.{fold-append}
use Rattle.std.proofs.lemmas.Simd.{length-zip2, Each1-replicate, Each1-weaker as Each1-more}
use lib.Bits.{xor_assoc, xor_comm, xor_lt, xor_zero_r}
use Rattle.tbl_kinds.specs.Check.{after_byte}
use Rattle.check_word.specs.Later.{later}
use Rattle.check_word.specs.Left.{added, after_block, after_blocks, word_of}
use Rattle.check_word.proofs.Steps.{after_byte-xor, apart, later-xor, by_chunks}
use Rattle.check_word.proofs.Sums.{at, both, value, places, same_sums}
use Rattle.check_word.proofs.WordAgain.{after_bytes_fits, word_again}

-- ---- blocks

pub record IsBlock (block : List ℕ) : Type 0 where
  long : length block ≡ 16
  fits : fold after_byte 0 block < 2 ^ 16

-- so many bytes
pub record IsChunk (n : ℕ) (bytes : List ℕ) : Type 0 where
  long : length bytes ≡ n
  fits : Each1 (Fits w8) bytes

block_is : (bytes : List ℕ) → IsChunk 16 bytes → IsBlock bytes
block_is bytes h = record { long = h.long; fits = after_bytes_fits 0 bytes (omega arith) h.fits }

Each1-from : (P : ℕ → Type 0) (xs : List ℕ) → ((i : ℕ) → P (get_or xs i 0)) → Each1 P xs
Each1-from P [] h = tt
Each1-from P (x ∷ xs) h = (h 0, Each1-from P xs (λ i. h (suc i)))

Each1-drop : {A : Type 0} (P : A → Type 0) (n : ℕ) (xs : List A) → Each1 P xs → Each1 P (drop n xs)
Each1-drop P zero xs h = h
Each1-drop P (suc n) [] h = tt
Each1-drop P (suc n) (x ∷ xs) h = Each1-drop P n xs h.1

Each1-append : {A : Type 0} (P : A → Type 0) (xs ys : List A) → Each1 P xs → Each1 P ys → Each1 P (xs ++ ys)
Each1-append P [] ys h k = k
Each1-append P (x ∷ xs) ys h k = (h.0, Each1-append P xs ys h.1 k)

Each1-take : {A : Type 0} (P : A → Type 0) (n : ℕ) (xs : List A) → Each1 P xs → Each1 P (take n xs)
Each1-take P zero xs h = tt
Each1-take P (suc n) [] h = tt
Each1-take P (suc n) (x ∷ xs) h = (h.0, Each1-take P n xs h.1)

chunks_are : (n k : ℕ) (bytes : List ℕ) → k * n ≤ length bytes → Each1 (Fits w8) bytes → Each1 (IsChunk n) (first_chunks n k bytes)
chunks_are n zero bytes h f = tt
chunks_are n (suc k) bytes h f =
    let enough : n + k * n ≤ length bytes = omega (arith, h, suc-mul k n) in (
      record { long = length-take-le n bytes (omega (arith, enough)); fits = Each1-take (Fits w8) n bytes f },
      chunks_are n k (drop n bytes) (omega (arith, enough, length-drop n bytes)) (Each1-drop (Fits w8) n bytes f),
    )

-- the word after blocks
abbrev pub after_all : ℕ → List (List ℕ) → ℕ
after_all = fold (fold after_byte)

pub after_flat : (word : ℕ) (blocks : List (List ℕ)) → fold after_byte word (flat_map (λ x. x) blocks) ≡ after_all word blocks
after_flat word [] = refl
after_flat word (block ∷ blocks) =
    fold-append after_byte word block (flat_map (λ x. x) blocks)
    ∙ after_flat (fold after_byte word block) blocks

flat_length : (blocks : List (List ℕ)) → Each1 IsBlock blocks → length (flat_map (λ x. x) blocks) ≡ length blocks * 16
flat_length [] h = refl
flat_length (block ∷ blocks) h = omega (arith, length-append block (flat_map (λ x. x) blocks), h.0.long, flat_length blocks h.1)

-- a word goes past blocks
past : (word : ℕ) (blocks : List (List ℕ)) → Each1 IsBlock blocks → after_all word blocks ≡ bit_xor (later (length blocks * 16) word) (after_all 0 blocks)
past word blocks h =
    sym (after_flat word blocks)
    ∙ ap (λ w. fold after_byte w (flat_map (λ x. x) blocks)) (sym (xor_zero_r word))
    ∙ apart (flat_map (λ x. x) blocks) word 0
    ∙ (λ i. bit_xor (later (flat_length blocks h i) word) (after_flat 0 blocks i))

past_one : (word : ℕ) (block : List ℕ) → IsBlock block → fold after_byte word block ≡ bit_xor (later 16 word) (fold after_byte 0 block)
past_one word block h = past word (block ∷ []) (h, tt)

later-later : (m n word : ℕ) → later m (later n word) ≡ later (n + m) word
unfolding later
later-later m zero word = let same : m ≡ zero + m = omega arith in ap (λ k. later k word) same
later-later m (suc n) word = let more : suc (n + m) ≡ suc n + m = omega arith in later-later m n (after_byte word 0) ∙ ap (λ k. later k word) more

-- ---- blocks added up

added-from : (a b : ℕ) (xs ys : List ℕ) → length xs ≡ length ys → fold after_byte (bit_xor a b) (added xs ys) ≡ bit_xor (fold after_byte a xs) (fold after_byte b ys)
added-from a b [] [] h = refl
added-from a b [] (y ∷ ys) h = absurd (omega (arith, h))
added-from a b (x ∷ xs) [] h = absurd (omega (arith, h))
added-from a b (x ∷ xs) (y ∷ ys) h =
    ap (λ word. fold after_byte word (added xs ys)) (after_byte-xor a b x y)
    ∙ added-from (after_byte a x) (after_byte b y) xs ys (omega (arith, h))

word-added : (xs ys : List ℕ) → IsBlock xs → IsBlock ys → fold after_byte 0 (added xs ys) ≡ bit_xor (fold after_byte 0 xs) (fold after_byte 0 ys)
word-added xs ys h k = added-from 0 0 xs ys (h.long ∙ sym k.long)

added_is : (xs ys : List ℕ) → IsBlock xs → IsBlock ys → IsBlock (added xs ys)
added_is xs ys h k = record {
  long = length-zip2 bit_xor xs ys (h.long ∙ sym k.long) ∙ h.long;
  fits = subst (λ (n : ℕ). n < 2 ^ 16) (sym (word-added xs ys h k)) (xor_lt 16 _ _ h.fits k.fits);
}

-- ---- one more block

later_of_six : (n a b c d e f : ℕ) → later n (bit_xor (bit_xor (bit_xor a b) (bit_xor c d)) (bit_xor e f)) ≡ bit_xor (bit_xor (bit_xor (later n a) (later n b)) (bit_xor (later n c) (later n d))) (bit_xor (later n e) (later n f))
later_of_six n a b c d e f =
    later-xor n (bit_xor (bit_xor a b) (bit_xor c d)) (bit_xor e f)
    ∙ (λ i. bit_xor (later-xor n (bit_xor a b) (bit_xor c d) i) (later-xor n e f i))
    ∙ (λ i. bit_xor (bit_xor (later-xor n a b i) (later-xor n c d i)) (bit_xor (later n e) (later n f)))

-- what is added twice is gone
balance : (a b c d e f g h k : ℕ) → bit_xor (bit_xor (bit_xor a b) (bit_xor c d)) (bit_xor e (bit_xor (bit_xor (bit_xor f d) b) (bit_xor (bit_xor g h) k))) ≡ bit_xor (bit_xor (bit_xor (bit_xor k a) (bit_xor h c)) (bit_xor g e)) f
unfolding value places
balance a b c d e f g h k =
    same_sums (a ∷ b ∷ c ∷ d ∷ e ∷ f ∷ g ∷ h ∷ k ∷ [])
    (both (both (both (at 0) (at 1)) (both (at 2) (at 3))) (both (at 4) (both (both (both (at 5) (at 3)) (at 1)) (both (both (at 6) (at 7)) (at 8)))))
    (both (both (both (both (at 8) (at 0)) (both (at 7) (at 2))) (both (at 6) (at 4))) (at 5))
    refl

-- the word of all blocks: that of those that are left, of all but the last one, and of the first two, added up
by_fronts : List (List ℕ) → ℕ
by_fronts left = bit_xor (bit_xor (after_all 0 (take 2 left)) (after_all 0 (take 15 left))) (after_all 0 left)

pub record IsLeft (left : List (List ℕ)) : Type 0 where
  count : length left ≡ 16
  blocks : Each1 IsBlock left

one_more : (left : List (List ℕ)) (block : List ℕ) → IsLeft left → IsBlock block → IsLeft (after_block left block) × (by_fronts (after_block left block) ≡ fold after_byte (by_fronts left) block)
unfolding by_fronts after_block
one_more (b0 ∷ b1 ∷ b2 ∷ b3 ∷ b4 ∷ b5 ∷ b6 ∷ b7 ∷ b8 ∷ b9 ∷ b10 ∷ b11 ∷ b12 ∷ b13 ∷ b14 ∷ b15 ∷ []) block w h =
    let next = b1 ∷ b2 ∷ b3 ∷ b4 ∷ b5 ∷ b6 ∷ b7 ∷ b8 ∷ b9 ∷ b10 ∷ b11 ∷ b12 ∷ b13 ∷ b14 ∷ b15 ∷ [] in
    let most = b1 ∷ b2 ∷ b3 ∷ b4 ∷ b5 ∷ b6 ∷ b7 ∷ b8 ∷ b9 ∷ b10 ∷ b11 ∷ b12 ∷ b13 ∷ b14 ∷ [] in
    let word = fold after_byte 0 in
    let next_are : Each1 IsBlock next = w.blocks.1 in
    let most_are : Each1 IsBlock most = Each1-take IsBlock 14 next next_are in
    let h0 : IsBlock b0 = w.blocks.0 in
    let h1 : IsBlock b1 = next_are.0 in
    let h2 : IsBlock b2 = next_are.1.0 in
    let h15 : IsBlock b15 = next_are.1.1.1.1.1.1.1.1.1.1.1.1.1.1.0 in
    let first = added block b15 in
    let first_is : IsBlock first = added_is block b15 h h15 in
    let second = added first b2 in
    let second_is : IsBlock second = added_is first b2 first_is h2 in
    let new = added second b0 in
    let new_is : IsBlock new = added_is second b0 second_is h0 in
    let before = after_all 0 most in
    let now = after_all 0 next in
    let now_is : now ≡ bit_xor (later 16 before) (word b15) = past_one before b15 h15 in
    let sum : word new ≡ bit_xor (bit_xor (bit_xor (word block) (word b15)) (word b2)) (bit_xor (bit_xor (later 256 (word b0)) (later 240 (word b0))) (later 32 (word b0))) =
    word-added second b0 second_is h0
    ∙ (λ i. bit_xor ((word-added first b2 first_is h2 ∙ ap (λ x. bit_xor x (word b2)) (word-added block b15 h h15)) i) (word_again (word b0) h0.fits i)) in (
      record { count = refl; blocks = Each1-append IsBlock next (new ∷ []) next_are (new_is, tt) },
      (λ i. bit_xor (bit_xor (past_one (word b1) b2 h2 i) (now_is i)) ((past_one now new new_is ∙ ap (bit_xor (later 16 now)) sum) i))
          ∙ balance (later 16 (word b1)) (word b2) (later 16 before) (word b15) (later 16 now) (word block) (later 256 (word b0)) (later 240 (word b0)) (later 32 (word b0))
          ∙ sym (past_one (by_fronts (b0 ∷ next)) block h
          ∙ ap (λ x. bit_xor (later 16 x) (word block)) (λ i. bit_xor (bit_xor (past_one (word b0) b1 h1 i) (past (word b0) most most_are i)) (past (word b0) next next_are i))
          ∙ ap (λ x. bit_xor x (word block)) (later_of_six 16 (later 16 (word b0)) (word b1) (later 224 (word b0)) before (later 240 (word b0)) now
          ∙ (λ i. bit_xor (bit_xor (bit_xor (later-later 16 16 (word b0) i) (later 16 (word b1))) (bit_xor (later-later 16 224 (word b0) i) (later 16 before))) (bit_xor (later-later 16 240 (word b0) i) (later 16 now))))),
    )
one_more other block w h = absurd (omega (arith, w.count))

-- ---- all blocks

each_more : (f : List (List ℕ) → List ℕ → List (List ℕ)) (P : List ℕ → Type 0) →
    ((left : List (List ℕ)) (x : List ℕ) → IsLeft left → P x → IsLeft (f left x) × (by_fronts (f left x) ≡ fold after_byte (by_fronts left) x)) →
    (left xs : List (List ℕ)) → IsLeft left → Each1 P xs → IsLeft (fold f left xs) × (by_fronts (fold f left xs) ≡ after_all (by_fronts left) xs)
each_more f P one left [] w h = (w, refl)
each_more f P one left (x ∷ xs) w h =
    let more = one left x w h.0 in
    let rest = each_more f P one (f left x) xs more.0 h.1 in
    (rest.0, rest.1 ∙ ap (λ word. after_all word xs) more.1)

more_blocks : (left : List (List ℕ)) (bytes : List ℕ) → IsLeft left → IsChunk 256 bytes → IsLeft (after_blocks left bytes) × (by_fronts (after_blocks left bytes) ≡ fold after_byte (by_fronts left) bytes)
more_blocks left bytes w h =
    let blocks = first_chunks 16 16 bytes in
    let blocks_are : Each1 IsBlock blocks = Each1-more (IsChunk 16) IsBlock block_is blocks (chunks_are 16 16 bytes (omega (arith, h.long)) h.fits) in
    let all = each_more after_block IsBlock one_more left blocks w blocks_are in (
      all.0,
      all.1
          ∙ by_chunks after_byte 16 16 (by_fronts left) bytes
          ∙ ap (fold after_byte (by_fronts left)) (take_all 256 bytes (omega (arith, h.long))),
    )

no_blocks : List (List ℕ)
no_blocks = replicate 16 (replicate 16 0)

none_left : IsLeft no_blocks
unfolding no_blocks after_byte
none_left = record { count = refl; blocks = Each1-replicate IsBlock 16 (replicate 16 0) (record { long = refl; fits = omega arith }) }

no_word : by_fronts no_blocks ≡ 0
unfolding no_blocks by_fronts after_byte
no_word = refl

zeros_first : (n : ℕ) (bytes : List ℕ) → fold after_byte 0 (replicate n 0 ++ bytes) ≡ fold after_byte 0 bytes
unfolding after_byte
zeros_first zero bytes = refl
zeros_first (suc n) bytes = zeros_first n bytes

-- ---- the end

added-all : (a b : ℕ) (xs ys : List (List ℕ)) → length xs ≡ length ys → Each1 IsBlock xs → Each1 IsBlock ys → after_all (bit_xor a b) (zip2 added xs ys) ≡ bit_xor (after_all a xs) (after_all b ys)
added-all a b [] [] e h k = refl
added-all a b [] (y ∷ ys) e h k = absurd (omega (arith, e))
added-all a b (x ∷ xs) [] e h k = absurd (omega (arith, e))
added-all a b (x ∷ xs) (y ∷ ys) e h k =
    ap (λ word. after_all word (zip2 added xs ys)) (added-from a b x y (h.0.long ∙ sym k.0.long))
    ∙ added-all (fold after_byte a x) (fold after_byte b y) xs ys (omega (arith, e)) h.1 k.1

ended_is : (left : List (List ℕ)) → IsLeft left → word_of left ≡ by_fronts left
unfolding word_of by_fronts
ended_is (b0 ∷ b1 ∷ b2 ∷ b3 ∷ b4 ∷ b5 ∷ b6 ∷ b7 ∷ b8 ∷ b9 ∷ b10 ∷ b11 ∷ b12 ∷ b13 ∷ b14 ∷ b15 ∷ []) w =
    let left = b0 ∷ b1 ∷ b2 ∷ b3 ∷ b4 ∷ b5 ∷ b6 ∷ b7 ∷ b8 ∷ b9 ∷ b10 ∷ b11 ∷ b12 ∷ b13 ∷ b14 ∷ b15 ∷ [] in
    let most = take 15 left in
    let most_are : Each1 IsBlock most = Each1-take IsBlock 15 left w.blocks in
    let w0 = fold after_byte 0 b0 in
    let pairs : List (List ℕ) = zip2 added (drop 1 left) most in
    let word = after_all w0 (take 13 pairs) in
    let ends : List (List ℕ) = drop 13 pairs in
    let ends_are : Each1 IsBlock ends = (added_is b14 b13 (Each1-drop IsBlock 14 left w.blocks).0 (Each1-drop IsBlock 13 left w.blocks).0, (added_is b15 b14 (Each1-drop IsBlock 15 left w.blocks).0 (Each1-drop IsBlock 14 left w.blocks).0, tt)) in
    let all : after_all word ends ≡ bit_xor (after_all 0 left) (after_all 0 most) =
    ap (λ x. after_all x pairs) (sym (xor_zero_r w0))
    ∙ added-all w0 0 (drop 1 left) most refl w.blocks.1 most_are in
    let first_two : Each1 IsBlock (take 2 left) = Each1-take IsBlock 2 left w.blocks in
    ap (λ x. after_all x (zip2 added ends (take 2 left))) (sym (xor_zero_r word))
    ∙ added-all word 0 ends (take 2 left) refl ends_are first_two
    ∙ ap (λ x. bit_xor x (after_all 0 (take 2 left))) all
    ∙ xor_comm (bit_xor (after_all 0 left) (after_all 0 most)) (after_all 0 (take 2 left))
    ∙ ap (bit_xor (after_all 0 (take 2 left))) (xor_comm (after_all 0 left) (after_all 0 most))
    ∙ sym (xor_assoc (after_all 0 (take 2 left)) (after_all 0 most) (after_all 0 left))
ended_is other w = absurd (omega (arith, w.count))

-- ---- what the code does

pub by_ended : (left : List (List ℕ)) →
    let at = λ (place : ℕ). get_or left place [] in
    let ended = at 0 ∷ map (λ place. added (at (place + 1)) (at place)) (range_with_len 0 13) ++ added (added (at 14) (at 13)) (at 0) ∷ added (added (at 15) (at 14)) (at 1) ∷ [] in
    fold after_byte 0 (flat_map (λ block. block) ended) ≡ word_of left
unfolding word_of
by_ended left =
    let at = λ (place : ℕ). get_or left place [] in
    after_flat 0 (at 0 ∷ map (λ place. added (at (place + 1)) (at place)) (range_with_len 0 13) ++ added (added (at 14) (at 13)) (at 0) ∷ added (added (at 15) (at 14)) (at 1) ∷ [])

pub by_left : (m k : ℕ) (bytes : List ℕ) → m ≤ 256 → m + k * 256 ≡ length bytes → ((i : ℕ) → Fits w8 (get_or bytes i 0)) →
    let front = replicate (256 - m) 0 ++ take m bytes in
    word_of (fold after_blocks (after_blocks (replicate 16 (replicate 16 0)) front) (first_chunks 256 k (drop m bytes))) ≡ fold after_byte 0 bytes
unfolding no_blocks
by_left m k bytes small len f =
    let first = take m bytes in
    let others = drop m bytes in
    let front = replicate (256 - m) 0 ++ first in
    let bytes_fit : Each1 (Fits w8) bytes = Each1-from (Fits w8) bytes f in
    let zero_fits : Fits w8 0 = record { fits = omega arith } in
    let front_is : IsChunk 256 front = record {
      long = length-append (replicate (256 - m) 0) first ∙ omega (arith, small, len, length-replicate {A = ℕ} (256 - m) 0, length-take-le m bytes (omega (arith, len)));
      fits = Each1-append (Fits w8) (replicate (256 - m) 0) first (Each1-replicate (Fits w8) (256 - m) 0 zero_fits) (Each1-take (Fits w8) m bytes bytes_fit);
    } in
    let others_long : length others ≡ k * 256 = omega (arith, len, length-drop m bytes) in
    let begun = more_blocks no_blocks front none_left front_is in
    let all = each_more after_blocks (IsChunk 256) more_blocks (after_blocks no_blocks front) (first_chunks 256 k others) begun.0 (chunks_are 256 k others (omega (arith, others_long)) (Each1-drop (Fits w8) m bytes bytes_fit)) in
    let word : by_fronts (after_blocks no_blocks front) ≡ fold after_byte 0 first = begun.1 ∙ ap (λ x. fold after_byte x front) no_word ∙ zeros_first (256 - m) first in
    ended_is (fold after_blocks (after_blocks no_blocks front) (first_chunks 256 k others)) all.0
    ∙ all.1
    ∙ ap (λ x. after_all x (first_chunks 256 k others)) word
    ∙ by_chunks after_byte 256 k (fold after_byte 0 first) others
    ∙ ap (fold after_byte (fold after_byte 0 first)) (take_all (k * 256) others (omega (arith, others_long)))
    ∙ sym (fold-append after_byte 0 first others)
    ∙ ap (fold after_byte 0) (take-append-drop m bytes)
