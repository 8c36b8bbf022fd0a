-- The check word is linear over exclusive-or, so each byte of a step is added by itself, from the table of its place.
use Rattle.std.proofs.Common.{◌≡◌, ℕ, zero, suc, ◌+◌, ◌*◌, ◌-◌, ◌/◌, ◌%◌, ◌<◌, ◌≤◌, ◌==◌, Bool, true, false, cond, List, [], ◌∷◌, map, get_or, take, drop, length, bit_xor, ap, sym, ◌∙◌, arith, refl, zero-add, zero-mul}
use Rattle.std.specs.List.{range_with_len, fold}
use Rattle.std.specs.Simd.{first_chunks}
use Rattle.std.proofs.lemmas.List.{take-append-drop}
use Rattle.std.proofs.lemmas.List.Sums.{fold-append, fold_more}
use Rattle.std.proofs.lemmas.List.FromFn.{get_or-map-range_with_len}
use Rattle.std.proofs.Math.Nat.{suc-mul}
use Rattle.std.proofs.Math.Seq.{take-add}
use lib.Bits.{xor_comm, xor_assoc, xor_shr, xor_mod, xor_shifted, xor_zero_r}
use Rattle.tbl_kinds.specs.Check.{after_bit, after_bits, after_byte}
use Rattle.check_word.specs.Later.{later}
use Rattle.check_word.specs.declared.TheConstants.{PLACES}

-- ---- the tables, computed

words_of : ℕ → List ℕ
words_of place = map (later (32 - place)) (range_with_len 0 256)

each_place : PLACES ≡ map words_of (range_with_len 0 32)
unfolding words_of later after_byte
each_place = refl

pub word_is : (place byte : ℕ) → place < 32 → byte < 256 → get_or (get_or PLACES place []) byte 0 ≡ later (32 - place) byte
unfolding words_of
word_is place byte h b =
    ap (λ (places : List (List ℕ)). get_or (get_or places place []) byte 0) each_place
    ∙ ap (λ (words : List ℕ). get_or words byte 0) (get_or-map-range_with_len words_of 0 32 place place [] h (zero-add place))
    ∙ get_or-map-range_with_len (later (32 - place)) 0 256 byte byte 0 b (zero-add byte)

-- ---- linearity

pub swap : (a b c d : ℕ) → bit_xor (bit_xor a b) (bit_xor c d) ≡ bit_xor (bit_xor a c) (bit_xor b d)
swap a b c d =
    xor_assoc a b (bit_xor c d)
    ∙ ap (bit_xor a) (sym (xor_assoc b c d) ∙ ap (λ x. bit_xor x d) (xor_comm b c) ∙ xor_assoc c b d)
    ∙ sym (xor_assoc a c (bit_xor b d))

-- what the bit that goes out adds
unfoldable pub part : ℕ → ℕ
part bit = cond (bit == 1) 0xA001 0

part-xor : (p q : ℕ) → p < 2 → q < 2 → part (bit_xor p q) ≡ bit_xor (part p) (part q)
unfolding part
part-xor zero q _ _ = refl
part-xor (suc zero) zero _ _ = refl
part-xor (suc zero) (suc zero) _ _ = refl
part-xor (suc zero) (suc (suc q)) _ h = absurd (omega arith)
part-xor (suc (suc p)) q h _ = absurd (omega arith)

choice : (b : Bool) (q k : ℕ) → cond b (bit_xor q k) q ≡ bit_xor q (cond b k 0)
choice true q k = refl
choice false q k = sym (xor_zero_r q)

pub after_bit-is : (word : ℕ) → after_bit word ≡ bit_xor (word / 2) (part (word % 2))
unfolding part
after_bit-is word = choice (word % 2 == 1) (word / 2) 0xA001

after_bit-xor : (a b : ℕ) → after_bit (bit_xor a b) ≡ bit_xor (after_bit a) (after_bit b)
after_bit-xor a b =
    after_bit-is (bit_xor a b)
    ∙ (λ i. bit_xor (xor_shr a b 1 i) (part (xor_mod a b 1 i)))
    ∙ ap (bit_xor (bit_xor (a / 2) (b / 2))) (part-xor (a % 2) (b % 2) (omega arith) (omega arith))
    ∙ swap (a / 2) (b / 2) (part (a % 2)) (part (b % 2))
    ∙ sym (λ i. bit_xor (after_bit-is a i) (after_bit-is b i))

after_bits-xor : (n a b : ℕ) → after_bits n (bit_xor a b) ≡ bit_xor (after_bits n a) (after_bits n b)
after_bits-xor zero a b = refl
after_bits-xor (suc n) a b = ap (after_bits n) (after_bit-xor a b) ∙ after_bits-xor n (after_bit a) (after_bit b)

pub after_byte-xor : (a b x y : ℕ) → after_byte (bit_xor a b) (bit_xor x y) ≡ bit_xor (after_byte a x) (after_byte b y)
unfolding after_byte
after_byte-xor a b x y = ap (after_bits 8) (swap a b x y) ∙ after_bits-xor 8 (bit_xor a x) (bit_xor b y)

-- two words, of which the bytes go into the second
pub apart : (bytes : List ℕ) (a b : ℕ) → fold after_byte (bit_xor a b) bytes ≡ bit_xor (later (length bytes) a) (fold after_byte b bytes)
unfolding later
apart [] a b = refl
apart (x ∷ bytes) a b = ap (λ word. fold after_byte word bytes) (after_byte-xor a b 0 x) ∙ apart bytes (after_byte a 0) (after_byte b x)

pub later-xor : (n a b : ℕ) → later n (bit_xor a b) ≡ bit_xor (later n a) (later n b)
unfolding later
later-xor zero a b = refl
later-xor (suc n) a b = ap (later n) (after_byte-xor a b 0 0) ∙ later-xor n (after_byte a 0) (after_byte b 0)

-- ---- a word by its two bytes: of the high one, all eight bits only move down

-- a number with so many zero bits below it
above : ℕ → ℕ → ℕ
above zero c = c
above (suc n) c = above n c * 2

after_bit-above : (c : ℕ) → after_bit (c * 2) ≡ c
after_bit-above c =
    let even : c * 2 % 2 ≡ 0 = omega arith in
    let half : c * 2 / 2 ≡ c = omega arith in
    (λ i. cond (even i == 1) (bit_xor (half i) 0xA001) (half i))

after_bits-above : (n c : ℕ) → after_bits n (above n c) ≡ c
unfolding above
after_bits-above zero c = refl
after_bits-above (suc n) c = ap (after_bits n) (after_bit-above (above n c)) ∙ after_bits-above n c

high_moves : (c : ℕ) → after_byte (c * 256) 0 ≡ c
unfolding after_byte above
high_moves c =
    let high : c * 256 ≡ above 8 c = omega arith in
    ap (after_bits 8) (xor_zero_r (c * 256) ∙ high) ∙ after_bits-above 8 c

halves : (word : ℕ) → word ≡ bit_xor (word % 256) (word / 256 * 256)
halves word =
    let below : word % 256 < 256 = omega arith in
    let sum : word ≡ word / 256 * 256 + word % 256 = omega arith in
    sum ∙ sym (xor_shifted (word / 256) 8 (word % 256) below) ∙ xor_comm (word / 256 * 256) (word % 256)

by_bytes : (n word : ℕ) → bit_xor (later (suc n) (word % 256)) (later n (word / 256)) ≡ later (suc n) word
unfolding later
by_bytes n word =
    ap (λ high. bit_xor (later (suc n) (word % 256)) (later n high)) (sym (high_moves (word / 256)))
    ∙ sym (later-xor (suc n) (word % 256) (word / 256 * 256))
    ∙ ap (later (suc n)) (sym (halves word))

-- ---- what the code does

byte_in : (word byte : ℕ) → after_byte (bit_xor word byte) 0 ≡ after_byte word byte
unfolding after_byte
byte_in word byte = ap (after_bits 8) (xor_zero_r (bit_xor word byte))

pub after_byte_is : (word byte : ℕ) → bit_xor (later 1 (bit_xor word byte % 256)) (bit_xor word byte / 256) ≡ after_byte word byte
unfolding later
after_byte_is word byte = by_bytes 0 (bit_xor word byte) ∙ byte_in word byte

pub more_of_step : (step : List ℕ) (place : ℕ) → place < 32 → place < length step →
    bit_xor (later (32 - place) (fold after_byte 0 (take place step))) (later (32 - place) (get_or step place 0))
    ≡ later (32 - (place + 1)) (fold after_byte 0 (take (place + 1) step))
unfolding later
more_of_step step place within h =
    let word = fold after_byte 0 (take place step) in
    let byte = get_or step place 0 in
    let left = 32 - (place + 1) in
    let one_more : 32 - place ≡ suc left = omega arith in
    (λ i. bit_xor (later (one_more i) word) (later (one_more i) byte))
    ∙ sym (later-xor (suc left) word byte)
    ∙ ap (later left) (byte_in word byte ∙ sym (fold_more after_byte 0 step place 0 h))

-- ---- a word goes into the first two bytes after it

into_first : (word a : ℕ) → after_byte word a ≡ bit_xor (after_byte 0 (bit_xor a (word % 256))) (word / 256)
unfolding after_byte
into_first word a =
    let low = word % 256 in
    let high = word / 256 in
    (λ i. after_byte (halves word i) (sym (xor_zero_r a) i))
    ∙ after_byte-xor low (high * 256) a 0
    ∙ (λ i. bit_xor (after_bits 8 ((xor_comm low a ∙ sym (xor_zero_r (bit_xor a low)) ∙ xor_comm (bit_xor a low) 0) i)) (high_moves high i))

into_second : (word high b : ℕ) → after_byte (bit_xor word high) b ≡ after_byte word (bit_xor b high)
unfolding after_byte
into_second word high b = ap (after_bits 8) (xor_assoc word high b ∙ ap (bit_xor word) (xor_comm high b))

-- the bytes of a step, without its first two
abbrev pub rest_of : List ℕ → List ℕ
rest_of step = 0 ∷ 0 ∷ drop 2 step

rest_at : (step : List ℕ) (place : ℕ) → 2 ≤ place → get_or (rest_of step) place 0 ≡ get_or step place 0
rest_at step zero h = absurd (omega (arith, h))
rest_at step (suc zero) h = absurd (omega (arith, h))
rest_at [] (suc (suc k)) h = refl
rest_at (a ∷ []) (suc (suc k)) h = refl
rest_at (a ∷ b ∷ rest) (suc (suc k)) h = refl

pub rest_length : (step : List ℕ) → 2 ≤ length step → length (rest_of step) ≡ length step
rest_length [] h = absurd (omega (arith, h))
rest_length (a ∷ []) h = absurd (omega (arith, h))
rest_length (a ∷ b ∷ rest) h = refl

pub more_of_rest : (step : List ℕ) (place : ℕ) → 2 ≤ place → place < 32 → length step ≡ 32 →
    bit_xor (later (32 - place) (fold after_byte 0 (take place (rest_of step)))) (later (32 - place) (get_or step place 0))
    ≡ later (32 - (place + 1)) (fold after_byte 0 (take (place + 1) (rest_of step)))
more_of_rest step place least within len =
    ap (λ byte. bit_xor (later (32 - place) (fold after_byte 0 (take place (rest_of step)))) (later (32 - place) byte)) (sym (rest_at step place least))
    ∙ more_of_step (rest_of step) place within (omega (arith, within, len, rest_length step (omega (arith, len))))

-- a byte that goes into no word is added to those after it
first_apart : (byte : ℕ) (bytes : List ℕ) → fold after_byte 0 (byte ∷ bytes) ≡ bit_xor (later (suc (length bytes)) byte) (fold after_byte 0 bytes)
unfolding later after_byte
first_apart byte bytes =
    ap (λ word. fold after_byte word bytes) (sym (byte_in 0 byte) ∙ ap (λ word. after_byte word 0) (sym (xor_zero_r byte)))
    ∙ apart (0 ∷ bytes) byte 0

pub after_step_is : (word : ℕ) (step : List ℕ) → length step ≡ 32 →
    let first = bit_xor (get_or step 0 0) (word % 256) in
    let second = bit_xor (get_or step 1 0) (word / 256) in
    bit_xor (fold after_byte 0 (rest_of step)) (bit_xor (later 32 first) (later 31 second)) ≡ fold after_byte word step
unfolding after_byte
after_step_is word [] h = absurd (omega (arith, h))
after_step_is word (a ∷ []) h = absurd (omega (arith, h))
after_step_is word (a ∷ b ∷ rest) h =
    let first = bit_xor a (word % 256) in
    let second = bit_xor b (word / 256) in
    let alone = fold after_byte 0 rest in
    let left : length rest ≡ 30 = omega (arith, h) in
    xor_comm alone (bit_xor (later 32 first) (later 31 second))
    ∙ xor_assoc (later 32 first) (later 31 second) alone
    ∙ sym (first_apart first (second ∷ rest)
    ∙ (λ i. bit_xor (later (suc (suc (left i))) first) (first_apart second rest i))
    ∙ ap (λ n. bit_xor (later 32 first) (bit_xor (later (suc n) second) alone)) left)
    ∙ sym (ap (λ from. fold after_byte from rest)
    (ap (λ from. after_byte from b) (into_first word a) ∙ into_second (after_byte 0 first) (word / 256) b))

-- ---- in chunks

pub by_chunks : {A B : Type 0} (f : B → A → B) (n k : ℕ) (a : B) (xs : List A) → fold (fold f) a (first_chunks n k xs) ≡ fold f a (take (k * n) xs)
by_chunks f n zero a xs = ap (λ (m : ℕ). fold f a (take m xs)) (sym (zero-mul n))
by_chunks f n (suc k) a xs =
    by_chunks f n k (fold f a (take n xs)) (drop n xs)
    ∙ sym (fold-append f a (take n xs) (take (k * n) (drop n xs)))
    ∙ ap (fold f a) (sym (take-add n (k * n) xs) ∙ ap (λ m. take m xs) (omega (arith, suc-mul k n)))

pub in_chunks : {A B : Type 0} (f : B → A → B) (n k : ℕ) (a : B) (xs : List A) → fold f (fold (fold f) a (first_chunks n k xs)) (drop (k * n) xs) ≡ fold f a xs
in_chunks f n k a xs =
    ap (λ b. fold f b (drop (k * n) xs)) (by_chunks f n k a xs)
    ∙ sym (fold-append f a (take (k * n) xs) (drop (k * n) xs))
    ∙ ap (fold f a) (take-append-drop (k * n) xs)
