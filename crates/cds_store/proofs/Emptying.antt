-- The live mark goes, and comes again over closed gates.
use Rattle.std.proofs.Common.{◌≡◌, inl, inr, ℕ, ◌*◌, ◌<◌, ◌≤◌, ◌==◌, List, [], ◌∷◌, length, take, drop, slice_index_or, true, false, not, refl, sym, ◌∙◌, ap, arith}
use Rattle.std.specs.Str.{bytes_eq}
use Rattle.std.proofs.lemmas.Bool.{cases_Bool, eqb-true}
use Rattle.std.proofs.lemmas.List.{get_or-take, get_or-drop, take-take}
use Rattle.tbl_kinds.specs.Numbers.{byte_at, piece, patched}
use Rattle.tbl_kinds.specs.Places.{bank_size}
use Rattle.tbl_outside.specs.Bank.{Torn}
use Rattle.tbl_outside.proofs.Pieces.{byte_before, piece_before, piece_behind}
use Rattle.cds_layout.specs.Entries.{gate_open, gate_at}
use Rattle.cds_layout.specs.Directory.{is_live, live_mark, is_first_version}
use Rattle.cds_store.specs.Boots.{is_dead, HasMark, AllShut, AreZeros, IsCleared, IsEmptied, Clears}
use Rattle.cds_store.proofs.Bytes.{read_again}
use Rattle.cds_store.proofs.Frames.{gate_stays}
use Rattle.cds_store.proofs.DirectoryEntries.{dead_is_emptied}

other_first : (x : ℕ) (xs : List ℕ) → not (x == 0x43) ≡ true → is_live (x ∷ xs) ≡ false
other_first x xs dead = elim (cases_Bool (x == 0x43)) [
  | inl same ↦ absurd (cc (ap not (sym same) ∙ dead))
  | inr other ↦ rw other refl
]

dead_not_live : (bytes : List ℕ) → is_dead bytes ≡ true → is_live bytes ≡ false
dead_not_live [] dead = refl
dead_not_live (x ∷ xs) dead = other_first x xs dead

pub dead_emptied : (bytes : List ℕ) → is_dead bytes ≡ true → IsEmptied bytes
dead_emptied bytes dead = dead_is_emptied bytes (dead_not_live bytes dead)

-- the first byte alone was written
first_written : (old image : List ℕ) → Torn 0 1 old image → byte_at 0 old ≡ byte_at 0 image → image ≡ old
first_written [] [] torn same = refl
first_written [] (y ∷ ys) torn same = absurd (omega (arith, torn.same_length))
first_written (x ∷ xs) [] torn same = absurd (omega (arith, torn.same_length))
first_written (x ∷ xs) (y ∷ ys) torn same = cc (same, torn.behind)

-- if the mark was there, it is there still, or no block is shown
pub first_torn : (old image : List ℕ) → byte_at 0 old ≡ 0x43 → Torn 0 1 old image → Clears old image
first_torn old image there torn = elim (cases_Bool (byte_at 0 image == 0x43)) [
  | inl still ↦ inl (first_written old image torn (there ∙ sym (eqb-true (byte_at 0 image) 0x43 still)))
  | inr gone ↦ inr (dead_emptied image (ap not gone))
]

-- a write after the first byte
pub still_dead : (at count : ℕ) (old image : List ℕ) → 0 < at → Torn at count old image → is_dead old ≡ true → is_dead image ≡ true
still_dead at count old image behind torn dead = ap (λ b. not (b == 0x43)) (byte_before at count old image 0 torn behind) ∙ dead

pub mark_stays : (old image : List ℕ) (count : ℕ) → Torn 16 count old image → HasMark old → HasMark image
mark_stays old image count torn mark = piece_before 16 count old image 1 3 torn (omega arith) ∙ mark

pub mark_behind : (old image : List ℕ) → Torn 0 1 old image → HasMark old → HasMark image
mark_behind old image torn mark = piece_behind 0 1 old image 1 3 torn (omega arith) ∙ mark

-- gates under zeros are closed
pub zeros_shut : (old new zeros : List ℕ) → bank_size ≤ length old → length zeros ≡ 8192 → AreZeros zeros → new ≡ patched old 16 zeros → AllShut new
zeros_shut old new zeros fits size all is n lt =
    let there : piece 16 8192 new ≡ zeros = read_again old new 16 8192 zeros size (omega (arith, fits)) is in
    let gate : gate_at new n ≡ 0 =
    sym (get_or-drop 16 new (64 * n) 0)
    ∙ sym (get_or-take 8192 (drop 16 new) (64 * n) 0 (omega (arith, lt)))
    ∙ ap (λ (l : List ℕ). slice_index_or l (64 * n) 0) there
    ∙ all (64 * n) in
    ap (λ g. g == gate_open) gate

pub shut_stays : (old image : List ℕ) → Torn 0 1 old image → AllShut old → AllShut image
shut_stays old image torn shut n lt = ap (λ g. g == gate_open) (gate_stays 0 1 old image torn n (inr (omega arith))) ∙ shut n lt

mark_and_first : (bytes : List ℕ) → byte_at 0 bytes ≡ 0x43 → HasMark bytes → is_live bytes ≡ true
mark_and_first [] first mark = absurd (cc mark)
mark_and_first (x ∷ xs) first mark =
    let letters : take 2 xs ≡ 0x44 ∷ 0x53 ∷ [] = sym (take-take 2 3 xs (omega arith)) ∙ ap (take 2) mark in
    ap (λ (l : List ℕ). bytes_eq l live_mark) (ap (λ (l : List ℕ). x ∷ l) letters ∙ ap (λ y. y ∷ 0x44 ∷ 0x53 ∷ []) first)

second_version : (bytes : List ℕ) → HasMark bytes → is_first_version bytes ≡ false
second_version bytes mark = ap (λ (byte : ℕ). byte == 0x31) (sym (get_or-drop 1 bytes 2 0) ∙ sym (get_or-take 3 (drop 1 bytes) 2 0 (omega arith)) ∙ ap (λ (l : List ℕ). slice_index_or l 2 0) mark)

pub cleared : (old new : List ℕ) → bank_size ≤ length old → new ≡ patched old 0 (0x43 ∷ []) → Torn 0 1 old new → HasMark old → AllShut old → IsCleared new
cleared old new fits is torn mark shut = record {
  live = mark_and_first new (first_is new (read_again old new 0 1 (0x43 ∷ []) refl (omega (arith, fits)) is)) (mark_behind old new torn mark);
  version = second_version new (mark_behind old new torn mark);
  shut = shut_stays old new torn shut;
}
  where
    first_is : (bytes : List ℕ) → take 1 bytes ≡ 0x43 ∷ [] → byte_at 0 bytes ≡ 0x43
    first_is [] one = absurd (cc one)
    first_is (x ∷ xs) one = cc one
