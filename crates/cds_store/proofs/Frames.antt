-- What a write that broke off leaves of the entries and the blocks outside its range.
use Rattle.std.proofs.Common.{◌≡◌, ◌∙◌, ◌≢◌, ◌⊎◌, inl, inr, ⊎_elim, ℕ, ◌+◌, ◌<◌, ◌≤◌, ◌==◌, ◌&&◌, cond, List, take, drop, slice_index_or, true, Option, Some, None, refl, ap, arith}
use Rattle.std.proofs.lemmas.Bool.{cases_lt}
use Rattle.std.specs.Str.{bytes_eq}
use Rattle.std.specs.Int.{w16, w32, from_be_bytes}
use Rattle.tbl_kinds.specs.Check.{check16}
use Rattle.tbl_kinds.specs.Places.{blocks_begin, between_places}
use Rattle.tbl_kinds.specs.declared.block.Block.{Block}
use Rattle.tbl_outside.specs.Bank.{Torn}
use Rattle.tbl_outside.proofs.Pieces.{piece_before, piece_behind, byte_before, byte_behind}
use Rattle.cds_layout.specs.Entries.{slot_count, gate_at, gate_place, told_at, told_len, tail_place, tail_len, turns_place, turns_len, turn_place}
use Rattle.cds_layout.specs.Directory.{is_live, live_mark, is_first_version, version_place, agree}
use Rattle.cds_layout.specs.Images.{place_at, head_len, data_place, turn_in, turned_in, shown_in, held_by, held_in}
use Rattle.cds_layout.specs.Turns.{turn_of, shown_by}
use Rattle.cds_layout.specs.declared.turns.Place.{Place}
use Rattle.cds_layout.specs.declared.turns.Place.TheVariants.{First, Second}
use Rattle.cds_store.specs.Sound.{slot_at, AreTogether}
use Rattle.cds_store.specs.declared.slot.Slot.{Slot}
use Rattle.cds_store.proofs.Changes.{Elsewhere}
use Rattle.cds_layout.proofs.EntryLaws.{IsRight, right-parts}
use Rattle.cds_store.proofs.Together.{there_within, ends_before}

-- the range ends before these bytes begin, or begins where they end
abbrev pub IsApart : ℕ → ℕ → ℕ → ℕ → Type 0
IsApart at count from size = (from + size ≤ at) ⊎ (at + count ≤ from)

-- a part of what the range is apart from
pub part : (at count from size low most : ℕ) → IsApart at count low most → low ≤ from → from + size ≤ low + most → IsApart at count from size
part at count from size low most (inl before) begins ends = inl (omega (arith, before, ends))
part at count from size low most (inr behind) begins ends = inr (omega (arith, behind, begins))

-- a place begins where the block does, or further on
pub place_low : (b : Block) (place : Place) → b.offset ≤ place_at b place
place_low b First = omega arith
place_low b Second = omega arith

module _ (at count : ℕ) (old image : List ℕ) (torn : Torn at count old image) where
  pub piece_stays : (from size : ℕ) → IsApart at count from size → take size (drop from image) ≡ take size (drop from old)
  piece_stays from size (inl before) = piece_before at count old image from size torn before
  piece_stays from size (inr behind) = piece_behind at count old image from size torn behind

  pub byte_stays : (i : ℕ) → IsApart at count i 1 → slice_index_or image i 0 ≡ slice_index_or old i 0
  byte_stays i (inl before) = byte_before at count old image i torn (omega (arith, before))
  byte_stays i (inr behind) = byte_behind at count old image i torn behind

  pub gate_stays : (k : ℕ) → IsApart at count (gate_place k) 1 → gate_at image k ≡ gate_at old k
  gate_stays k apart = byte_stays (gate_place k) apart

  pub told_stays : (k : ℕ) → IsApart at count (tail_place k) told_len → told_at image k ≡ told_at old k
  told_stays k apart = piece_stays (tail_place k) told_len apart

  pub live_stays : 3 ≤ at → is_live image ≡ is_live old
  live_stays le = ap (λ mark. bytes_eq mark live_mark) (piece_stays 0 3 (inl le))

  pub version_stays : IsApart at count version_place 1 → is_first_version image ≡ is_first_version old
  version_stays apart = ap (λ (byte : ℕ). byte == 0x31) (byte_stays version_place apart)

  -- ---- which place shows

  pub turn_stays : (k : ℕ) (place : Place) → IsApart at count (turn_place k place) 1 → turn_in image k place ≡ turn_in old k place
  turn_stays k place apart = ap turn_of (byte_stays (turn_place k place) apart)

  pub turned_stays : (k : ℕ) → IsApart at count (turns_place k) turns_len → turned_in image k ≡ turned_in old k
  turned_stays k apart =
      let first = turn_stays k First (part at count (turn_place k First) 1 (turns_place k) turns_len apart (omega arith) (omega arith)) in
      let second = turn_stays k Second (part at count (turn_place k Second) 1 (turns_place k) turns_len apart (omega arith) (omega arith)) in
      λ i. shown_by (first i) (second i)

  pub shown_stays : (k : ℕ) → IsApart at count version_place 1 → IsApart at count (turns_place k) turns_len → shown_in image k ≡ shown_in old k
  shown_stays k version turns =
      let version_is = version_stays version in
      let turned_is = turned_stays k turns in
      λ i. cond (version_is i) (Some First) (turned_is i)

  -- ---- what a place holds

  pub place_stays : (b : Block) (place : Place) → IsApart at count (place_at b place) (head_len + b.size) → held_by image b (Some place) ≡ held_by old b (Some place)
  place_stays b place apart =
      let from = place_at b place in
      let length_is = ap (from_be_bytes w32) (piece_stays from 4 (part at count from 4 from (head_len + b.size) apart (omega arith) (omega arith))) in
      let word_is = ap (from_be_bytes w16) (piece_stays (from + 4) 2 (part at count (from + 4) 2 from (head_len + b.size) apart (omega arith) (omega arith))) in
      let data_is = piece_stays (data_place b place) b.size (part at count (data_place b place) b.size from (head_len + b.size) apart (omega arith) (omega arith)) in
      λ i. cond ((length_is i == b.size) && (word_is i == check16 (data_is i))) (Some (data_is i)) None

  pub held_by_stays : (b : Block) → IsApart at count b.offset (head_len + b.size) → IsApart at count (b.offset + between_places) (head_len + b.size) → (shown : Option Place) → held_by image b shown ≡ held_by old b shown
  held_by_stays b first second None = refl
  held_by_stays b first second (Some First) = place_stays b First first
  held_by_stays b first second (Some Second) = place_stays b Second second

  -- the range is apart from all that says what the block of a slot holds
  pub record IsClear (k : ℕ) (b : Block) : Type 0 where
    pub version : IsApart at count version_place 1
    pub turns : IsApart at count (turns_place k) turns_len
    pub first : IsApart at count b.offset (head_len + b.size)
    pub second : IsApart at count (b.offset + between_places) (head_len + b.size)

  pub held_stays : (k : ℕ) (b : Block) → IsClear k b → held_in image k b ≡ held_in old k b
  unfolding held_in
  held_stays k b clear = ap (held_by image b) (shown_stays k clear.version clear.turns) ∙ held_by_stays b clear.first clear.second (shown_in old k)

  -- what lies elsewhere stays, if the range is apart from it
  pub record Spares (n : ℕ) (slots : List (Option Slot)) : Type 0 where
    pub mark : 4 ≤ at
    pub gates : (k : ℕ) → k ≢ n → k < slot_count → IsApart at count (gate_place k) 1
    pub tails : (k : ℕ) → k ≢ n → k < slot_count → IsApart at count (tail_place k) tail_len
    pub places : (k : ℕ) (s : Slot) (place : Place) → k ≢ n → slot_at slots k ≡ Some s → IsApart at count (place_at s.block place) (head_len + s.block.size)

  pub elsewhere_torn : (n : ℕ) (slots : List (Option Slot)) → AreTogether slots → Spares n slots → Elsewhere n slots old image
  elsewhere_torn n slots together spares = record {
    live = live_stays (omega (arith, spares.mark));
    version = version_stays (inl spares.mark);
    gates = λ k other lt. gate_stays k (spares.gates k other lt);
    told = λ k other lt. told_stays k (part at count (tail_place k) told_len (tail_place k) tail_len (spares.tails k other lt) (omega arith) (omega arith));
    held = λ k s other there.
        let within : k < slot_count = omega (arith, together.all_slots, there_within slots k s there) in
        held_stays k s.block (record {
          version = inl spares.mark;
          turns = part at count (turns_place k) turns_len (tail_place k) tail_len (spares.tails k other within) (omega arith) (omega arith);
          first = spares.places k s First other there;
          second = spares.places k s Second other there;
        });
  }

-- a write before the turn bytes of a slot's entry, or after its two places' turn bytes in no way: what its block holds stays
pub gate_clear : (n k : ℕ) (b : Block) → n < slot_count → k < slot_count → blocks_begin ≤ b.offset → (old image : List ℕ) (torn : Torn (gate_place n) 1 old image) → IsClear (gate_place n) 1 old image torn k b
gate_clear n k b within k_within behind old image torn = record {
  version = inl (omega arith);
  turns = elim (cases_lt n (k + 1)) [
    | inl low ↦ inr (omega (arith, low))
    | inr high ↦ inl (omega (arith, high))
  ];
  first = inr (omega (arith, within, behind));
  second = inr (omega (arith, within, behind));
}

-- the entry of a slot
pub in_entry : (at count : ℕ) (old image : List ℕ) (n : ℕ) (slots : List (Option Slot)) → Torn at count old image → AreTogether slots → n < slot_count
    → gate_place n ≤ at → at + count ≤ gate_place n + 64 → Elsewhere n slots old image
in_entry at count old image n slots torn together lt low high =
    let apart : (k from size : ℕ) → k ≢ n → gate_place k ≤ from → from + size ≤ gate_place k + 64 → IsApart at count from size =
    λ k from size other begins ends. elim (cases_lt k n) [
      | inl before ↦ inl (omega (arith, before, low, ends))
      | inr behind ↦ inr (omega (arith, behind, other, high, begins))
    ] in
    elsewhere_torn at count old image torn n slots together record {
      mark = omega (arith, low);
      gates = λ k other less. apart k (gate_place k) 1 other (omega arith) (omega arith);
      tails = λ k other less. apart k (tail_place k) tail_len other (omega arith) (omega arith);
      places = λ k s place other there. inr (omega (arith, lt, high, (right-parts s.block (together.right k s there)).behind, place_low s.block place));
    }

-- no place of a block has a byte in common with one of a block that agrees with it
pub places_apart : (b c : Block) (p q : Place) → IsRight b → IsRight c → agree b c ≡ true → IsApart (place_at b p) (head_len + b.size) (place_at c q) (head_len + c.size)
places_apart b c First First right_b right_c agrees =
    ⊎_elim (λ before. inr (omega (arith, before))) (λ after. inl (omega (arith, after))) (ends_before b c agrees)
places_apart b c First Second right_b right_c agrees = inr (let near = right_b.inside in let far = right_c.behind in omega (arith, near, far))
places_apart b c Second First right_b right_c agrees = inl (let near = right_c.inside in let far = right_b.behind in omega (arith, near, far))
places_apart b c Second Second right_b right_c agrees =
    ⊎_elim (λ before. inr (omega (arith, before))) (λ after. inl (omega (arith, after))) (ends_before b c agrees)

-- a place of a block that agrees with those of all other slots
pub in_place : (old image : List ℕ) (n : ℕ) (slots : List (Option Slot)) (b : Block) (place : Place) → Torn (place_at b place) (head_len + b.size) old image → AreTogether slots
    → IsRight b → ((k : ℕ) (s : Slot) → k ≢ n → slot_at slots k ≡ Some s → agree b s.block ≡ true) → Elsewhere n slots old image
in_place old image n slots b place torn together right agrees =
    let behind = right.behind in
    let low = place_low b place in
    elsewhere_torn (place_at b place) (head_len + b.size) old image torn n slots together record {
      mark = omega (arith, behind, low);
      gates = λ k other less. inl (omega (arith, less, behind, low));
      tails = λ k other less. inl (omega (arith, less, behind, low));
      places = λ k s q other there. places_apart b s.block place q right (right-parts s.block (together.right k s there)) (agrees k s other there);
    }
