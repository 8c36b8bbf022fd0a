-- What was read of a slot's turn bytes, and of a place.
use Rattle.std.proofs.Common.{◌≡◌, ℕ, ◌+◌, ◌*◌, ◌≤◌, ◌==◌, ◌&&◌, Bool, true, false, cond, List, [], length, take, drop, slice_index_or, Option, Some, None, is_some, is_ok, Result, Ok, Err, refl, sym, ap, ◌∙◌, arith}
use Rattle.std.specs.Int.{w16, w32, from_be_bytes}
use Rattle.std.proofs.lemmas.List.{get_or-take, get_or-drop, length-take, take-take, drop-drop}
use Rattle.tbl_kinds.specs.Check.{check16}
use Rattle.tbl_kinds.specs.Numbers.{piece, byte_at, two_at, four_at}
use Rattle.tbl_kinds.specs.declared.block.Block.{Block}
use Rattle.cds_layout.specs.Entries.{turns_place}
use Rattle.cds_layout.specs.Images.{turn_in, shown_in, held_by, stored_in, is_whole}
use Rattle.cds_layout.specs.Lines.{told_line, word_of, line_at}
use Rattle.cds_layout.specs.Restores.{compared, is_whole_place}
use Rattle.cds_layout.specs.Texts.{state_word}
use Rattle.cds_layout.specs.Turns.{turn_of}
use Rattle.cds_layout.specs.declared.blocks.RestoreFault.{RestoreFault}
use Rattle.cds_layout.specs.declared.blocks.RestoreFault.TheVariants.{Torn}
use Rattle.cds_layout.specs.declared.turns.Place.{Place}
use Rattle.cds_layout.specs.declared.turns.Place.TheVariants.{First, Second}
use Rattle.cds_layout.proofs.EntryLaws.{piece-front}
use Rattle.cds_layout.proofs.Restored.{held-shown}

pub first-read : (bytes : List ℕ) (slot : ℕ) (into : List ℕ) → into ≡ piece (turns_place slot) 2 bytes → turn_of (slice_index_or into 0 0) ≡ turn_in bytes slot First
first-read bytes slot into is =
    let there : turns_place slot + 0 ≡ turns_place slot = omega arith in
    ap turn_of
    (ap (λ (l : List ℕ). slice_index_or l 0 0) is
    ∙ get_or-take 2 (drop (turns_place slot) bytes) 0 0 (omega arith)
    ∙ get_or-drop (turns_place slot) bytes 0 0
    ∙ ap (λ (at : ℕ). byte_at at bytes) there)

pub second-read : (bytes : List ℕ) (slot : ℕ) (into : List ℕ) → into ≡ piece (turns_place slot) 2 bytes → turn_of (slice_index_or into 1 0) ≡ turn_in bytes slot Second
second-read bytes slot into is =
    let there : turns_place slot + 1 ≡ 69 + 64 * slot = omega arith in
    ap turn_of
    (ap (λ (l : List ℕ). slice_index_or l 1 0) is
    ∙ get_or-take 2 (drop (turns_place slot) bytes) 1 0 (omega arith)
    ∙ get_or-drop (turns_place slot) bytes 1 0
    ∙ ap (λ (at : ℕ). byte_at at bytes) there)

-- ---- the line of a block

word_is : (o : Option (List ℕ)) → word_of (is_some o) ≡ state_word o
word_is None = refl
word_is (Some image) = refl

pub line-told : (bytes : List ℕ) (slot : ℕ) (b : Block) (shown : Option Place) (whole : Bool) → shown ≡ shown_in bytes slot → whole ≡ is_some (held_by bytes b shown) → told_line slot b whole ≡ line_at slot (Some (stored_in bytes slot b))
line-told bytes slot b shown whole is_shown is_whole_now =
    let held = held-shown bytes slot b shown is_shown in
    ap (told_line slot b) (is_whole_now ∙ ap is_some held) ∙ line_is (stored_in bytes slot b).held
  where
    line_is : (o : Option (List ℕ)) → told_line slot b (is_some o) ≡ line_at slot (Some (record { block = b; held = o; trying = []; doubtful = false }))
    line_is None = refl
    line_is (Some image) = refl

-- ---- a first place

compared-ok : (head bytes : List ℕ) (size : ℕ) → is_ok (compared head size bytes) ≡ ((four_at 0 head == size) && (two_at 4 head == check16 bytes))
compared-ok head bytes size = by ((four_at 0 head == size) && (two_at 4 head == check16 bytes))
  where
    by : (w : Bool) → is_ok (cond w (Ok (tt {0})) (Err (Torn (four_at 0 head) (two_at 4 head) (check16 bytes)))) ≡ w
    by true = refl
    by false = refl

pub whole-read : (bytes : List ℕ) (size end len : ℕ) (r : Result Unit RestoreFault) → end ≡ 8 + size → len ≡ size → r ≡ compared (take 8 bytes) size (take len (drop 8 bytes)) → is_ok r ≡ is_whole_place size (take end bytes)
whole-read bytes size end len r is as_long told =
    let length_is : four_at 0 (take 8 bytes) ≡ four_at 0 (take end bytes) = ap (from_be_bytes w32) (take-take 4 8 bytes (omega arith) ∙ sym (take-take 4 end bytes (omega (arith, is)))) in
    let word_is : two_at 4 (take 8 bytes) ≡ two_at 4 (take end bytes) = ap (from_be_bytes w16) (piece-front bytes 4 2 8 (omega arith) ∙ sym (piece-front bytes 4 2 end (omega (arith, is)))) in
    let data_is : piece 8 size bytes ≡ piece 8 size (take end bytes) = sym (piece-front bytes 8 size end (omega (arith, is))) in
    ap is_ok (told ∙ ap (λ (k : ℕ). compared (take 8 bytes) size (take k (drop 8 bytes))) as_long) ∙ compared-ok (take 8 bytes) (piece 8 size bytes) size
    ∙ (λ i. (length_is i == size) && (word_is i == check16 (data_is i)))

pub first-whole : (bytes : List ℕ) (b : Block) (read : List ℕ) (end : ℕ) → end ≡ 8 + b.size → read ≡ piece b.offset end bytes → is_whole_place b.size read ≡ is_whole bytes b First
first-whole bytes b read end is there =
    let length_is : four_at 0 read ≡ four_at b.offset bytes = ap (four_at 0) there ∙ ap (from_be_bytes w32) (take-take 4 end (drop b.offset bytes) (omega (arith, is))) in
    let word_is : two_at 4 read ≡ two_at (b.offset + 4) bytes =
    ap (two_at 4) there ∙ ap (from_be_bytes w16) (piece-front (drop b.offset bytes) 4 2 end (omega (arith, is)) ∙ ap (take 2) (drop-drop 4 b.offset bytes)) in
    let data_is : piece 8 b.size read ≡ piece (b.offset + 8) b.size bytes =
    ap (piece 8 b.size) there ∙ piece-front (drop b.offset bytes) 8 b.size end (omega (arith, is)) ∙ ap (take b.size) (drop-drop 8 b.offset bytes) in
    λ i. (length_is i == b.size) && (word_is i == check16 (data_is i))

pub front-long : (room : List ℕ) (size : ℕ) → length room ≡ 16392 → size ≤ 16384 → length (take (8 + size) room) ≡ 8 + size
front-long room size len within = simp length-take (omega arith)
