-- The text of a store, line by line.
use Rattle.std.proofs.Common.{◌≡◌, ℕ, ◌+◌, ◌<◌, ◌≤◌, List, [], ◌∷◌, ◌++◌, length, drop, get_or, slice_index_or, Option, Some, None, is_some, count_by, cond, refl, sym, ap, ◌∙◌, arith, append_assoc}
use Rattle.std.specs.List.{sum_by, filter_map}
use Rattle.std.specs.Option.{option_map}
use Rattle.std.proofs.lemmas.List.{drop_more, drop_all, append-nil}
use Rattle.std.proofs.lemmas.List.Sums.{sum_by-cons}
use Rattle.tbl_kinds.specs.Blocks.{Stored, Store}
use Rattle.tbl_kinds.specs.StoreSteps.{stored_at, taken}
use Rattle.tbl_kinds.specs.declared.block.Block.{Block}
use Rattle.cds_layout.specs.Directory.{directory_of}
use Rattle.cds_layout.specs.Images.{head_len, stored_in, stored_from, store_of}
use Rattle.cds_layout.specs.Texts.{lines_from, room_taken, text_of}
use Rattle.cds_layout.specs.Lines.{line_at, room_at, last_line, last_line_of}
use Rattle.cds_layout.specs.Entries.{slot_count}
use Rattle.cds_layout.proofs.Stored.{stored_there, length-store}

-- ---- one slot more

lines-first : (slot : ℕ) (o : Option Stored) (rest : Store) → lines_from slot (o ∷ rest) ≡ line_at slot o ++ lines_from (slot + 1) rest
lines-first slot None rest = refl
lines-first slot (Some b) rest = refl

lines-step : (slot : ℕ) (store : Store) → slot < length store → lines_from slot (drop slot store) ≡ line_at slot (get_or store slot None) ++ lines_from (slot + 1) (drop (slot + 1) store)
lines-step slot store lt = ap (lines_from slot) (drop_more store slot None lt) ∙ lines-first slot (get_or store slot None) (drop (slot + 1) store)

pub one_more : (bytes now : List ℕ) (slot : ℕ) (out new all : List ℕ) → slot < slot_count
    → now ≡ bytes
    → new ≡ out ++ line_at slot (stored_at (store_of now) slot)
    → out ++ lines_from slot (drop slot (store_of bytes)) ≡ all
    → new ++ lines_from (slot + 1) (drop (slot + 1) (store_of bytes)) ≡ all
one_more bytes now slot out new all lt same put so_far =
    let store = store_of bytes in
    let rest = lines_from (slot + 1) (drop (slot + 1) store) in
    ap (λ (l : List ℕ). l ++ rest) (put ∙ ap (λ l. out ++ line_at slot (stored_at (store_of l) slot)) same)
    ∙ append_assoc out (line_at slot (get_or store slot None)) rest
    ∙ ap (λ (l : List ℕ). out ++ l) (sym (lines-step slot store (omega (arith, lt, length-store bytes))))
    ∙ so_far

-- no slot is left
pub all_put : (bytes : List ℕ) (slot : ℕ) (out all : List ℕ) → slot_count ≤ slot → out ++ lines_from slot (drop slot (store_of bytes)) ≡ all → out ≡ all
all_put bytes slot out all past so_far =
    let none : drop slot (store_of bytes) ≡ [] = drop_all slot (store_of bytes) (omega (arith, past, length-store bytes)) in
    sym (append-nil out) ∙ ap (λ (store : Store). out ++ lines_from slot store) (sym none) ∙ so_far

-- what a slot adds, by what the directory has there
pub line-there : (bytes : List ℕ) (slot : ℕ) (directory : List (Option Block)) (o : Option Block) → directory ≡ directory_of bytes → slice_index_or directory slot None ≡ o
    → line_at slot (stored_at (store_of bytes) slot) ≡ line_at slot (option_map (stored_in bytes slot) o)
line-there bytes slot directory o is there = ap (line_at slot) (stored_there bytes slot ∙ ap (option_map (stored_in bytes slot)) (ap (λ l. slice_index_or l slot None) (sym is) ∙ there))

-- ---- the line for all blocks

taken-is : (bytes : List ℕ) (slot : ℕ) (places : List (Option Block)) → taken (stored_from bytes slot places) ≡ filter_map (λ (o : Option Block). o) places
taken-is bytes slot [] = refl
taken-is bytes slot (None ∷ places) = taken-is bytes (slot + 1) places
taken-is bytes slot (Some b ∷ places) = ap (λ (bs : List Block). b ∷ bs) (taken-is bytes (slot + 1) places)

count-is : (places : List (Option Block)) → length (filter_map (λ (o : Option Block). o) places) ≡ count_by is_some places
count-is [] = refl
count-is (None ∷ places) = omega (arith, count-is places, sum_by-cons (λ (place : Option Block). cond (is_some place) 1 0) None places)
count-is (Some b ∷ places) = omega (arith, count-is places, sum_by-cons (λ (place : Option Block). cond (is_some place) 1 0) (Some b) places)

room-is : (places : List (Option Block)) → sum_by (λ (b : Block). head_len + b.size) (filter_map (λ (o : Option Block). o) places) ≡ sum_by room_at places
room-is [] = refl
room-is (None ∷ places) = omega (arith, room-is places, sum_by-cons room_at None places)
room-is (Some b ∷ places) =
    omega (arith, room-is places, sum_by-cons room_at (Some b) places, sum_by-cons (λ (b : Block). head_len + b.size) b (filter_map (λ (o : Option Block). o) places))

last-is : (bytes : List ℕ) (places : List (Option Block)) → last_line (length (taken (stored_from bytes 0 places))) (room_taken (stored_from bytes 0 places)) ≡ last_line_of places
last-is bytes places =
    let blocks = taken-is bytes 0 places in
    let count : length (taken (stored_from bytes 0 places)) ≡ count_by is_some places = ap length blocks ∙ count-is places in
    let room : room_taken (stored_from bytes 0 places) ≡ sum_by room_at places = ap (sum_by (λ (b : Block). head_len + b.size)) blocks ∙ room-is places in
    λ i. last_line (count i) (room i)

text-joined : (store : Store) → lines_from 0 store ++ last_line (length (taken store)) (room_taken store) ≡ text_of store
unfolding text_of
text-joined store = simp append_assoc

-- the lines of all slots, and the line for all blocks
pub text-is : (bytes : List ℕ) → lines_from 0 (store_of bytes) ++ last_line_of (directory_of bytes) ≡ text_of (store_of bytes)
unfolding store_of
text-is bytes =
    let places = directory_of bytes in
    ap (λ (l : List ℕ). lines_from 0 (stored_from bytes 0 places) ++ l) (sym (last-is bytes places)) ∙ text-joined (stored_from bytes 0 places)
