-- Directories: they depend on the first bytes alone, and their blocks can be there together.
use Rattle.std.proofs.Common.{◌≡◌, ◌≢◌, inl, inr, ℕ, zero, suc, ◌+◌, ◌*◌, ◌<◌, ◌≤◌, ◌==◌, Bool, true, false, cond, not, ◌&&◌, List, [], ◌∷◌, ◌++◌, length, replicate, get_or, slice_index_or, Option, Some, None, refl, sym, ap, subst, ◌∙◌, arith, length-append}
use Rattle.std.specs.Prelude.{nat_le}
use Rattle.std.specs.List.{list_all}
use Rattle.std.specs.Str.{bytes_eq}
use Rattle.std.proofs.lemmas.List.{get_or-take, take-take, get_or_append_left, get_or_past, get_or-replicate, length-replicate}
use Rattle.std.proofs.lemmas.Bool.{and_parts, cases_lt}
use Rattle.std.proofs.lemmas.Bool.Decides.{same_from_decides}
use Rattle.std.proofs.lemmas.Slice.Eq.{bytes_eq-Decides}
use Rattle.std.proofs.Math.Bool.{or_comm}
use Rattle.std.proofs.Math.Seq.{get_or-append_seam}
use Rattle.tbl_kinds.specs.Numbers.{piece}
use Rattle.tbl_kinds.specs.Places.{are_apart}
use Rattle.tbl_kinds.specs.StoreSteps.{same_kind}
use Rattle.tbl_kinds.specs.declared.block.Block.{Block}
use Rattle.tbl_kinds.specs.declared.block.BlockKind.{BlockKind}
use Rattle.tbl_kinds.specs.declared.block.BlockKind.TheVariants.{Table, App}
use Rattle.cds_layout.specs.Entries.{slot_count, gate_open, gate_at, told_at, is_right, block_in}
use Rattle.cds_layout.specs.Directory.{directory_len, is_live, is_first_version, agree, agrees_at, stated, counted, directory_to, directory_of}
use Rattle.cds_layout.specs.Images.{turn_in, shown_in}
use Rattle.cds_layout.specs.Turns.{turn_of, shown_by}
use Rattle.cds_layout.specs.declared.turns.Place.{Place}
use Rattle.cds_layout.specs.declared.turns.Place.TheVariants.{First, Second}
use Rattle.cds_layout.specs.Lines.{IsRightAt, AreRight, CanBeTogether}
use Rattle.cds_layout.proofs.EntryLaws.{piece-front, block_in-right}
use Rattle.cds_layout.proofs.Directories.{directory-is, length-directory_of}

-- ---- the first bytes alone

gate-front : (bytes : List ℕ) (slot : ℕ) → slot < slot_count → gate_at (piece 0 directory_len bytes) slot ≡ gate_at bytes slot
gate-front bytes slot lt = get_or-take directory_len bytes (16 + 64 * slot) 0 (omega arith)

told-front : (bytes : List ℕ) (slot : ℕ) → slot < slot_count → told_at (piece 0 directory_len bytes) slot ≡ told_at bytes slot
told-front bytes slot lt = piece-front bytes (17 + 64 * slot) 51 directory_len (omega arith)

stated-front : (bytes : List ℕ) (slot : ℕ) → slot < slot_count → stated (piece 0 directory_len bytes) slot ≡ stated bytes slot
stated-front bytes slot lt =
    let gate = gate-front bytes slot lt in
    let told = told-front bytes slot lt in
    λ i. cond (gate i == gate_open) (block_in (told i)) None

directory_to-front : (bytes : List ℕ) (n : ℕ) → n ≤ slot_count → directory_to (piece 0 directory_len bytes) n ≡ directory_to bytes n
directory_to-front bytes zero le = refl
directory_to-front bytes (suc n) le =
    let earlier = directory_to-front bytes n (omega (arith, le)) in
    let here = stated-front bytes n (omega (arith, le)) in
    λ i. earlier i ++ counted (earlier i) (here i) ∷ []

is_live-front : (bytes : List ℕ) → is_live (piece 0 directory_len bytes) ≡ is_live bytes
is_live-front bytes = ap (λ (mark : List ℕ). bytes_eq mark (0x43 ∷ 0x44 ∷ 0x53 ∷ [])) (take-take 3 directory_len bytes (omega arith))

pub version-front : (bytes : List ℕ) → is_first_version (piece 0 directory_len bytes) ≡ is_first_version bytes
version-front bytes = ap (λ (byte : ℕ). byte == 0x31) (get_or-take directory_len bytes 3 0 (omega arith))

turn-front : (bytes : List ℕ) (slot : ℕ) (place : Place) → slot < slot_count → turn_in (piece 0 directory_len bytes) slot place ≡ turn_in bytes slot place
turn-front bytes slot First lt = ap turn_of (get_or-take directory_len bytes (68 + 64 * slot) 0 (omega arith))
turn-front bytes slot Second lt = ap turn_of (get_or-take directory_len bytes (69 + 64 * slot) 0 (omega arith))

-- which place shows is told there too
pub shown-front : (bytes : List ℕ) (slot : ℕ) → slot < slot_count → shown_in (piece 0 directory_len bytes) slot ≡ shown_in bytes slot
shown-front bytes slot lt =
    let version = version-front bytes in
    let first = turn-front bytes slot First lt in
    let second = turn-front bytes slot Second lt in
    λ i. cond (version i) (Some First) (shown_by (first i) (second i))

directory-front_at : (bytes : List ℕ) (n : ℕ) → n ≡ slot_count → directory_of (piece 0 directory_len bytes) ≡ directory_of bytes
directory-front_at bytes n e =
    let live = is_live-front bytes in
    let blocks = directory_to-front bytes n (omega (arith, e)) in
    directory-is (piece 0 directory_len bytes) n e ∙ (λ i. cond (live i) (blocks i) (replicate n None)) ∙ sym (directory-is bytes n e)

-- the directory depends on the first 8,208 bytes alone
pub directory-front : (bytes : List ℕ) → directory_of (piece 0 directory_len bytes) ≡ directory_of bytes
directory-front bytes = directory-front_at bytes slot_count refl

-- ---- each block is right

-- what holds of each element and of one more
each_more : {X : Type 0} (P : X → Type 0) (xs : List X) (y d : X) → ((k : ℕ) → P (get_or xs k d)) → P y → P d → (k : ℕ) → P (get_or (xs ++ y ∷ []) k d)
each_more P [] y d each here past zero = here
each_more P [] y d each here past (suc k) = past
each_more P (x ∷ xs) y d each here past zero = each 0
each_more P (x ∷ xs) y d each here past (suc k) = each_more P xs y d (λ j. each (suc j)) here past k

stated-right : (bytes : List ℕ) (slot : ℕ) → IsRightAt (stated bytes slot)
stated-right bytes slot = by (gate_at bytes slot == gate_open)
  where
    by : (is_open : Bool) → IsRightAt (cond is_open (block_in (told_at bytes slot)) None)
    by true = block_in-right (told_at bytes slot)
    by false = tt

counted-right : (earlier : List (Option Block)) (o : Option Block) → IsRightAt o → IsRightAt (counted earlier o)
counted-right earlier None h = tt
counted-right earlier (Some b) h = by (list_all (agrees_at b) earlier)
  where
    by : (agrees : Bool) → IsRightAt (cond agrees (Some b) None)
    by true = h
    by false = tt

directory_to-right : (bytes : List ℕ) (n slot : ℕ) → IsRightAt (get_or (directory_to bytes n) slot None)
directory_to-right bytes zero slot = subst IsRightAt (sym (get_or_past [] slot None (omega arith))) tt
directory_to-right bytes (suc n) slot =
    let earlier = directory_to bytes n in
    each_more IsRightAt earlier (counted earlier (stated bytes n)) None (directory_to-right bytes n) (counted-right earlier (stated bytes n) (stated-right bytes n)) tt slot

abbrev no_block : Option Block
no_block = None

no_blocks-at : (n slot : ℕ) → get_or (replicate n None) slot None ≡ no_block
no_blocks-at n slot = elim (cases_lt slot n) [
  | inl lt ↦ get_or-replicate n slot None None lt
  | inr le ↦ get_or_past (replicate n None) slot None (omega (arith, le, length-replicate n no_block))
]

either-right : (live : Bool) (bytes : List ℕ) (n slot : ℕ) → IsRightAt (get_or (cond live (directory_to bytes n) (replicate n None)) slot None)
either-right true bytes n slot = directory_to-right bytes n slot
either-right false bytes n slot = subst IsRightAt (sym (no_blocks-at n slot)) tt

directory-right_at : (bytes : List ℕ) (n slot : ℕ) → n ≡ slot_count → IsRightAt (get_or (directory_of bytes) slot None)
directory-right_at bytes n slot e = subst (λ (blocks : List (Option Block)). IsRightAt (get_or blocks slot None)) (sym (directory-is bytes n e)) (either-right (is_live bytes) bytes n slot)

pub directory-all_right : (bytes : List ℕ) → AreRight (directory_of bytes)
directory-all_right bytes slot = directory-right_at bytes slot_count slot refl

-- each block of a directory is one that can be there
pub directory-right : (bytes : List ℕ) (slot : ℕ) (b : Block) → slice_index_or (directory_of bytes) slot None ≡ Some b → is_right b ≡ true
directory-right bytes slot b e = subst IsRightAt e (directory-all_right bytes slot)

-- ---- any two agree

pub same_kind-sym : (a b : BlockKind) → same_kind a b ≡ same_kind b a
same_kind-sym Table Table = refl
same_kind-sym Table App = refl
same_kind-sym App Table = refl
same_kind-sym App App = refl

pub bytes_eq-sym : (xs ys : List ℕ) → bytes_eq xs ys ≡ bytes_eq ys xs
bytes_eq-sym xs ys =
    let back = bytes_eq-Decides ys xs in
    same_from_decides (bytes_eq xs ys) (bytes_eq ys xs) (bytes_eq-Decides xs ys) (λ t. sym (back.0 t), λ e. back.1 (sym e))

pub agree-sym : (a b : Block) → agree a b ≡ agree b a
agree-sym a b =
    let apart : are_apart a.offset a.size b.offset b.size ≡ are_apart b.offset b.size a.offset a.size =
    or_comm (nat_le (a.offset + (8 + a.size)) b.offset) (nat_le (b.offset + (8 + b.size)) a.offset) in
    let kind = same_kind-sym a.kind b.kind in
    let name = bytes_eq-sym a.name b.name in
    λ i. apart i && not (kind i && name i)

all-at : {X : Type 0} (test : X → Bool) (xs : List X) (k : ℕ) (d : X) → list_all test xs ≡ true → test d ≡ true → test (get_or xs k d) ≡ true
all-at test [] k d all past = subst (λ x. test x ≡ true) (sym (get_or_past [] k d (omega arith))) past
all-at test (x ∷ xs) zero d all past = (and_parts (test x) (list_all test xs) all).0
all-at test (x ∷ xs) (suc k) d all past = all-at test xs k d (and_parts (test x) (list_all test xs) all).1 past

counted-agrees : (earlier : List (Option Block)) (o : Option Block) (b : Block) → counted earlier o ≡ Some b → list_all (agrees_at b) earlier ≡ true
counted-agrees earlier None b e = absurd cc
counted-agrees earlier (Some other) b e = by (list_all (agrees_at other) earlier) refl e
  where
    by : (agrees : Bool) → list_all (agrees_at other) earlier ≡ agrees → cond agrees (Some other) None ≡ Some b → list_all (agrees_at b) earlier ≡ true
    by true all is = let same : other ≡ b = cc in subst (λ (x : Block). list_all (agrees_at x) earlier ≡ true) same all
    by false all is = absurd cc

-- no two blocks of these have a byte, or kind and name, in common
abbrev AllAgree : List (Option Block) → Type 0
AllAgree blocks = (i j : ℕ) (a b : Block) → i < j → get_or blocks i None ≡ Some a → get_or blocks j None ≡ Some b → agree b a ≡ true

none_is_some : (b : Block) → no_block ≡ Some b → ⊥
none_is_some b e = cc

agree_last : (blocks : List (Option Block)) (o : Option Block) (i : ℕ) (a b : Block) → get_or blocks i None ≡ Some a → counted blocks o ≡ Some b → agree b a ≡ true
agree_last blocks o i a b earlier is_last =
    subst (λ (x : Option Block). agrees_at b x ≡ true) earlier (all-at (agrees_at b) blocks i None (counted-agrees blocks o b is_last) refl)

agree_more : (blocks : List (Option Block)) (o : Option Block) → AllAgree blocks → AllAgree (blocks ++ counted blocks o ∷ [])
agree_more blocks o before i j a b lt at_i at_j =
    let last : Option Block = counted blocks o in
    let front : (k : ℕ) → k < length blocks → get_or (blocks ++ last ∷ []) k None ≡ get_or blocks k None = λ k within. get_or_append_left blocks (last ∷ []) None k within in
    elim (cases_lt j (length blocks)) [
      | inl within ↦ before i j a b lt (sym (front i (omega (arith, lt, within))) ∙ at_i) (sym (front j within) ∙ at_j)
      | inr le ↦ elim (cases_lt (length blocks) j) [
        | inl past ↦ absurd (none_is_some b (sym (get_or_past (blocks ++ last ∷ []) j None (omega (arith, past, length-append blocks (last ∷ [])))) ∙ at_j))
        | inr ge ↦
            let is_end : j ≡ length blocks = omega (arith, le, ge) in
            let is_last : last ≡ Some b = sym (get_or-append_seam blocks last [] None) ∙ ap (λ (k : ℕ). get_or (blocks ++ last ∷ []) k None) (sym is_end) ∙ at_j in
            agree_last blocks o i a b (sym (front i (omega (arith, lt, ge))) ∙ at_i) is_last
      ]
    ]

directory_to-agree : (bytes : List ℕ) (n : ℕ) → AllAgree (directory_to bytes n)
directory_to-agree bytes zero i j a b lt at_i at_j = absurd (none_is_some b (sym (get_or_past [] j None (omega arith)) ∙ at_j))
directory_to-agree bytes (suc n) i j a b lt at_i at_j = agree_more (directory_to bytes n) (stated bytes n) (directory_to-agree bytes n) i j a b lt at_i at_j

either-agree : (live : Bool) (bytes : List ℕ) (n : ℕ) → AllAgree (cond live (directory_to bytes n) (replicate n None))
either-agree true bytes n i j a b lt at_i at_j = directory_to-agree bytes n i j a b lt at_i at_j
either-agree false bytes n i j a b lt at_i at_j = absurd (none_is_some b (sym (no_blocks-at n j) ∙ at_j))

directory-agree_at : (bytes : List ℕ) (n : ℕ) → n ≡ slot_count → AllAgree (directory_of bytes)
directory-agree_at bytes n e = subst AllAgree (sym (directory-is bytes n e)) (either-agree (is_live bytes) bytes n)

-- a block agrees with each that stands in an earlier slot
pub directory-agree : (bytes : List ℕ) (i j : ℕ) (a b : Block) → i < j → slice_index_or (directory_of bytes) i None ≡ Some a → slice_index_or (directory_of bytes) j None ≡ Some b → agree b a ≡ true
directory-agree bytes = directory-agree_at bytes slot_count refl

-- any two of different slots agree
pub directory-agree_both : (bytes : List ℕ) (i j : ℕ) (a b : Block) → i ≢ j → slice_index_or (directory_of bytes) i None ≡ Some a → slice_index_or (directory_of bytes) j None ≡ Some b → agree a b ≡ true
directory-agree_both bytes i j a b differ at_i at_j =
    elim (cases_lt i j) [
      | inl lt ↦ agree-sym a b ∙ directory-agree bytes i j a b lt at_i at_j
      | inr le ↦ directory-agree bytes j i b a (omega (arith, le, differ)) at_j at_i
    ]

pub directory-together : (bytes : List ℕ) → CanBeTogether (directory_of bytes)
directory-together bytes = record { slots = length-directory_of bytes; right = directory-all_right bytes; apart = directory-agree_both bytes }
