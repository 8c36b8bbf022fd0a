-- What is written of a block is read as it, and what is read is a block that can be there.
use Rattle.std.proofs.Common.{◌≡◌, ℕ, ◌+◌, ◌-◌, ◌^◌, ◌<◌, ◌≤◌, Bool, true, false, cond, ◌&&◌, List, ◌∷◌, ◌++◌, zero, suc, length, take, drop, replicate, get_or, Option, Some, None, option_and_then, refl, sym, ap, ◌∙◌, arith, length-append}
use Rattle.std.proofs.lemmas.List.{take_at, take-take, drop-take, get_or-take, get_or-append-add}
use Rattle.std.specs.Int.{w32, from_be_bytes}
use Rattle.std.proofs.lemmas.Bool.{and_parts, leb-true, ltb-true}
use Rattle.std.proofs.lemmas.Nat.{from_be_bytes-to_be_bytes_4}
use Rattle.std.specs.Prelude.{nat_le, nat_lt, slice_index}
use Rattle.tbl_kinds.specs.Limits.{table_limit}
use Rattle.tbl_kinds.specs.Numbers.{four, piece, byte_at, four_at}
use Rattle.tbl_kinds.specs.Names.{is_name, name_in, name_field}
use Rattle.tbl_kinds.specs.Heads.{is_name_field}
use Rattle.tbl_kinds.specs.Places.{is_inside}
use Rattle.tbl_kinds.specs.Records.{FitsField}
use Rattle.tbl_kinds.proofs.NameFields.{length-name_field, name_in-name_field, is_name_field-name_field}
use Rattle.tbl_kinds.specs.declared.block.Block.{Block}
use Rattle.tbl_kinds.specs.declared.block.BlockKind.{BlockKind}
use Rattle.tbl_kinds.specs.declared.block.BlockKind.TheVariants.{Table, App}
use Rattle.cds_layout.specs.Entries.{kind_byte, entry_tail, is_right, kind_in, block_of_kind, if_right, block_in, tail_len, told_len}
use Rattle.cds_layout.specs.Images.{block_head, head_len}
use Rattle.cds_layout.specs.Lines.{IsRightAt}

-- ---- lengths

pub length-block_head : (size check : ℕ) → length (block_head size check) ≡ head_len
unfolding block_head
length-block_head size check = refl

pub length-entry_tail : (b : Block) → FitsField 40 b.name → length (entry_tail b) ≡ tail_len
unfolding entry_tail
length-entry_tail b fits = omega (arith, length-append (name_field 40 b.name) (replicate 12 0), length-name_field 40 b.name fits)

-- ---- the first bytes of a piece

pub piece-front : (bytes : List ℕ) (place len most : ℕ) → place + len ≤ most → piece place len (piece 0 most bytes) ≡ piece place len bytes
piece-front bytes place len most le =
    let split : most ≡ place + (most - place) = omega arith in
    ap (λ (n : ℕ). take len (drop place (take n bytes))) split
    ∙ ap (take len) (drop-take place (most - place) bytes)
    ∙ take-take len (most - place) (drop place bytes) (omega arith)

-- ---- where a right block is

pub record IsRight (b : Block) : Type 0 where
  pub some : 0 < b.size
  pub within : b.size ≤ table_limit
  pub behind : 8208 ≤ b.offset
  pub inside : b.offset + (8 + b.size) ≤ 131072
  pub named : is_name b.name ≡ true

pub right-parts : (b : Block) → is_right b ≡ true → IsRight b
right-parts b h =
    let named = and_parts (nat_lt 0 b.size && nat_le b.size table_limit && is_inside b.offset b.size) (is_name b.name) h in
    let placed = and_parts (nat_lt 0 b.size && nat_le b.size table_limit) (is_inside b.offset b.size) named.0 in
    let sized = and_parts (nat_lt 0 b.size) (nat_le b.size table_limit) placed.0 in
    let ends = and_parts (nat_le 8208 b.offset) (nat_le (b.offset + (8 + b.size)) 131072) placed.1 in
    record {
      some = ltb-true 0 b.size sized.0;
      within = leb-true b.size table_limit sized.1;
      behind = leb-true 8208 b.offset ends.0;
      inside = leb-true (b.offset + (8 + b.size)) 131072 ends.1;
      named = named.1;
    }

-- ---- what is written is read

kind_again : (kind : BlockKind) → kind_in (kind_byte kind) ≡ Some kind
kind_again Table = refl
kind_again App = refl

kind-written : (b : Block) → kind_in (byte_at 0 (entry_tail b)) ≡ Some b.kind
unfolding entry_tail
kind-written b = kind_again b.kind

offset-written : (b : Block) → b.offset < 2 ^ 32 → four_at 3 (entry_tail b) ≡ b.offset
unfolding entry_tail
offset-written b fits = from_be_bytes-to_be_bytes_4 b.offset fits

size-written : (b : Block) → b.size < 2 ^ 32 → four_at 7 (entry_tail b) ≡ b.size
unfolding entry_tail
size-written b fits = from_be_bytes-to_be_bytes_4 b.size fits

field-written : (b : Block) → FitsField 40 b.name → piece 11 40 (entry_tail b) ≡ name_field 40 b.name
unfolding entry_tail
field-written b fits = take_at (name_field 40 b.name) (replicate 12 0) 40 (length-name_field 40 b.name fits)

-- a block that is right and has such a name is read again
pub block_in-entry_tail : (b : Block) → is_right b ≡ true → FitsField 40 b.name → block_in (entry_tail b) ≡ Some b
unfolding block_in
block_in-entry_tail b right fits =
    let parts = right-parts b right in
    let tail : List ℕ = entry_tail b in
    let offset-is : four_at 3 tail ≡ b.offset = offset-written b (omega (arith, parts.inside)) in
    let size-is : four_at 7 tail ≡ b.size = size-written b (omega (arith, parts.inside)) in
    let field-is : piece 11 40 tail ≡ name_field 40 b.name = field-written b fits in
    let name-is : name_in (piece 11 40 tail) ≡ b.name = ap name_in field-is ∙ name_in-name_field 40 b.name fits in
    let field-right : is_name_field (piece 11 40 tail) ≡ true = ap is_name_field field-is ∙ is_name_field-name_field 40 b.name fits in
    let block-is : block_of_kind tail b.kind ≡ b = λ i. record { kind = b.kind; offset = offset-is i; size = size-is i; name = name-is i } in
    ap (option_and_then (λ kind. if_right tail (block_of_kind tail kind))) (kind-written b)
    ∙ ap (if_right tail) block-is
    ∙ (λ i. cond (right i && field-right i) (Some b) None)

-- ---- what is read is right

if_right-right : (tail : List ℕ) (b : Block) → IsRightAt (if_right tail b)
if_right-right tail b = by (is_right b) (is_name_field (piece 11 40 tail)) refl
  where
    by : (t u : Bool) → is_right b ≡ t → IsRightAt (cond (t && u) (Some b) None)
    by true true e = e
    by true false e = tt
    by false u e = tt

pub block_in-right : (tail : List ℕ) → IsRightAt (block_in tail)
unfolding block_in
block_in-right tail = by (kind_in (byte_at 0 tail))
  where
    by : (kind : Option BlockKind) → IsRightAt (option_and_then (λ k. if_right tail (block_of_kind tail k)) kind)
    by None = tt
    by (Some kind) = if_right-right tail (block_of_kind tail kind)

-- ---- of the bytes after a gate, the first ones tell the block

pub block_in-front : (tail : List ℕ) → block_in (piece 0 told_len tail) ≡ block_in tail
unfolding block_in
block_in-front tail =
    let kind : byte_at 0 (piece 0 told_len tail) ≡ byte_at 0 tail = get_or-take told_len tail 0 0 (omega arith) in
    let offset : four_at 3 (piece 0 told_len tail) ≡ four_at 3 tail = ap (from_be_bytes w32) (piece-front tail 3 4 told_len (omega arith)) in
    let size : four_at 7 (piece 0 told_len tail) ≡ four_at 7 tail = ap (from_be_bytes w32) (piece-front tail 7 4 told_len (omega arith)) in
    let field : piece 11 40 (piece 0 told_len tail) ≡ piece 11 40 tail = piece-front tail 11 40 told_len (omega arith) in
    λ i.
    option_and_then
    (λ (k : BlockKind).
    let b : Block = record { kind = k; offset = offset i; size = size i; name = name_in (field i) } in
    cond (is_right b && is_name_field (field i)) (Some b) None)
    (kind_in (kind i))

pub block_in-written : (b : Block) → is_right b ≡ true → FitsField 40 b.name → block_in (piece 0 told_len (entry_tail b)) ≡ Some b
block_in-written b right fits = block_in-front (entry_tail b) ∙ block_in-entry_tail b right fits

-- the bytes after those are zeros
length-told : (b : Block) → FitsField 40 b.name → length (kind_byte b.kind ∷ 0 ∷ 0 ∷ four b.offset ++ four b.size ++ name_field 40 b.name) ≡ told_len
length-told b fits = omega (arith, length-name_field 40 b.name fits)

zeros-at : (count k : ℕ) → slice_index (replicate count 0) k ≡ 0
zeros-at zero k = refl
zeros-at (suc count) zero = refl
zeros-at (suc count) (suc k) = zeros-at count k

pub entry_tail-zeros : (b : Block) → FitsField 40 b.name → (k : ℕ) → get_or (entry_tail b) (told_len + k) 0 ≡ 0
unfolding entry_tail
entry_tail-zeros b fits k =
    let told : List ℕ = kind_byte b.kind ∷ 0 ∷ 0 ∷ four b.offset ++ four b.size ++ name_field 40 b.name in
    ap (λ (n : ℕ). get_or (told ++ replicate 12 0) (n + k) 0) (sym (length-told b fits))
    ∙ get_or-append-add told (replicate 12 0) k 0
    ∙ zeros-at 12 k
