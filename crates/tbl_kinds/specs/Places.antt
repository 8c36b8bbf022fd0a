-- Where a block of the store can be: after the directory, before the end of the blocks, and apart from the blocks that are there.
use Rattle.std.specs.Prelude.{ℕ, ◌+◌, ◌-◌, Bool, ◌&&◌, ◌||◌, nat_le, List, Option, find}
use Rattle.std.specs.List.{list_all, range_with_len}
use Rattle.tbl_kinds.specs.declared.block.Block.{Block}

-- how many bytes a bank must have; where in it the first places of blocks begin, and where they end
abbrev pub bank_size : ℕ
bank_size = 262144

abbrev pub blocks_begin : ℕ
blocks_begin = 8208

abbrev pub blocks_end : ℕ
blocks_end = 131072

-- a block has two places: how far the second lies from the first
abbrev pub between_places : ℕ
between_places = 131072

-- a block takes a head of 8 bytes and those of its image: where they end
abbrev pub end_of : ℕ → ℕ → ℕ
end_of at size = at + (8 + size)

-- two blocks have no byte in common: one of them ends before the other begins
abbrev pub are_apart : ℕ → ℕ → ℕ → ℕ → Bool
are_apart at size at' size' = nat_le (end_of at size) at' || nat_le (end_of at' size') at

-- after the directory and before the end of the blocks
abbrev pub is_inside : ℕ → ℕ → Bool
is_inside at size = nat_le blocks_begin at && nat_le (end_of at size) blocks_end

-- a block of this size can begin at this offset, beside those that are taken
abbrev pub fits : List Block → ℕ → ℕ → Bool
fits taken size at = is_inside at size && list_all (λ (b : Block). are_apart at size b.offset b.size) taken

-- the least offset at which it can
unfoldable pub place : List Block → ℕ → Option ℕ
place taken size = find (fits taken size) (range_with_len blocks_begin (blocks_end - blocks_begin))
