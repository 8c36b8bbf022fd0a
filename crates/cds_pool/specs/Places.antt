-- What a search for the least place keeps.
use Rattle.std.specs.Prelude.{◌≡◌, ℕ, ◌<◌, Bool, false, cond, nat_le, Option, Some, None}
use Rattle.tbl_kinds.specs.Places.{are_apart}
use Rattle.tbl_kinds.specs.declared.block.Block.{Block}

-- a block of this size at this offset has no byte in common with that block
abbrev pub is_apart : ℕ → ℕ → Block → Bool
is_apart size at block = are_apart at size block.offset block.size

-- no offset below passes
abbrev pub NoneBelow : (ℕ → Bool) → ℕ → Type 0
NoneBelow test at = (lower : ℕ) → lower < at → test lower ≡ false

-- no offset passes
abbrev pub Never : (ℕ → Bool) → Type 0
Never test = (at : ℕ) → test at ≡ false

-- the lesser of the least offset so far and this one, where this one passes
abbrev pub lesser : (ℕ → Bool) → Option ℕ → ℕ → Option ℕ
lesser test None at = cond (test at) (Some at) None
lesser test (Some least) at = cond (nat_le least at) (Some least) (cond (test at) (Some at) (Some least))
