-- Whether an opening would copy a blank first bank over a live store in the second.
use Rattle.std.specs.Prelude.{ℕ, ◌==◌, ◌&&◌, Bool, false, if◌then◌else◌, List, length}
use Rattle.std.specs.Str.{bytes_eq}
use Rattle.tbl_kinds.specs.Numbers.{byte_at, piece}
use Rattle.bank_mirror.specs.Pairs.{is_stale}

-- its first three bytes are one and the same, as in a device that nothing was written to
abbrev pub is_blank : List ℕ → Bool
is_blank bytes = byte_at 0 (piece 0 3 bytes) == byte_at 1 (piece 0 3 bytes) && byte_at 0 (piece 0 3 bytes) == byte_at 2 (piece 0 3 bytes)

-- it begins with the mark of a live store
abbrev pub is_live : List ℕ → List ℕ → Bool
is_live live_mark bytes = bytes_eq (piece 0 3 bytes) live_mark

abbrev pub loses_store : List ℕ → List ℕ → List ℕ → Bool
loses_store live_mark first second = if is_stale (length first) second then false else (is_blank first && is_live live_mark second)
