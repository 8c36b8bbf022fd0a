-- A slice that is the whole image.
use Rattle.std.proofs.Common.{◌≡◌, ◌+◌, ℕ, List, length, sym, arith}
use Rattle.std.proofs.lemmas.List.{take_all}
use Rattle.tbl_kinds.specs.Numbers.{piece}

-- from the first byte on, as many as there are
pub whole_image : (offset len : ℕ) (bytes : List ℕ) → offset ≡ 0 → offset + len ≡ length bytes → bytes ≡ piece offset len bytes
whole_image offset len bytes first all = rw first (sym (take_all len bytes (omega (arith, first, all))))
