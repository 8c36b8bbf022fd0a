-- What becomes of a word while zero bytes go in.
use Rattle.std.specs.Prelude.{ℕ, replicate}
use Rattle.std.specs.List.{fold}
use Rattle.tbl_kinds.specs.Check.{after_byte}

-- the word after so many zero bytes
unfoldable pub later : ℕ → ℕ → ℕ
later n word = fold after_byte word (replicate n 0)
