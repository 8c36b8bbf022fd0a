-- What C gets.
use Rattle.std.specs.Prelude.{ℕ, List, ◌++◌, length, take, drop}

-- these bytes over the front of others, as many as there is room for
abbrev pub over_front : List ℕ → List ℕ → List ℕ
over_front bytes old = take (length old) bytes ++ drop (length bytes) old
