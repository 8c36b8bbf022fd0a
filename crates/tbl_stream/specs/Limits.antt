-- How many records may still be played.
use Rattle.std.specs.Prelude.{ℕ, ◌+◌, ◌==◌, Bool, false, Option, Some, None}

-- so many more; without a limit there was none before them either
abbrev pub and_more : ℕ → Option ℕ → Option ℕ
and_more count None = None
and_more count (Some left) = Some (left + count)

-- there is a limit, and no further record may be played
abbrev pub is_spent : Option ℕ → Bool
is_spent None = false
is_spent (Some left) = left == 0
