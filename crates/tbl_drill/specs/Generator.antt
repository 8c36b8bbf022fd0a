-- The numbers that decide a drill: a linear congruential generator of 64 bits.
use Rattle.std.specs.Prelude.{ℕ, zero, suc, ◌+◌, ◌*◌, ◌/◌, ◌%◌, ◌^◌}

-- the number after this one
unfoldable pub after : ℕ → ℕ
after x = (x * 6364136223846793005 + 1442695040888963407) % 2 ^ 64

-- what is drawn below n where the generator is at this number: its upper 31 bits decide
unfoldable pub drawn : ℕ → ℕ → ℕ
drawn x n = x / 2 ^ 33 % n

-- the number after so many draws
abbrev pub number : ℕ → ℕ → ℕ
number seed zero = seed
number seed (suc draws) = after (number seed draws)
