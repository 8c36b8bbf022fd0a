-- The functions of applications in C, by their numbers.
use Rattle.std.specs.Prelude.{ℕ, zero, suc, List, [], ◌∷◌, ◌++◌, ◌+◌, ◌/◌, ◌%◌, nat_lt, if◌then◌else◌}
use Rattle.tbl_outside.specs.declared.validator.KitEntry.{KitEntry}
use Rattle.handed_kit.specs.Answering.{Spoken, mute}

-- application a has 2a - 2 and 2a - 1, as in the program, and from 32 on each number that leaves a - 1 when it is divided by 16
abbrev pub app_of : ℕ → ℕ
app_of number = if nat_lt number 32 then number / 2 + 1 else number % 16 + 1

-- the function of this number, for which nothing was handed in
abbrev pub mute_at : ℕ → KitEntry Spoken
mute_at number = record { app = app_of number; check = mute }

-- those whose number is lower than this, in order
unfoldable pub mute_below : ℕ → List (KitEntry Spoken)
mute_below zero = []
mute_below (suc number) = mute_below number ++ mute_at number ∷ []
