-- Calls that are counted from 1, and fail if their number is listed.
use Rattle.std.specs.Prelude.{ℕ, Bool, List, ◌==◌}
use Rattle.std.specs.List.{list_any}
use Rattle.tbl_outside.specs.Counts.{risen}

pub record Calls : Type 0 where
  pub listed : List ℕ
  pub made : ℕ
  pub faults : ℕ

-- no call was made yet
abbrev pub none_made : List ℕ → Calls
none_made fails = record { listed = fails; made = 0; faults = 0 }

-- whether the next call's number is listed
abbrev pub is_listed : Calls → Bool
is_listed calls = list_any (λ number. number == risen calls.made) calls.listed

-- one call more
abbrev pub passed : Calls → Calls
passed calls = record calls { made = risen calls.made }

-- one failure more
abbrev pub failed : Calls → Calls
failed calls = record calls { faults = risen calls.faults }
