-- The names of the applications.
use Rattle.std.specs.Prelude.{◌≡◌, ℕ, ◌-◌, List, true, Option, IfSome, option_and_then, slice_get}
use Rattle.std.specs.List.{All}
use Rattle.tbl_kinds.specs.Names.{is_name}

-- the name under which application a runs: what is at place a - 1, none if it doesn't run
abbrev pub app_name : List (Option (List ℕ)) → ℕ → Option (List ℕ)
app_name apps app = option_and_then (λ found. found) (slice_get apps (app - 1))

-- each application that runs has a name
abbrev pub AreNamed : List (Option (List ℕ)) → Type 0
AreNamed apps = All (λ place. IfSome place (λ name. is_name name ≡ true)) apps
