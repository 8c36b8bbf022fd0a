use Rattle.std.proofs.Common.{◌≡◌, ℕ, ◌<◌, []}
use Rattle.tbl_crew.specs.Scripts.{script_of}
use Rattle.tbl_crew.proofs.scripts.Scripts.is_empty.Given as goal

abbrev pub invariant-actors : goal.invariant-actors
invariant-actors l = record {
  none : (actor : ℕ) → actor < l.actor → script_of l.self actor ≡ [];
}
