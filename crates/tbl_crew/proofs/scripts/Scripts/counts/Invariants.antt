use Rattle.std.proofs.Common.{◌≡◌, ℕ, ◌<◌, length}
use Rattle.std.specs.Prelude.{min, slice_index}
use Rattle.tbl_kinds.specs.Records.{record_limit}
use Rattle.tbl_session.specs.Actors.{actor_count}
use Rattle.tbl_crew.specs.Scripts.{script_of}
use Rattle.tbl_crew.proofs.scripts.Scripts.counts.Given as goal

abbrev pub invariant-actors : goal.invariant-actors
invariant-actors l = record {
  room : length l.counts ≡ actor_count;
  each : (actor : ℕ) → actor < l.actor → slice_index l.counts actor ≡ min (length (script_of l.self actor)) record_limit;
}
