use Rattle.std.proofs.Common.{◌≡◌, ◌-◌, ℕ, ◌≤◌, List, ◌++◌, length}
use Rattle.tbl_kinds.specs.Records.{Pair}
use Rattle.tbl_top.specs.Collecting.{HasTaken}
use Rattle.tbl_stream.specs.declared.standing.Standing.TheVariants.{Open}
use Rattle.tbl_top.proofs.CollectingLemmas.{IsTaking}
use Rattle.tbl_top.proofs.collecting.Collector.feed.Given as goal

abbrev pub invariant-records : goal.invariant-records
invariant-records l = record {
  within : l.at ≤ length l.self.rest;
  rest : l.self.rest ≡ l.fn.self.rest ++ l.fn.piece;
  takes : (fed : List ℕ) (most : ℕ) (pairs : List Pair) → HasTaken Open fed most pairs l.fn.self → (more : List Pair) × IsTaking (fed ++ l.fn.piece) l.at more l.self;
}

abbrev pub decreases-records : goal.decreases-records
decreases-records l = length l.self.rest - l.at
