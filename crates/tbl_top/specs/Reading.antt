-- What was read of the input before any of it was played.
use Rattle.std.specs.Prelude.{◌≡◌, ℕ, ◌+◌, ◌≤◌, List, ◌++◌, length, Bool, true, false, Some}
use Rattle.std.specs.List.{AllByRecursion}
use Rattle.tbl_kinds.specs.Records.{Pair, IsRecord, joined, record_limit}
use Rattle.tbl_session.specs.Inputs.{StopsReading}
use Rattle.tbl_stream.specs.Feeding.{IsKept}
use Rattle.tbl_stream.specs.Standing.{Leaves, HasPlayedAll}
use Rattle.tbl_stream.specs.declared.standing.Standing.{Standing}
use Rattle.tbl_stream.specs.declared.standing.Standing.TheVariants.{Open}

-- This was read: these records, and after them what a standing describes. What is kept is what comes after them, as long as more could
-- follow. More could follow only if the input ended or a read failed. Nothing is found out about the input after a failed read.
pub record HasRead (standing : Standing) (pairs : List Pair) (kept read : List ℕ) (failed : Bool) (at_end : Type 0) : Type 0 where
  pub behind : List ℕ
  pub parts : read ≡ joined pairs ++ behind
  pub near : length behind ≤ 36931
  pub each : AllByRecursion IsRecord pairs
  -- so many records could still follow
  pub left : ℕ
  pub few : record_limit ≡ left + length pairs
  pub leaves : Leaves standing (Some left) behind
  pub keeps : IsKept standing behind kept
  pub ended : standing ≡ Open → failed ≡ false → at_end
  pub cut : failed ≡ true → HasPlayedAll standing → standing ≡ Open
  pub stops : StopsReading read
