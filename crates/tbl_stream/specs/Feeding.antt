-- What a piece of the input leaves.
use Rattle.std.specs.Prelude.{◌≡◌, ◌≢◌, ℕ, List, ◌++◌, length, Some}
use Rattle.std.specs.List.{AllByRecursion}
use Rattle.std.proofs.Common.{ℤ}
use Rattle.tbl_kinds.specs.Records.{Pair, IsRecord, BeginsWith, AreRecords, joined, record_limit}
use Rattle.tbl_kinds.specs.Transcript.{pairs_of}
use Rattle.tbl_kinds.specs.declared.entry.Entry.{Entry}
use Rattle.tbl_model.specs.State.{State}
use Rattle.tbl_core.specs.Service.{FollowsFrom, core_of}
use Rattle.tbl_outside.specs.declared.bank.Bank.{Ghosts}
use Rattle.tbl_stream.specs.Limits.{and_more}
use Rattle.tbl_stream.specs.Playing.{Moment, PlaysOf}
use Rattle.tbl_stream.specs.Soundness.{IsSound}
use Rattle.tbl_stream.specs.Standing.{HasPlayedAll, Leaves}
use Rattle.tbl_stream.specs.declared.standing.Standing.{Standing}
use Rattle.tbl_stream.specs.declared.standing.Standing.TheVariants.{Open, Bad, TooMany, Full, BootFault, BootStopped, SinkFailed, Memory, Unwritten}
use Rattle.tbl_stream.specs.declared.stream.Fed.{Fed}
use Rattle.tbl_stream.specs.declared.stream.Fed.TheVariants as fed

-- the answer to a piece
abbrev pub answer_of : Standing → Fed
answer_of Open = fed.More
answer_of Bad = fed.Over
answer_of TooMany = fed.Over
answer_of Full = fed.Over
answer_of BootFault = fed.Over
answer_of BootStopped = fed.Over
answer_of SinkFailed = fed.Over
answer_of Memory = fed.Memory
answer_of Unwritten = fed.Memory

-- an open stream keeps what is after the records that were played
abbrev pub IsKept : Standing → List ℕ → List ℕ → Type 0
IsKept standing behind kept = standing ≡ Open → kept ≡ behind

-- what was fed is the records of these entries, which were played, and after them what this standing says
pub record Feeds {B C : Type 0} (g : Ghosts B) (verdict : C → List ℕ → ℤ) (standing : Standing) (old new : Moment B C) (fed kept : List ℕ) : Type 0 where
  pub behind : List ℕ
  pub played : PlaysOf g verdict standing old new fed behind
  pub leaves : Leaves standing new.played.left behind
  pub keeps : IsKept standing behind kept

-- What was fed was played so, and what that is worth after whatever the engine had played before.
pub record FeedsPiece {B C : Type 0} (g : Ghosts B) (verdict : C → List ℕ → ℤ) (standing : Standing) (old new : Moment B C) (fed kept : List ℕ) : Type 0 where
  pub feeds : Feeds g verdict standing old new fed kept
  -- after these records of a session, an input of them and of what was fed begins with them and with what was played
  pub begins : (before : List Pair) → AllByRecursion IsRecord before → Some record_limit ≡ and_more (length before) old.played.left
      → BeginsWith (joined before ++ fed) (before ++ pairs_of feeds.played.entries)
  -- and these are all its records, unless memory ran out, the sink failed, a boot ended the service or the engine had no room
  pub records : (before : List Pair) → AllByRecursion IsRecord before → Some record_limit ≡ and_more (length before) old.played.left
      → HasPlayedAll standing → standing ≢ Full → AreRecords (joined before ++ fed) (before ++ pairs_of feeds.played.entries)
  -- if the bank shows its bytes: each read is whole, no image goes active unjudged, and each critical table has its block
  pub sound : g.tells → (opening : State) (past : List Entry) → FollowsFrom g opening (core_of past old.played.engine) → IsSound opening (past ++ feeds.played.entries)
