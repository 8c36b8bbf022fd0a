-- What was read of an input before any of it is played.
use Rattle.std.specs.Prelude.{◌≡◌, ℕ, ◌+◌, ◌<◌, ◌≤◌, List, [], ◌∷◌, ◌++◌, length, drop, replicate, Bool, Option, Some, None, MatchOption}
use Rattle.std.specs.List.{AllByRecursion}
use Rattle.std.specs.Io.KnownBytes.{prepend_known, IsAtEnd}
use Rattle.tbl_kinds.specs.Records.{Pair, IsRecord, spelling, joined, record_limit}
use Rattle.tbl_kinds.specs.declared.request.Request.{Request}
use Rattle.tbl_session.specs.Actors.{actor_count}
use Rattle.tbl_crew.specs.Scripts.{pushed}
use Rattle.tbl_stream.specs.Feeding.{IsKept}
use Rattle.tbl_stream.specs.Standing.{FindsNone, IsOfInput, Leaves}
use Rattle.tbl_top.specs.Reading.{HasRead}
use Rattle.tbl_stream.specs.declared.standing.Standing.{Standing}
use Rattle.tbl_stream.specs.declared.standing.Standing.TheVariants.{Open}

-- the records by their actors, how many may follow, and the bytes after them
pub record Collecting : Type 0 where
  pub scripts : List (List Request)
  pub left : ℕ
  pub rest : List ℕ

-- each of these records put last in the script of its actor
abbrev pub put_last : List (List Request) → List Pair → List (List Request)
put_last scripts [] = scripts
put_last scripts (p ∷ pairs) = put_last (pushed scripts p) pairs

-- the scripts of these records
abbrev pub scripts_of : List Pair → List (List Request)
scripts_of pairs = put_last (replicate actor_count []) pairs

-- these records were taken of what was fed, and after them are at most so many bytes, which a standing describes
pub record HasTaken (standing : Standing) (fed : List ℕ) (most : ℕ) (pairs : List Pair) (c : Collecting) : Type 0 where
  pub behind : List ℕ
  pub parts : fed ≡ joined pairs ++ behind
  pub near : length behind ≤ most
  pub each : AllByRecursion IsRecord pairs
  pub few : record_limit ≡ c.left + length pairs
  pub scripts : c.scripts ≡ scripts_of pairs
  pub leaves : Leaves standing (Some c.left) behind
  pub keeps : IsKept standing behind c.rest

-- a record more was taken, which was between these places
pub record TakesOne (at further : ℕ) (old new : Collecting) : Type 0 where
  pub pair : Pair
  pub is_record : IsRecord pair
  pub spelled : drop at old.rest ≡ spelling pair ++ drop further old.rest
  pub some : at < further
  pub scripts : new.scripts ≡ pushed old.scripts pair
  pub left : old.left ≡ new.left + 1

-- none was, and a standing describes what is at the place
pub record TakesNone (standing : Standing) (at further : ℕ) (old new : Collecting) : Type 0 where
  pub same : new ≡ old
  pub stays : further ≡ at
  pub none : FindsNone standing (Some old.left) (drop at old.rest)

-- with a piece more: an open input goes on, if something came; else this is how it ended
abbrev pub TakesMore : Option (Standing × Bool) → List ℕ → Collecting → Type 0 → Type 0 → Type 0
TakesMore None fed c some at_end = some × (most : ℕ) × (pairs : List Pair) × HasTaken Open fed most pairs c
TakesMore (Some ended) fed c some at_end = (pairs : List Pair) × (c.scripts ≡ scripts_of pairs) × HasRead ended.0 pairs c.rest fed ended.1 at_end

-- whether a read failed, if the reading ended
abbrev pub failed_of : Option (Standing × Bool) → Option Bool
failed_of None = None
failed_of (Some ended) = Some ended.1

-- One piece was read, from what the source had still to give before to what it has then.
pub record CollectsPiece (ended : Option (Standing × Bool)) (old new : Collecting) (before after : Option (List ℕ)) : Type 0 where
  pub read : List ℕ
  pub came : before ≡ prepend_known read after
  -- of whatever was fed before, more records are taken, and this is what comes after them
  pub takes : (fed : List ℕ) (most : ℕ) (pairs : List Pair) → HasTaken Open fed most pairs old → TakesMore ended (fed ++ read) new (0 < length read) (IsAtEnd after)
  pub input : MatchOption ended (Unit {0}) (λ end. IsOfInput end.0)

-- The whole input was read so.
pub record Collects (ended : Standing × Bool) (c : Collecting) (before after : Option (List ℕ)) : Type 0 where
  pub read : List ℕ
  pub came : before ≡ prepend_known read after
  pub pairs : List Pair
  pub scripts : c.scripts ≡ scripts_of pairs
  pub has : HasRead ended.0 pairs c.rest read ended.1 (IsAtEnd after)
  pub input : IsOfInput ended.0
