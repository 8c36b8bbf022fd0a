-- The order in which the records of a session become its history.
use Rattle.std.specs.Prelude.{◌≡◌, ℕ, List, [], ◌++◌}
use Rattle.tbl_kinds.specs.Records.{Pair}
use Rattle.tbl_kinds.specs.Transcript.{pairs_of}
use Rattle.tbl_session.specs.Actors.{part, HaveActors}
use Rattle.tbl_session.specs.Session.{IsEnded}
use Rattle.tbl_kinds.specs.declared.entry.Entry.{Entry}
use Rattle.tbl_kinds.specs.declared.request.Request.{Request}

-- as they were read; these are the records that were played, which after 1, 4, 7 and 8 are the first of them
abbrev pub InOrder : ℕ → List Pair → List Entry → Type 0
InOrder status pairs entries = pairs_of entries ≡ pairs

-- what an actor requested is what is its own among the records, in order, each once; after 1, 4, 7 and 8 the beginning of it
pub record RequestedBy (status : ℕ) (own requested : List Request) : Type 0 where
  pub left : List Request
  pub parts : own ≡ requested ++ left
  pub whole : IsEnded status → left ≡ []

-- so it is of each actor, whatever the order between them, and no entry is of any other
pub record ByActor (status : ℕ) (pairs : List Pair) (entries : List Entry) : Type 0 where
  pub each : (actor : ℕ) → RequestedBy status (part actor pairs) (part actor (pairs_of entries))
  pub actors : HaveActors (pairs_of entries)
