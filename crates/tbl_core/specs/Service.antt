-- What the core keeps, which histories it represents, and what a request does to it: the names of the files by concept, for whoever cites them.
pub use Rattle.tbl_core.specs.Views.{PartsView, EngineView, CoreView, parts_view, works_view, core_of}
pub use Rattle.tbl_core.specs.Standing.{IsStateOf, state_of, HoldsAll, Shows, FollowsFrom, Stands, Vouches}
pub use Rattle.tbl_core.specs.Ready.{AskedBelow, engine_limit, image_limit, IsReset, HasRoom, IsLimit, IsReady, recounted, IsAfter, MayPlay, AreReady}
pub use Rattle.tbl_core.specs.Making.{Step, step_of, Leaves, IsJudged, Does, owned_in, LeadsTo, DoesAndCopies, EndsIn, HasEffect, Has, Makes, Meets}
pub use Rattle.tbl_core.specs.Made.{after_stop, HadEffect, IsMade}
pub use Rattle.tbl_core.specs.Playing.{PinsOnward, Plays, HasPlays, IsOfPin, AddsOne}
pub use Rattle.tbl_core.specs.Starting.{start_fault, StartCounted}
