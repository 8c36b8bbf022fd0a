use Rattle.std.proofs.Common.{◌≡◌, ◌+◌, ℕ}
use Rattle.turn_lock.specs.Turns.{IsSeat}
use Rattle.table_watch.specs.Watching.{watcher}
use Rattle.tbl_crew.specs.Moves.{HaveLeft, AreKnown}
use Rattle.tbl_crew.specs.Seats.{first_crew}
use Rattle.tbl_crew.specs.Watching.{HaveWatched}
use Rattle.tbl_crew.proofs.watching.watch_script.Given as goal

abbrev pub invariant-turns : goal.invariant-turns
invariant-turns g l = record {
  own : l.place.table_id ≡ l.fn.place.table_id;
  seat : IsSeat l.place.me watcher 1;
  known : AreKnown l.pins.items l.plan watcher l.place.me.0.seen;
  left : (count : ℕ) → count + l.nth ≡ l.count → HaveLeft (λ _. count) watcher l.place.me.0.seen;
  watched : HaveWatched g.B.Bank g.C.Validator.verdict (first_crew l.room) l.watch l.place.me.0.seen;
}
