use Rattle.std.proofs.Common.{◌≡◌, ◌+◌, ℕ}
use Rattle.turn_lock.specs.Turns.{IsSeat}
use Rattle.tbl_crew.specs.Moves.{HaveLeft, AreKnown}
use Rattle.tbl_crew.proofs.turns.play_script.Given as goal

abbrev pub invariant-turns : goal.invariant-turns
invariant-turns g l = record {
  own : l.place.table_id ≡ l.fn.place.table_id;
  seat : IsSeat l.place.me l.actor 1;
  known : AreKnown l.pins.items l.plan l.actor l.place.me.0.seen;
  left : (count : ℕ) → count + l.nth ≡ l.count → HaveLeft (λ _. count) l.actor l.place.me.0.seen;
}
