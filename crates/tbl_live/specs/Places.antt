-- Places at the lock, before two of them become one and after it.
use Rattle.std.specs.Prelude.{◌≡◌, ℕ, ◌+◌, ◌++◌, length, Option}
use Rattle.atomic_table.specs.Seated.{TableId}
use Rattle.atomic_table.specs.declared.shared.Seat.{Seat}
use Rattle.turn_lock.specs.declared.rule.View.{View}
use Rattle.turn_lock.specs.Turns.{Idle}

abbrev pub Place : Type 0 → Type 0
Place T = Seat (Option T) (View T)

-- Two places before they become one.
pub record MayJoin {T : Type 0} (lock : TableId) (lower upper : Place T) : Type 0 where
  -- both are at this lock
  pub own : (lower.table_id ≡ lock) × (upper.table_id ≡ lock)
  -- neither has a turn
  pub idle : Idle lower.me lower.me.0.from lower.me.0.seen × Idle upper.me upper.me.0.from upper.me.0.seen
  -- the upper one's actors are the next ones
  pub meet : upper.me.0.from ≡ lower.me.0.from + length lower.me.0.seen

-- And the one.
pub record IsJoined {T : Type 0} (lower upper joined : Place T) : Type 0 where
  pub own : joined.table_id ≡ lower.table_id
  pub idle : Idle joined.me lower.me.0.from (lower.me.0.seen ++ upper.me.0.seen)
