use Rattle.std.proofs.Common.{Option, ℕ, ◌++◌, Some, None, ◌≤◌, length, arith}
use Rattle.tbl_kinds.specs.declared.block.Block.{Block}
use Rattle.tbl_outside.proofs.BankCalls.{no_more_made}
use Rattle.cds_layout.specs.Order.{turn_calls, place_calls, reserve_calls}
use Rattle.cds_layout.specs.Images.{turned_in}
use Rattle.cds_layout.specs.declared.turns.Place.{Place}
use Rattle.cds_layout.proofs.laws.a_call_asks_at_most_four_times.Goals as goal

reserve_short : (old : Option ℕ) (slot : ℕ) (b : Block) → length (reserve_calls old slot b) ≤ 4
reserve_short None slot b = omega arith
reserve_short (Some old) slot b = omega arith

restore_short : (slot : ℕ) (b : Block) (shown : Option Place) → length (turn_calls slot ++ place_calls b shown) ≤ 4
restore_short slot b None = omega arith
restore_short slot b (Some place) = omega arith

pub returns-clause-restore : goal.returns-clause-restore
returns-clause-restore c bytes slot b = restore_short slot b (turned_in bytes slot)

pub returns-clause-reserve : goal.returns-clause-reserve
returns-clause-reserve c = reserve_short

pub returns-clause-made : goal.returns-clause-made
returns-clause-made c = no_more_made
