use Rattle.std.proofs.Common.{◌≡◌}
use Rattle.std.specs.List.{fold, range_with_len}
use Rattle.tbl_model.specs.Sharing.{give_up_if}
use Rattle.sharing.specs.Leaving.{GivesUp}
use Rattle.sharing.proofs.leaving.give_up_all.Given as goal

abbrev pub invariant-loop-handle : goal.invariant-loop-handle
invariant-loop-handle l = GivesUp l.initial.tables l.tables l.initial.pending l.pending (λ s next. fold (give_up_if l.app) s (range_with_len 0 l.handle) ≡ next)
