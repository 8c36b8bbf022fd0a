use Rattle.std.proofs.Common.{◌≡◌, All, IfSome, take}
use Rattle.validation.specs.Kits.{owners}
use Rattle.validation.specs.contracts.kit.Kit.renewed.F-Fn.{words}
use Rattle.validation.proofs.kit.Kit.renewed.Given as goal

abbrev pub invariant-loop-entry : goal.invariant-loop-entry
invariant-loop-entry g l = (owners l.entries.items ≡ take l.entry-index (owners l.entry-items)) × All (λ entry. IfSome entry (λ e. (words g.row.C g.row.F g.F.Fn).post l.fresh e.check)) l.entries.items
