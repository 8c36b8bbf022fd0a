use Rattle.std.proofs.Common.{◌≡◌}
use Rattle.std.specs.Prelude.{All}
use Rattle.shipped_kit.specs.Kit.{shipped_below}
use Rattle.shipped_kit.specs.Verdicts.{asked_of}
use Rattle.shipped_kit.proofs.functions.shipped_entries.Given as goal

abbrev pub invariant-functions : goal.invariant-functions
invariant-functions l = record {
  entries : l.entries.items ≡ shipped_below l.number;
  fresh : All (λ e. asked_of e.check ≡ 0) l.entries.items;
}
