use Rattle.std.proofs.Common.{◌≡◌}
use Rattle.std.specs.Prelude.{All}
use Rattle.handed_kit.specs.Kit.{mute_below}
use Rattle.handed_kit.proofs.kit.mute_entries.Given as goal

abbrev pub invariant-functions : goal.invariant-functions
invariant-functions l = record {
  entries : l.entries.items ≡ mute_below l.number;
  asked : All (λ e. e.check.asked ≡ 0) l.entries.items;
}
