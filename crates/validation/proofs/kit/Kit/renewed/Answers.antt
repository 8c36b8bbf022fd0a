use Rattle.std.proofs.Common.{IfSome, ◌∙◌, ap}
use Rattle.std.proofs.lemmas.List.Elements.{All-push}
use Rattle.validation.specs.contracts.kit.Kit.renewed.F-Fn.{words}
use Rattle.validation.proofs.Renewing.{one_more, owner}
use Rattle.validation.proofs.kit.Kit.renewed.Goals as goal

pub loop-entry-preserved : goal.loop-entry-preserved
loop-entry-preserved g c = rw c.in_ok-push.ensures.items (
  one_more c.loop-entry.entries.items c.deref-entry-items.result.now c.loop-entry.entry-index c.renewed.result _ c.loop-entry-test.true c.loop-entry.invariant.0 (c.renewed.ensures.app ∙ ap owner c.entry-item.is),
  All-push (λ entry. IfSome entry (λ e. (words g.row.C g.row.F g.F.Fn).post c.args.fresh e.check)) c.loop-entry.entries.items c.renewed.result c.loop-entry.invariant.1 c.renewed.ensures.fresh,
)
