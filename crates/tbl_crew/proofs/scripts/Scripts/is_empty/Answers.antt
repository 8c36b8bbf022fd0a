use Rattle.std.proofs.Common.{◌≡◌, List, [], length, ap, sym, ◌∙◌, arith}
use Rattle.std.proofs.Math.Decide.{dec_lt}
use Rattle.std.proofs.Math.Logic.{dite}
use Rattle.std.proofs.lemmas.List.{get_or_default, get_or_past}
use Rattle.tbl_kinds.specs.declared.request.Request.{Request}
use Rattle.tbl_crew.specs.Scripts.{script_of}
use Rattle.tbl_crew.proofs.ScriptLemmas.{counts_none, counts_some}
use Rattle.tbl_crew.proofs.scripts.Scripts.is_empty.Goals as goal

pub returns : goal.returns
returns c actor = dite (dec_lt actor c.actors.actor)
    (λ before. c.actors.invariant.none actor before)
    (λ past. get_or_past c.args.self.now actor [] (omega (arith, past, ap length c.self.view_is, c.self.invariant, c.actors-test.false)))

pub actors-preserved : goal.actors-preserved
actors-preserved c = record {
  none = λ actor within. dite (dec_lt actor c.actors.actor)
      (λ before. c.actors.invariant.none actor before)
      (λ last.
      let same : actor ≡ c.actors.actor = omega arith in
      let there = get_or_default c.self.inside.scripts.items c.actors.actor c.index.result.now [] (omega (arith, c.self.invariant, c.actors-test.true)) in
      let script = c.index.ensures ∙ there ∙ ap (λ (s : List (List Request)). script_of s c.actors.actor) c.self.view_is in
      rw same (sym script ∙ counts_none c.index.result.now c.len-count.result c.len-count.ensures (omega (arith, c.if-count-ne0.false))));
}

pub returns-then-count-ne0 : goal.returns-then-count-ne0
returns-then-count-ne0 c =
    let there = get_or_default c.self.inside.scripts.items c.actors.actor c.index.result.now [] (omega (arith, c.self.invariant, c.actors-test.true)) in
    let script = c.index.ensures ∙ there ∙ ap (λ (s : List (List Request)). script_of s c.actors.actor) c.self.view_is in
    let some = counts_some c.index.result.now c.len-count.result c.len-count.ensures c.if-count-ne0.true in
    (c.actors.actor, some.0, some.1, sym script ∙ some.2)
