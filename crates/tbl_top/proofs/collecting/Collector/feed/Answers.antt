use Rattle.std.proofs.Common.{◌+◌, ◌≤◌, ◌∷◌, ◌++◌, ◌∙◌, [], length, drop, ap, subst, arith, rules}
use Rattle.std.proofs.lemmas.List.{length-append}
use Rattle.tbl_top.specs.Collecting.{Collecting}
use Rattle.tbl_top.proofs.CollectingLemmas.{takes_next, takes_last}
use Rattle.tbl_top.proofs.collecting.Collector.feed.Goals as goal

pub returns-in-Some-clause-takes : goal.returns-in-Some-clause-takes
returns-in-Some-clause-takes c = λ fed most pairs taken.
    let rest = c.args.self.now.rest in
    let piece = c.args.piece.now in
    let inside = c.self-in-records.inside in
    let last = c.in-Some.ensures.takes in
    let same = c.self-in-records.view_is ∙ last.same in
    let before = c.records.invariant.takes fed most pairs taken in (
      before.0,
      takes_last c.in-Some.standing (fed ++ piece) c.records.at (length rest + length piece) before.0 c.records.self (record { scripts = inside.scripts; left = inside.left; rest = c.drop_front.new.kept.items }) last.none.leaves
          (omega (arith, ap length c.records.invariant.rest, length-append rest piece))
          (ap (λ (v : Collecting). v.scripts) same)
          (ap (λ (v : Collecting). v.left) same)
          (c.drop_front.ensures ∙ ap (λ n. drop n inside.kept.items) last.stays ∙ ap (λ (v : Collecting). drop c.records.at v.rest) same)
          before.1,
    )

pub records-preserved : goal.records-preserved
records-preserved c = record {
  within = search rules;
  rest = search rules;
  takes = λ fed most pairs taken.
      let next = c.in_default.ensures.takes in
      let before = c.records.invariant.takes fed most pairs taken in (
        before.0 ++ next.pair ∷ [],
        takes_next (fed ++ c.args.piece.now) c.records.at c.take_next.new.at before.0 c.records.self c.take_next.new.self next c.in_default.ensures.rest before.1,
      );
}
