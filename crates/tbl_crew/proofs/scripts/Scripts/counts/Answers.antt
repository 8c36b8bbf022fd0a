use Rattle.std.proofs.Common.{◌≡◌, ◌≢◌, ◌<◌, List, [], length, min, ap, ◌∙◌, arith}
use Rattle.std.proofs.Math.Logic.{dite}
use Rattle.std.proofs.Math.Decide.{dec_lt}
use Rattle.std.proofs.lemmas.List.{get_or_default, get_or-set_same, get_or-set_other, length-set}
use Rattle.tbl_kinds.specs.Records.{record_limit}
use Rattle.tbl_kinds.specs.declared.request.Request.{Request}
use Rattle.tbl_crew.specs.Scripts.{script_of}
use Rattle.tbl_crew.proofs.scripts.Scripts.counts.Goals as goal

pub actors-preserved : goal.actors-preserved
actors-preserved c = record {
  room = length-set _ _ _ ∙ c.actors.invariant.room;
  each = λ actor within. dite (dec_lt actor c.actors.actor)
      (λ before. let apart : actor ≢ c.actors.actor = omega arith in rw get_or-set_other (c.actors.invariant.each actor before))
      (λ last.
      let same : actor ≡ c.actors.actor = omega arith in
      let here : c.actors.actor < length c.actors.counts = omega (arith, c.actors.invariant.room) in
      let there = get_or_default c.self.inside.scripts.items c.actors.actor c.index.result.now [] (omega (arith, c.self.invariant, c.actors-test.true)) in
      let script = c.index.ensures ∙ there ∙ ap (λ (s : List (List Request)). script_of s c.actors.actor) c.self.view_is in
      rw same (rw get_or-set_same (c.len.ensures ∙ ap (λ (l : List Request). min (length l) record_limit) script)));
}
