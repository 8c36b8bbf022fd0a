use Rattle.std.proofs.Common.{Option, List, [], ◌∷◌, length, sym, ap, ◌∙◌, subst, arith}
use Rattle.std.proofs.lemmas.List.{length-append}
use Rattle.std.specs.List.{AllByRecursion}
use Rattle.tbl_kinds.specs.Records.{Pair, IsRecord}
use Rattle.tbl_history.proofs.ServingLemmas.{then_continues}
use Rattle.tbl_kinds.specs.declared.entry.Entry.{Entry}
use Rattle.tbl_stream.specs.Standing.{IsEnding, TellsBoot, standing_after}
use Rattle.tbl_stream.specs.declared.standing.Standing.{Standing}
use Rattle.tbl_top.proofs.DrillLemmas.{plays_more, ending_of_script}
use Rattle.tbl_top.proofs.drilling.play_script.Goals as goal

pub returns-in-Ok-Some-clause-plays : goal.returns-in-Ok-Some-clause-plays
returns-in-Ok-Some-clause-plays g c =
    let one = c.in-Ok-Some.ensures.adds in (
      c.next.new.self,
      c.records.invariant.plays ∙ sym (plays_more c.records.core.entries c.step.new.core.entries one.0 c.records.script c.next.new.self c.in-Some.actor c.in-Some.request one.1 one.2 one.3 c.in-Some.ensures),
      λ is. absurd ((ending_of_script c.in-Ok-Some.ending (subst IsEnding c.in-Ok-Some.field-0-is c.in-Ok-Some.ensures.ending)).1 is),
    )

pub returns-in-Ok-Some-clause-continues : goal.returns-in-Ok-Some-clause-continues
returns-in-Ok-Some-clause-continues g c = then_continues g.B.Bank g.C.Validator.verdict _ _ _ c.records.invariant.continues c.in-Ok-Some.ensures.continues

pub records-preserved : goal.records-preserved
records-preserved g c =
    let one = c.in-Ok-None.ensures.adds in
    let parts = c.in-Some.ensures in
    let all = subst (λ (script : List Pair). AllByRecursion IsRecord script) parts c.records.invariant.records in
    record {
      plays = c.records.invariant.plays ∙ sym (plays_more c.records.core.entries c.step.new.core.entries one.0 c.records.script c.next.new.self c.in-Some.actor c.in-Some.request one.1 one.2 one.3 parts);
      records = all.1;
      few = omega (arith, c.records.invariant.few, ap (λ (entries : List Entry). length entries) one.1, length-append c.records.core.entries (one.0 ∷ []), ap (λ (script : List Pair). length script) parts);
      continues = then_continues g.B.Bank g.C.Validator.verdict _ _ _ c.records.invariant.continues c.in-Ok-None.ensures.continues;
      live = subst (λ (s : Option Standing). TellsBoot (standing_after s) c.step.new.core.state.ended c.step.new.core.entries) c.in-Ok-None.field-0-is c.in-Ok-None.ensures.boot;
    }

pub step-requires-clause-may_play : goal.step-requires-clause-may_play
step-requires-clause-may_play g c = record { live = c.records.invariant.live; room = omega (arith, c.records.invariant.few, ap (λ (script : List Pair). length script) c.in-Some.ensures) }
