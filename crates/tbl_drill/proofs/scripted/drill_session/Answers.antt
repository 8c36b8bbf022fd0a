use Rattle.std.proofs.Common.{◌≡◌, ℕ, List, map, ap, ◌∙◌, subst, arith}
use Rattle.tbl_kinds.specs.Records.{Pair}
use Rattle.tbl_drill.specs.Drill.{roomless, round_from, session}
use Rattle.tbl_drill.proofs.Sessions.{goes_on, three_draws, length-session}
use Rattle.tbl_drill.proofs.DrillRecords.{each_record}
use Rattle.tbl_drill.proofs.scripted.drill_session.Goals as goal

pub loop-round-preserved : goal.loop-round-preserved
loop-round-preserved c =
    let at = c.loop-round.invariant.at in
    let same = c.in_ok-round_record.ensures.record ∙ ap round_from at in
    record {
      list = goes_on c.args.seed c.loop-round.round c.loop-round.script c.push.new.self _ c.in_ok-push.ensures.ok c.loop-round.invariant.list same;
      at = c.round_record.ensures.number ∙ three_draws c.args.seed c.loop-round.round c.loop-round.generator.number at;
    }

-- all rounds were put
all_of : (seed round rounds : ℕ) (script : List Pair) → round ≡ rounds → map roomless script ≡ session seed round → map roomless script ≡ session seed rounds
all_of seed round rounds script all list = subst (λ (n : ℕ). map roomless script ≡ session seed n) all list

pub returns-clause-len : goal.returns-clause-len
returns-clause-len c = length-session c.args.seed c.args.rounds c.loop-round.script (all_of c.args.seed c.loop-round.round c.args.rounds c.loop-round.script (omega arith) c.loop-round.invariant.list)

pub returns-clause-records : goal.returns-clause-records
returns-clause-records c = each_record c.args.seed c.args.rounds c.loop-round.script (all_of c.args.seed c.loop-round.round c.args.rounds c.loop-round.script (omega arith) c.loop-round.invariant.list)
