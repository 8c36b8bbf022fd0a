use Rattle.std.proofs.Common.{◌∙◌, ap, arith}
use Rattle.tbl_kinds.specs.Records.{Pair}
use Rattle.tbl_kinds.proofs.RecordLaws.{length-spelling}
use Rattle.tbl_crew.specs.Scripts.{pushed}
use Rattle.tbl_stream.proofs.StandingLemmas.{unspent}
use Rattle.tbl_top.specs.Collecting.{Collecting}
use Rattle.tbl_top.proofs.CollectingLemmas.{spelled_first}
use Rattle.tbl_top.proofs.collecting.Collector.take_next.Goals as goal

pub returns-in-Ok-push-clause-takes : goal.returns-in-Ok-push-clause-takes
returns-in-Ok-push-clause-takes c =
    let i = c.in-Ok in
    let item = i.ensures.item in
    let p : Pair = record { actor = i.actor; request = c.next_item.new.request } in
    record {
      pair = p;
      is_record = item.is_record;
      spelled = spelled_first p c.as_slice.result.now c.args.self.now.rest c.args.at.now i.used (c.as_slice.ensures.value ∙ ap (λ (v : Collecting). v.rest) c.self.view_is) item.spelled;
      some = omega (arith, item.len, length-spelling p);
      scripts = c.in-Ok-push.ensures.ok ∙ ap (λ (v : Collecting). pushed v.scripts p) c.self.view_is;
      left = omega (arith, ap (λ (v : Collecting). v.left) c.self.view_is, unspent c.self.inside.left i.ensures.follows);
    }
