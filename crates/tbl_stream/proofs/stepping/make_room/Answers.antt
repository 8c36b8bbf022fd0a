use Rattle.std.proofs.Common.{ap, not, ◌∙◌}
use Rattle.tbl_stream.proofs.GoingLemmas.{goes_recounted, met_limit}
use Rattle.tbl_stream.proofs.stepping.make_room.Goals as goal

pub returns-clause-goes : goal.returns-clause-goes
returns-clause-goes g c = rw c.recount.ensures (goes_recounted g.B.Bank g.C.Validator.verdict c.args.engine.now)

pub returns-clause-full : goal.returns-clause-full
returns-clause-full g c none = met_limit c.limit_met-2.result c.recount.new.self c.args.request.now c.limit_met-2.ensures (c.is_none-2.ensures ∙ ap not none)
