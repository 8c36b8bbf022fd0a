use Rattle.std.proofs.Common.{[]}
use Rattle.tbl_c.proofs.service.Service.play.Goals as goal

pub tell-requires : goal.tell-requires
tell-requires c = record { small = (c.in_ok-status.ensures.steps.stepped []).adds.small }
