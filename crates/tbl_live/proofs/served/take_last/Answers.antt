use Rattle.std.proofs.Common.{◌-◌, arith}
use Rattle.tbl_live.proofs.StepLemmas.{takes_last, has_room}
use Rattle.tbl_live.proofs.served.take_last.Goals as goal

pub append_or_own-later-requires : goal.append_or_own-later-requires
append_or_own-later-requires g c = has_room c.args.out.now.spare c.last-entry.result.now c.last-entry.ensures.small c.requires.room

pub returns : goal.returns
returns g c =
    let some = c.requires.some in
    let count = c.count-place.ensures in
    let later = c.append_or_own-later.ensures in
    record {
      last = takes_last (g.K.ServiceCore.core c.args.core.now).entries (c.count-place.result - 1) c.last-entry.result.now c.args.out.now.list _ c.last-entry.ensures.last (omega (arith, some, count)) later.bytes;
      room = later.room;
    }
