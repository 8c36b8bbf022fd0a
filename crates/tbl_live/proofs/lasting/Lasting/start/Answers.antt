use Rattle.std.proofs.Common.{sym, subst, rules}
use Rattle.tbl_model.specs.State.{first_state}
use Rattle.cds_layout.specs.Images.{store_of}
use Rattle.validation.specs.Kits.{owners}
use Rattle.tbl_core.specs.Service.{Stands}
use Rattle.tbl_live.proofs.LastingLemmas.{firsts, is_first}
use Rattle.tbl_live.proofs.lasting.Lasting.start.Goals as goal

pub invariant_of-result : goal.invariant_of-result
invariant_of-result g c = is_first c.new.result.items c.in-Ok.engine c.new.ensures c.in-Ok.ensures.after

pub returns-in-Ok : goal.returns-in-Ok
returns-in-Ok g c =
    let it = c.in-Ok.ensures in
    record {
      starts = record {
        stands = subst (λ items. Stands g.B.Bank (first_state (store_of (g.B.Bank.now c.args.bank)) (owners c.args.kit) c.args.admit) (firsts items) c.in-Ok.engine) (sym c.new.ensures) it.stands;
        kit = it.kit;
        admit = it.admit;
        empty = search rules;
        live = it.live;
        counts = it.counts;
        crash = it.crash;
      };
      err = tt;
    }

pub returns-in-Err : goal.returns-in-Err
returns-in-Err g c =
    let back = c.in-Err.ensures in
    record { starts = tt; err = record { crash = back.crash_err; cause = back.cause; memory = back.memory; room = back.room_err } }
