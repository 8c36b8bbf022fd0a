use Rattle.std.proofs.Common.{◌∙◌, refl, sym}
use Rattle.std.specs.Prelude.{option_and_then}
use Rattle.tbl_model.specs.State.{Handle}
use Rattle.tbl_model.specs.TableSteps.{handle_at}
use Rattle.sharing.proofs.GivenUp.{gives_up, removed_pends, removed_loads, back_pends, back_loads}
use Rattle.sharing.proofs.leaving.give_up.Goals as goal

pub returns-in-Some : goal.returns-in-Some
returns-in-Some c = record {
  effect = λ s tables pending. gives_up s c.args.tables.now c.args.pending.now tables pending c.args.handle _ c.in-Some.ensures.row ∙ rw (c.take_away.ensures, c.drop_row.ensures) refl;
  pending = λ all. rw (c.take_away.ensures, c.drop_row.ensures) (removed_pends c.args.tables.now c.args.handle c.in-Some.row (sym c.in-Some.ensures.row) c.args.pending.now all);
  loads = λ all. rw c.take_away.ensures (removed_loads c.args.tables.now c.args.handle c.in-Some.row (sym c.in-Some.ensures.row) all);
}

pub returns-in-None : goal.returns-in-None
returns-in-None c =
    let row = option_and_then (λ (h : Handle). h.row) (handle_at c.args.tables.now c.args.handle) in record {
      effect = λ s tables pending. gives_up s c.args.tables.now c.args.pending.now tables pending c.args.handle _ c.in-None.ensures.row ∙ rw c.free_handle.ensures refl;
      pending = λ all. rw c.free_handle.ensures (back_pends c.args.handle c.args.tables.now row c.args.pending.now all);
      loads = λ all. rw c.free_handle.ensures (back_loads c.args.handle c.args.tables.now row all);
    }
