use Rattle.std.proofs.Common.{◌<◌, length, Option, sym, ◌∙◌, ap, IfSome, ℕ, subst}
use Rattle.tbl_kinds.specs.Free.{least_free}
use Rattle.cds_store.specs.Slots.{without_slot}
use Rattle.cds_store.proofs.Free.{free_before, free_at}
use Rattle.cds_store.proofs.lookups.free_slot.Goals as goal

pub returns-in-Some-first_free-2 : goal.returns-in-Some-first_free-2
returns-in-Some-first_free-2 c =
    let within : c.in-Some.freed < length c.args.slots.now = subst (λ (o : Option ℕ). IfSome o (λ n. n < length c.args.slots.now)) c.in-Some.is c.requires.within in
    free_before c.args.slots.now c.in-Some.freed within c.in-Some-first_free-2.slot (c.in-Some-first_free-2.ensures.slot) ∙ ap (λ (o : Option ℕ). least_free (without_slot o c.args.slots.now)) (sym c.in-Some.is)

pub returns-in-None-first_free-2 : goal.returns-in-None-first_free-2
returns-in-None-first_free-2 c =
    let within : c.in-Some.freed < length c.args.slots.now = subst (λ (o : Option ℕ). IfSome o (λ n. n < length c.args.slots.now)) c.in-Some.is c.requires.within in
    free_at c.args.slots.now c.in-Some.freed within (c.in-None-first_free-2.ensures.slot) ∙ ap (λ (o : Option ℕ). least_free (without_slot o c.args.slots.now)) (sym c.in-Some.is)
