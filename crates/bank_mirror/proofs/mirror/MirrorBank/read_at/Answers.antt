use Rattle.std.proofs.Common.{refl, ◌∙◌, ap, subst, arith}
use Rattle.std.specs.Prelude.{if◌then◌else◌}
use Rattle.tbl_outside.specs.Counts.{risen}
use Rattle.bank_mirror.specs.Mirrors.{Mirrored, ReadsBoth}
use Rattle.bank_mirror.proofs.Answering.{reads_both, mirror_on}
use Rattle.bank_mirror.proofs.mirror.MirrorBank.read_at.Goals as goal

pub invariant_of-self : goal.invariant_of-self
invariant_of-self g c =
    let old : Mirrored _ _ = record { pair = c.self.inside.banks; in_use = c.self.inside.in_use; mark_failed = c.self.inside.mark_failed; faults = c.self.inside.faults } in
    let new : Mirrored _ _ = record { pair = c.read-end.new.self; in_use = c.read-end.result.in_use; mark_failed = c.self.inside.mark_failed; faults = c.counted-self-inside.result } in
    mirror_on g.A.Bank g.B.Bank old new c.self.invariant c.read-end.ensures.piece.keeps.goes_on refl c.read-end.ensures.in_use.held c.read-end.ensures.in_use.excuse

pub returns : goal.returns
returns g c =
    let old : Mirrored _ _ = record { pair = c.self.inside.banks; in_use = c.self.inside.in_use; mark_failed = c.self.inside.mark_failed; faults = c.self.inside.faults } in
    let new : Mirrored _ _ = record { pair = c.read-end.new.self; in_use = c.read-end.result.in_use; mark_failed = c.self.inside.mark_failed; faults = c.counted-self-inside.result } in
    record {
      reads = subst (λ (was : Mirrored _ _). ReadsBoth g.A.Bank g.B.Bank was new c.args.at c.args.into.now c.read-end.new.into c.read-end.result.read) c.self.view_is
          (reads_both g.A.Bank g.B.Bank old c.read-end.new.self c.counted-self-inside.result c.args.at c.args.into.now c.read-end.new.into c.read-end.result (omega arith) c.self.invariant c.read-end.ensures
          (c.counted-self-inside.ensures ∙ ap (λ failed. if failed then risen old.faults else old.faults) c.is_err.ensures.value));
    }
