use Rattle.std.proofs.Common.{refl, ◌∙◌, ap, subst, arith}
use Rattle.std.specs.Prelude.{if◌then◌else◌}
use Rattle.tbl_outside.specs.Counts.{risen}
use Rattle.bank_mirror.specs.Mirrors.{Mirrored, WritesBoth}
use Rattle.bank_mirror.proofs.Answering.{writes_both, mirror_on}
use Rattle.bank_mirror.proofs.mirror.MirrorBank.write_at.Goals as goal

pub invariant_of-self : goal.invariant_of-self
invariant_of-self g c =
    let old : Mirrored _ _ = record { pair = c.self.inside.banks; in_use = c.self.inside.in_use; mark_failed = c.self.inside.mark_failed; faults = c.self.inside.faults } in
    let new : Mirrored _ _ = record { pair = c.write-ended.new.self; in_use = c.write-ended.result.in_use; mark_failed = c.self.inside.mark_failed; faults = c.counted-self-inside.result } in
    mirror_on g.A.Bank g.B.Bank old new c.self.invariant c.write-ended.ensures.writes.holds.goes_on refl c.write-ended.ensures.in_use.held c.write-ended.ensures.in_use.excuse

pub returns : goal.returns
returns g c =
    let old : Mirrored _ _ = record { pair = c.self.inside.banks; in_use = c.self.inside.in_use; mark_failed = c.self.inside.mark_failed; faults = c.self.inside.faults } in
    let new : Mirrored _ _ = record { pair = c.write-ended.new.self; in_use = c.write-ended.result.in_use; mark_failed = c.self.inside.mark_failed; faults = c.counted-self-inside.result } in
    record {
      writes = subst (λ (was : Mirrored _ _). WritesBoth g.A.Bank g.B.Bank was new c.args.at c.args.bytes.now c.write-ended.result.written) c.self.view_is
          (writes_both g.A.Bank g.B.Bank old c.write-ended.new.self c.counted-self-inside.result c.args.at c.args.bytes.now c.write-ended.result (omega arith) c.self.invariant c.write-ended.ensures
          (c.counted-self-inside.ensures ∙ ap (λ failed. if failed then risen old.faults else old.faults) c.is_failed.ensures));
    }
