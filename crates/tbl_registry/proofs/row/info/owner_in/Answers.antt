use Rattle.std.proofs.Common.{◌∙◌, sym, take, refl}
use Rattle.std.proofs.lemmas.List.{take_all}
use Rattle.tbl_registry.proofs.Owners.{taken_no_zero}
use Rattle.tbl_registry.proofs.row.info.owner_in.Goals as goal

pub returns-then-owner-gt20-clause-owner : goal.returns-then-owner-gt20-clause-owner
returns-then-owner-gt20-clause-owner c = rw (c.before_dot.ensures.first, c.bytes-bytes.ensures.bytes) refl

pub returns-then-owner-gt20-clause-no_zero : goal.returns-then-owner-gt20-clause-no_zero
returns-then-owner-gt20-clause-no_zero c = taken_no_zero 20 _ (taken_no_zero c.before_dot.result c.bytes-bytes.result.now c.bytes-bytes.ensures.no_zero)

pub returns-else-owner-gt20-clause-owner : goal.returns-else-owner-gt20-clause-owner
returns-else-owner-gt20-clause-owner c =
    sym (take_all 20 (take c.before_dot.result c.bytes-bytes.result.now) c.if-owner-gt20.false)
    ∙ rw (c.before_dot.ensures.first, c.bytes-bytes.ensures.bytes) refl

pub returns-else-owner-gt20-clause-no_zero : goal.returns-else-owner-gt20-clause-no_zero
returns-else-owner-gt20-clause-no_zero c = taken_no_zero c.before_dot.result c.bytes-bytes.result.now c.bytes-bytes.ensures.no_zero
