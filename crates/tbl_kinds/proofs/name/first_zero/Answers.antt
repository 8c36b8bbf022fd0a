use Rattle.std.proofs.Common.{length, sym, eq-eqb, arith}
use Rattle.std.proofs.lemmas.List.Sums.{position_or_len_is}
use Rattle.tbl_kinds.specs.Names.{is_zero}
use Rattle.tbl_kinds.proofs.name.first_zero.Goals as goal

pub returns-then-byte-eq0 : goal.returns-then-byte-eq0
returns-then-byte-eq0 c = sym (position_or_len_is is_zero c.args.field.now c.loop-i.i 0 (omega arith) c.loop-i.invariant (λ _. eq-eqb _ 0 c.if-byte-eq0.true))

pub returns : goal.returns
returns c = sym (position_or_len_is is_zero c.args.field.now (length c.args.field.now) 0 (omega arith) (λ k h. c.loop-i.invariant k (omega (arith, h))) (λ h. absurd (omega (arith, h))))
