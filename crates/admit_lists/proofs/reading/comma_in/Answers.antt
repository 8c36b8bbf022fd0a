use Rattle.std.proofs.Common.{length, sym, eq-eqb, arith}
use Rattle.std.proofs.lemmas.List.Sums.{position_or_len_is}
use Rattle.admit_lists.specs.Lists.{is_comma}
use Rattle.admit_lists.proofs.reading.comma_in.Goals as goal

pub returns-then-byte-eq44-clause-comma : goal.returns-then-byte-eq44-clause-comma
returns-then-byte-eq44-clause-comma c = sym (position_or_len_is is_comma c.args.text.now c.loop-i.i 0 (omega arith) c.loop-i.invariant (λ _. eq-eqb _ 44 c.if-byte-eq44.true))

pub returns-clause-comma : goal.returns-clause-comma
returns-clause-comma c = sym (position_or_len_is is_comma c.args.text.now (length c.args.text.now) 0 (omega arith) (λ k h. c.loop-i.invariant k (omega (arith, h))) (λ h. absurd (omega (arith, h))))
