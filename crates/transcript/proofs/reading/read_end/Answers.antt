use Rattle.std.proofs.Common.{refl, sym, ◌∙◌, get_or, arith}
use Rattle.transcript.proofs.Fields.{tells_end, end_again, end_found}
use Rattle.transcript.proofs.reading.read_end.Goals as goal

pub returns-then-bytes-lt13-clause-only : goal.returns-then-bytes-lt13-clause-only
returns-then-bytes-lt13-clause-only c = λ end more count offset e. let t = tells_end c.args.bytes.now end more count offset e in absurd (omega (arith, t.len))

pub returns-then-mark-clause-only : goal.returns-then-mark-clause-only
returns-then-mark-clause-only c = λ end more count offset e. let t = tells_end c.args.bytes.now end more count offset e in absurd (c.if-mark.true (c.u32_at-mark.ensures ∙ t.mark))

pub returns-clause-found : goal.returns-clause-found
returns-clause-found c =
    end_found c.args.bytes.now _ (λ i. omega (arith, c.type_inv.bytes i)) (sym c.u32_at-mark.ensures ∙ c.if-mark.false) (omega arith) refl c.u32_at.ensures c.u32_at-2.ensures

pub returns-clause-only : goal.returns-clause-only
returns-clause-only c = λ end more count offset e.
    end_again c.args.bytes.now end more (get_or c.args.bytes.now 4 0) c.u32_at.result c.u32_at-2.result (tells_end c.args.bytes.now end more count offset e) refl c.u32_at.ensures c.u32_at-2.ensures
