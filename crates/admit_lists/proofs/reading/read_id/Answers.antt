use Rattle.std.proofs.Common.{◌∙◌, sym, rules}
use Rattle.admit_lists.proofs.reading.read_id.Goals as goal

pub overflow_cast-result : goal.overflow_cast-result
overflow_cast-result c = let read = (c.read_decimal.ensures c.in_ok-number.number).0 c.in_ok-number.was in let most = read.1 in search (rules, most)

pub returns : goal.returns
returns c = λ id. (
  λ is. let read = (c.read_decimal.ensures id).0 (c.in_ok-number.was ∙ is) in let most = read.1 in record { digits = read.0; fits = search (rules, most) },
  λ spells. let fits = spells.fits in sym c.in_ok-number.was ∙ (c.read_decimal.ensures id).1 (spells.digits, search (rules, fits)),
)

pub returns-in_err-number : goal.returns-in_err-number
returns-in_err-number c = λ id. (
  λ is. absurd (cc (c.from_residual.ensures, is)),
  λ spells. let fits = spells.fits in let read = (c.read_decimal.ensures id).1 (spells.digits, search (rules, fits)) in absurd (cc (c.in_err-number.was, read)),
)
