use Rattle.std.proofs.Common.{◌≡◌, ◌<◌, ◌≤◌, ◌^◌, ◌∙◌, rules, arith}
use Rattle.std.specs.Fmt.{decimal}
use Rattle.std.proofs.lemmas.Fmt.{parse-decimal, IsAscii-decimal}
use Rattle.std.proofs.lemmas.Str.{IsUtf8-from_ascii}
use Rattle.plain_text.proofs.reading.read_decimal.Goals.{else-number-most-via-then-number-most+else-eq, else-number-most-via-else-number-most}
use Rattle.plain_text.proofs.reading.read_decimal.Goals as goal

-- a number's digits are ASCII, so what is no UTF-8 is no number
pub returns-in_default : goal.returns-in_default
returns-in_default c n = (
  λ h. search rules,
  λ p. let fits : n < 2 ^ 64 = omega (arith, c.ranges.most.fits, p.1) in
      absurd (search (rules, IsUtf8-from_ascii _ (IsAscii-decimal n fits))),
)

pub returns-in_default-parse : goal.returns-in_default-parse
returns-in_default-parse c n = (
  λ h. search rules,
  λ p. let fits : n < 2 ^ 64 = omega (arith, c.ranges.most.fits, p.1) in
      absurd (cc (parse-decimal 64 n _ _ fits fits (c.in-Ok.ensures.cases.0 ∙ p.0) c.parse.ensures.value.0)),
)

pub returns-then-eq : goal.returns-then-eq
returns-then-eq c n = (
  λ h. let spelled : c.args.bytes.now ≡ decimal n = search rules in (spelled, search rules),
  λ p. let fits : n < 2 ^ 64 = omega (arith, c.ranges.most.fits, p.1) in
      cc (parse-decimal 64 n _ _ fits fits (c.in-Ok.ensures.cases.0 ∙ p.0) c.parse.ensures.value.0),
)

-- what is read has another spelling, or is above the most
pub returns-else-number-most : goal.returns-else-number-most
returns-else-number-most c n = (
  λ h. search rules,
  λ p. let fits : n < 2 ^ 64 = omega (arith, c.ranges.most.fits, p.1) in
      let read = parse-decimal 64 n _ _ fits fits (c.in-Ok.ensures.cases.0 ∙ p.0) c.parse.ensures.value.0 in
      elim c.else-number-most.branch [
        | else-number-most-via-then-number-most+else-eq w ↦ absurd (search rules)
        | else-number-most-via-else-number-most w ↦ absurd (search rules)
      ],
)
