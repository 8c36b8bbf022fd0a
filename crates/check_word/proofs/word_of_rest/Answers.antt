use Rattle.std.proofs.Common.{◌≡◌, ◌-◌, bit_xor, ◌∙◌, refl, arith}
use Rattle.std.specs.List.{fold}
use Rattle.std.proofs.lemmas.List.{take_all}
use Rattle.tbl_kinds.specs.Check.{after_byte}
use Rattle.check_word.specs.Later.{later}
use Rattle.check_word.proofs.Steps.{rest_of, rest_length, more_of_rest}
use Rattle.check_word.proofs.word_of_rest.Goals as goal

pub loop-place-init : goal.loop-place-init
unfolding later after_byte
loop-place-init c = refl

pub loop-place-preserved : goal.loop-place-preserved
loop-place-preserved c =
    (λ i. bit_xor (c.loop-place.invariant i) (c.added-word.ensures i))
    ∙ more_of_rest c.args.step.now c.loop-place.place c.loop-place.auto.place c.loop-place-test.true c.told-step

pub returns : goal.returns
unfolding later
returns c =
    let none_left : 32 - c.loop-place.place ≡ 0 = omega (arith, c.loop-place-test.false) in
    c.loop-place.invariant
    ∙ (λ i. later (none_left i) (fold after_byte 0 (take_all c.loop-place.place (rest_of c.args.step.now) (omega (arith, c.loop-place-test.false, c.told-step, rest_length c.args.step.now (omega (arith, c.told-step)))) i)))
