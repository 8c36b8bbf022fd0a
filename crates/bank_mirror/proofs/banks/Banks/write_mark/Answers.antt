use Rattle.std.proofs.Common.{◌≡◌, ℕ, length, take, sym, ◌∙◌, ap, subst, arith}
use Rattle.tbl_kinds.specs.Numbers.{byte_at}
use Rattle.tbl_outside.specs.Bank.{Torn}
use Rattle.tbl_outside.proofs.Moments.{leaves_among}
use Rattle.bank_mirror.specs.Moments.{OfSecond}
use Rattle.bank_mirror.proofs.Bytes.{of_second-mark, byte_written}
use Rattle.bank_mirror.proofs.banks.Banks.write_mark.Goals as goal

pub returns : goal.returns
returns g c =
    let b = g.B.Bank in
    let pair = c.args.self.now in
    let second = c.write_second.ensures in
    let one = g.met.A.Bank in
    record {
      done = λ is told.
          let place_is : length (g.A.Bank.now c.write_second.new.self.first) ≡ c.size-place.result = ap (λ bank. length (g.A.Bank.now bank)) second.calls.other ∙ one.whole pair.first told.0 ∙ sym c.size-place.ensures.size in
          (λ i. byte_at (place_is i) (second.writes.done is told.1 i))
          ∙ byte_written (b.now pair.second) c.size-place.result c.args.mark (omega (arith, g.met.B.Bank.whole pair.second told.1, c.size-place.ensures.size, second.larger));
      moves = record {
        front = λ told.
            ap (λ bank. take (length (g.A.Bank.now bank)) (b.now c.write_second.new.self.second)) second.calls.other
            ∙ subst (λ (at : ℕ). take at (b.now c.write_second.new.self.second) ≡ take at (b.now pair.second)) (c.size-place.ensures.size ∙ sym (one.whole pair.first told.0)) (second.writes.torn told.1).before;
        other = second.calls.other;
        moments = λ told. leaves_among (second.calls.moments told)
            (λ image of. of_second-mark (g.A.Bank.now pair.first) (b.now pair.second) image
            (subst (λ (at : ℕ). OfSecond (g.A.Bank.now pair.first) (Torn at 1 (b.now pair.second)) image) (c.size-place.ensures.size ∙ sym (one.whole pair.first (one.tells_both told.0))) of));
        goes_on = second.calls.goes_on;
      };
      counted = second.writes.counted;
    }
