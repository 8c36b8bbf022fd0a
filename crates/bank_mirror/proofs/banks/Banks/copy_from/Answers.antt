use Rattle.std.proofs.Common.{◌≡◌, ◌+◌, Ok, length, take, ap, subst, arith, rules}
use Rattle.std.proofs.lemmas.List.{length-take}
use Rattle.bank_mirror.proofs.Copying.{copies_twice}
use Rattle.bank_mirror.proofs.banks.Banks.copy_from.Goals as goal

pub loop-at-preserved : goal.loop-at-preserved
loop-at-preserved g c =
    let call = c.in-Ok-Done.ensures in
    let count = c.min-count.result in
    let whole : length (take count c.loop-at.buffer) ≡ count = simp length-take (omega (arith, c.min-count.ensures, c.loop-at.auto.buffer, c.requires.buffer)) in
    record {
      within = omega (arith, c.loop-at-test.true, c.min-count.ensures);
      copied = λ told. subst (λ n. take (c.loop-at.at + n) (g.B.Bank.now c.copy_piece.new.self.second) ≡ take (c.loop-at.at + n) (g.A.Bank.now c.copy_piece.new.self.first)) whole (call.done (ap Ok c.in-Ok-Done.field-0-is) told);
      copies = copies_twice g.A.Bank g.B.Bank (λ told. (g.met.A.Bank.tells_both told.0, g.met.B.Bank.tells_both told.1)) c.args.good c.args.self.now c.loop-at.self c.copy_piece.new.self c.loop-at.invariant.copies call.copies;
    }

pub returns-in-Ok-Failed : goal.returns-in-Ok-Failed
returns-in-Ok-Failed g c = record {
  done = λ is. absurd (cc is);
  copies = copies_twice g.A.Bank g.B.Bank (λ told. (g.met.A.Bank.tells_both told.0, g.met.B.Bank.tells_both told.1)) c.args.good c.args.self.now c.loop-at.self c.copy_piece.new.self c.loop-at.invariant.copies c.copy_piece.ensures.copies;
  ends = search rules;
}

pub returns-in-Ok-Stopped : goal.returns-in-Ok-Stopped
returns-in-Ok-Stopped g c = record {
  done = λ is. absurd (cc is);
  copies = copies_twice g.A.Bank g.B.Bank (λ told. (g.met.A.Bank.tells_both told.0, g.met.B.Bank.tells_both told.1)) c.args.good c.args.self.now c.loop-at.self c.copy_piece.new.self c.loop-at.invariant.copies c.copy_piece.ensures.copies;
  ends = search rules;
}

pub returns-in-Err : goal.returns-in-Err
returns-in-Err g c = record {
  done = λ is. absurd (cc is);
  copies = copies_twice g.A.Bank g.B.Bank (λ told. (g.met.A.Bank.tells_both told.0, g.met.B.Bank.tells_both told.1)) c.args.good c.args.self.now c.loop-at.self c.copy_piece.new.self c.loop-at.invariant.copies c.copy_piece.ensures.copies;
  ends = search rules;
}
