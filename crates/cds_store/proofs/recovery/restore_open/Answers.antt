use Rattle.std.proofs.Common.{ℕ, ◌++◌, List, length, take, drop, Some, ◌≡◌, sym, ◌∙◌, ap, subst, None, Err, true, false, rules}
use Rattle.std.proofs.Math.Seq.{take-append_seam}
use Rattle.cds_layout.specs.Restores.{words, was_read}
use Rattle.cds_store.specs.Recovery.{Recovers}
use Rattle.cds_store.proofs.Recovered.{gives_none, gives_held, recovers_found, reads_none, reads_open}
use Rattle.cds_store.proofs.recovery.restore_open.Goals as goal

pub returns-in-Err-Torn-clause-restored : goal.returns-in-Err-Torn-clause-restored
returns-in-Err-Torn-clause-restored g c =
    let b = g.B.Bank in
    record {
      image = λ told blocks stands.
          recovers_found c.args.kind c.args.name.now blocks c.in-Some.slot None (c.in-Some.ensures.block blocks stands)
          (gives_none (b.now c.args.store.now.bank) c.args.store.now.slots blocks c.in-Some.slot c.in-Err-Torn.field-0 _ (ap words c.in-Err-Torn.field-0-is) stands.slots (stands.holds told) (c.in-Err-Torn.ensures.restores.torn told));
      none = search rules;
      still = search rules;
      bank_calls = λ told blocks stands.
          reads_open b.tells_calls b.calls c.args.kind c.args.name.now blocks (b.now c.args.store.now.bank) c.args.store.now.bank c.restore.new.self.bank true (was_read c.restore.result) c.args.store.now.slots c.in-Some.slot stands.slots (c.in-Some.ensures.block blocks stands)
          (ap was_read (c.in-Err-Torn.is ∙ ap Err c.in-Err-Torn.field-0-is)) (c.restore.ensures.restores.bank_calls told);
    }

pub returns-in-Ok-clause-restored : goal.returns-in-Ok-clause-restored
returns-in-Ok-clause-restored g c =
    let b = g.B.Bank in
    let len : c.in_ok-image.image.len ≡ length c.restore.new.into = search rules in
    let same : take c.in_ok-image.image.len (c.restore.new.into ++ drop (length c.restore.new.into) c.in_ok-image.image.items) ≡ c.restore.new.into =
    ap (λ n. take n (c.restore.new.into ++ drop (length c.restore.new.into) c.in_ok-image.image.items)) len ∙ take-append_seam c.restore.new.into _ in
    record {
      image = λ told blocks stands.
          subst (λ (l : List ℕ). Recovers c.args.kind c.args.name.now blocks (Some l)) (sym same)
          (recovers_found c.args.kind c.args.name.now blocks c.in-Some.slot (Some c.restore.new.into) (c.in-Some.ensures.block blocks stands)
          (gives_held (b.now c.args.store.now.bank) blocks c.in-Some.slot c.restore.new.into (stands.shows told) (c.in-Ok.ensures.restores.image told)));
      none = search rules;
      still = search rules;
      bank_calls = λ told blocks stands.
          reads_open b.tells_calls b.calls c.args.kind c.args.name.now blocks (b.now c.args.store.now.bank) c.args.store.now.bank c.restore.new.self.bank true (was_read c.restore.result) c.args.store.now.slots c.in-Some.slot stands.slots (c.in-Some.ensures.block blocks stands)
          (ap was_read c.in-Ok.is) (c.restore.ensures.restores.bank_calls told);
    }

pub returns-in-Err-NoImage-clause-restored : goal.returns-in-Err-NoImage-clause-restored
returns-in-Err-NoImage-clause-restored g c =
    let b = g.B.Bank in
    record {
      image = λ told blocks stands.
          recovers_found c.args.kind c.args.name.now blocks c.in-Some.slot None (c.in-Some.ensures.block blocks stands)
          (gives_none (b.now c.args.store.now.bank) c.args.store.now.slots blocks c.in-Some.slot c.in-Err-NoImage.field-0 _ (ap words c.in-Err-NoImage.field-0-is) stands.slots (stands.holds told) (c.in-Err-NoImage.ensures.restores.torn told));
      none = search rules;
      still = search rules;
      bank_calls = λ told blocks stands.
          reads_open b.tells_calls b.calls c.args.kind c.args.name.now blocks (b.now c.args.store.now.bank) c.args.store.now.bank c.restore.new.self.bank true (was_read c.restore.result) c.args.store.now.slots c.in-Some.slot stands.slots (c.in-Some.ensures.block blocks stands)
          (ap was_read (c.in-Err-NoImage.is ∙ ap Err c.in-Err-NoImage.field-0-is)) (c.restore.ensures.restores.bank_calls told);
    }

pub returns-clause-not_restored : goal.returns-clause-not_restored
returns-clause-not_restored g c =
    let b = g.B.Bank in
    record {
      fault = search rules;
      bank_calls = λ other told blocks stands.
          reads_open b.tells_calls b.calls c.args.kind c.args.name.now blocks (b.now c.args.store.now.bank) c.args.store.now.bank c.restore.new.self.bank false (was_read c.restore.result) c.args.store.now.slots c.in-Some.slot stands.slots (c.in-Some.ensures.block blocks stands)
          (search rules) (c.restore.ensures.restores.bank_calls told);
    }

pub returns-in_default-clause-restored : goal.returns-in_default-clause-restored
returns-in_default-clause-restored g c =
    let b = g.B.Bank in
    record {
      image = search rules;
      none = search rules;
      still = search rules;
      bank_calls = λ told blocks stands. reads_none b.tells_calls b.calls c.args.kind c.args.name.now blocks (b.now c.args.store.now.bank) c.args.store.now.bank (c.in_default.ensures.block blocks stands);
    }
