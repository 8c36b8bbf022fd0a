use Rattle.std.proofs.Common.{Err, ap, subst, ◌∙◌}
use Rattle.tbl_outside.specs.Counts.{RoseAlone}
use Rattle.cds_layout.specs.Looks.{LookCounted, text_ending}
use Rattle.tbl_top.proofs.ListingLemmas.{without_memory, after_fault, written}
use Rattle.tbl_top.proofs.listing.list_store.Goals as goal

pub returns-in-Err-Memory-clause-listing : goal.returns-in-Err-Memory-clause-listing
returns-in-Err-Memory-clause-listing g c =
    let reads = c.store_text.ensures.looks.reads in
    without_memory g.B.Bank _ _ _ reads.kept reads.moments
    (subst (λ r. LookCounted g.B.Bank c.args.bank.now c.store_text.new.bank (text_ending r)) (c.in-Err-Memory.is ∙ ap Err c.in-Err-Memory.field-0-is) reads.counted)

pub returns-in-Err-Fault-clause-listing : goal.returns-in-Err-Fault-clause-listing
returns-in-Err-Fault-clause-listing g c =
    let reads = c.store_text.ensures.looks.reads in
    let counted : RoseAlone g.B.Bank.faults g.B.Bank.stops c.args.bank.now c.store_text.new.bank =
    subst (λ r. LookCounted g.B.Bank c.args.bank.now c.store_text.new.bank (text_ending r)) (c.in-Err-Fault.is ∙ ap Err c.in-Err-Fault.field-0-is) reads.counted in
    after_fault g.B.Bank _ _ _ reads.kept reads.moments counted.0

pub returns-in-Ok-clause-listing : goal.returns-in-Ok-clause-listing
returns-in-Ok-clause-listing g c =
    let reads = c.store_text.ensures.looks.reads in
    written g.B.Bank _ _ _ reads.kept reads.moments c.in-Ok.text.list _ _ c.in-Ok.ensures.text c.write_text.ensures.status c.write_text.ensures.told
    (subst (λ r. LookCounted g.B.Bank c.args.bank.now c.store_text.new.bank (text_ending r)) c.in-Ok.is reads.counted)
