use Rattle.std.proofs.Common.{rules, ◌≡◌, ◌++◌, List, ℕ, Err, sym, subst, ap, ◌∙◌}
use Rattle.cds_layout.specs.Entries.{slot_count}
use Rattle.cds_layout.specs.Images.{store_of}
use Rattle.cds_layout.specs.Lines.{last_line_of}
use Rattle.cds_layout.specs.Looks.{Looks, NoMemory, text_ending}
use Rattle.cds_layout.specs.Order.{looked_to}
use Rattle.cds_layout.specs.Texts.{lines_from}
use Rattle.cds_layout.specs.declared.listing.TextFault.TheVariants.{Memory}
use Rattle.cds_layout.proofs.LookLemmas.{no_look}
use Rattle.cds_layout.proofs.Texts.{text-is}
use Rattle.cds_layout.proofs.listing.listed.Goals as goal

pub returns-in_err-out-clause-looks : goal.returns-in_err-out-clause-looks
returns-in_err-out-clause-looks g c =
    let bank = c.args.bank.now in
    let same : c.from_residual-in_err-out.result ≡ Err Memory = search rules in
    subst (λ r. Looks g.B.Bank bank bank (looked_to slot_count (g.B.Bank.now bank) c.args.front.now.directory) (text_ending r)) (sym same)
    (record { reads = no_look g.B.Bank bank NoMemory (λ e. absurd cc) (λ image m left. g.met.B.Bank.leaves_only_now bank image m (g.met.B.Bank.only_now bank image m left)); bank_calls = λ told. tt })

pub returns-clause-text : goal.returns-clause-text
returns-clause-text g c told =
    let bytes = g.B.Bank.now c.args.bank.now in
    let lines : c.put_slots.new.out.list ≡ lines_from 0 (store_of bytes) = c.in_ok-put_slots.ensures.text told ∙ ap (λ (l : List ℕ). l ++ lines_from 0 (store_of bytes)) c.in_ok-out.ensures.empty in
    c.in_ok-put_summary.ensures ∙ (λ i. lines i ++ last_line_of ((c.requires.front.is told).told i)) ∙ text-is bytes
